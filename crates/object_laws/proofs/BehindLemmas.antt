-- Objects of what `check` sees before a fault, and of how much a package has, tell facts.
use Rattle.std.proofs.Common.{◌≡◌, ◌==◌, ◌&&◌, nat_le, ℕ, zero, suc, ◌^◌, ◌<◌, ◌≤◌, Bool, true, List, [], ◌∷◌, Some, None, IfSome, filter, map, take, drop, length, codes, refl, ap, arith}
use Rattle.std.specs.List.{AllByRecursion}
use Rattle.std.specs.Str.{all_scalars}
use Rattle.std.proofs.lemmas.Bool.{cond_both}
use Rattle.browser_rules.specs.Forest.{stated_length}
use Rattle.hii_bytes.specs.Numbers.{AreBytes}
use Rattle.ifr_opcodes.specs.Fields.{form_id, form_title, question_id, statement_prompt}
use Rattle.ifr_opcodes.specs.Opcode.{number}
use Rattle.ifr_opcodes.specs.Rows.{is_question_number}
use Rattle.ifr_opcodes.specs.declared.codes.TheConstants.{FORM}
use Rattle.ifr_nodes.specs.Nodes.{is_form, is_question, is_store, nodes_of}
use Rattle.hii_questions.specs.Fields.{asked, questions}
use Rattle.opcode_audit.specs.Walk.{fits, opcodes_from, opcodes_in}
use Rattle.check_audit.specs.Behind.{form_in, nothing_seen, question_in, seen_before, seen_from, seen_with, with_either, with_question}
use Rattle.check_audit.specs.Lines.{Setting, good_object, named_object, text_of}
use Rattle.check_audit.specs.Verdicts.{counts_of}
use Rattle.json_laws.specs.laws.Telling.{IsReadBack}
use Rattle.json_laws.specs.laws.Written.{IsWord}
use Rattle.json_laws.proofs.TellingLemmas.{read_back, tells_behind, tells_member, tells_text}
use Rattle.json_laws.proofs.WordLemmas.{Bytes, all_bytes, are_bytes, bytes_drop, bytes_take}
use Rattle.object_laws.proofs.CheckLemmas.{number_member_told}
use Rattle.object_laws.proofs.FieldLemmas.{two_bytes}

-- ---- opcodes of bytes are bytes

opcodes_bytes : (n : ℕ) (bytes : List ℕ) → Bytes bytes → AllByRecursion AreBytes (opcodes_from n bytes)
unfolding opcodes_from
opcodes_bytes zero bytes all = tt
opcodes_bytes (suc n) bytes all =
    let size = stated_length bytes in
    cond_both (fits bytes) (take size bytes ∷ opcodes_from n (drop size bytes)) [] (λ l. AllByRecursion AreBytes l)
    (λ _. (are_bytes (take size bytes) (bytes_take size bytes all), opcodes_bytes n (drop size bytes) (bytes_drop size bytes all))) (λ _. tt)

-- ---- the form and the question before a place

-- what is seen, of which the type has no name here
abbrev pub TypeOf : {X : Type 0} → X → Type 0
TypeOf {X} x = X

abbrev pub SeenOne : Type 0
SeenOne = TypeOf nothing_seen.form

abbrev pub Seen : Type 0
Seen = TypeOf nothing_seen

abbrev pub ShowsText : Setting → Type 0
ShowsText s = (id : ℕ) → id < 2 ^ 64 → all_scalars (text_of s.spoken id) ≡ true

abbrev pub IsShown : Setting → ℕ → ℕ → Type 0
IsShown s id text = (id < 2 ^ 64) × (all_scalars (text_of s.spoken text) ≡ true)

form_shown : (s : Setting) (op : List ℕ) → ShowsText s → AreBytes op → IfSome (form_in op) (λ n. IsShown s n.id n.text)
form_shown s op shows are =
    cond_both {A = SeenOne} (number op == FORM && nat_le 6 (length op)) (Some record { id = form_id op; text = form_title op }) None (λ o. IfSome o (λ n. IsShown s n.id n.text)) (λ _. (two_bytes op 2 are, shows (form_title op) (two_bytes op 4 are))) (λ _. tt)

question_shown : (s : Setting) (op : List ℕ) → ShowsText s → AreBytes op → IfSome (question_in op) (λ n. IsShown s n.id n.text)
question_shown s op shows are =
    cond_both {A = SeenOne} (is_question_number (number op) && nat_le 13 (length op)) (Some record { id = question_id op; text = statement_prompt op }) None (λ o. IfSome o (λ n. IsShown s n.id n.text)) (λ _. (two_bytes op 6 are, shows (statement_prompt op) (two_bytes op 2 are))) (λ _. tt)

abbrev pub AreShown : Setting → Seen → Type 0
AreShown s seen = IfSome seen.form (λ n. IsShown s n.id n.text) × IfSome seen.question (λ n. IsShown s n.id n.text)

shown_with : (s : Setting) (form : SeenOne) (question : SeenOne) (seen : Seen)
    → IfSome form (λ n. IsShown s n.id n.text) → IfSome question (λ n. IsShown s n.id n.text) → AreShown s seen → AreShown s (with_either form question seen)
shown_with s None question seen form_is question_is are = behind_form seen.form question are.0 question_is are
  where
    behind_form : (form : SeenOne) (question : SeenOne) → IfSome form (λ n. IsShown s n.id n.text) → IfSome question (λ n. IsShown s n.id n.text)
        → AreShown s seen → AreShown s (with_question form question seen)
    behind_form None question form_is question_is are = are
    behind_form (Some form) None form_is question_is are = are
    behind_form (Some form) (Some question) form_is question_is are = (form_is, question_is)
shown_with s (Some form) question seen form_is question_is are = (form_is, tt)

shown_from : (s : Setting) (ops : List (List ℕ)) (seen : Seen) → ShowsText s → AllByRecursion AreBytes ops → AreShown s seen → AreShown s (seen_from seen ops)
shown_from s [] seen shows all are = are
shown_from s (op ∷ ops) seen shows all are =
    shown_from s ops (seen_with seen op) shows all.1
    (shown_with s (form_in op) (question_in op) seen (form_shown s op shows all.0) (question_shown s op shows all.0) are)

pub are_shown : (s : Setting) (ifr : List ℕ) (place : ℕ) → AreBytes ifr → ShowsText s → AreShown s (seen_before ifr place)
are_shown s ifr place are shows =
    let before = drop 4 (take place ifr) in
    shown_from s (opcodes_in before) nothing_seen shows (opcodes_bytes (length before) before (bytes_drop 4 (take place ifr) (bytes_take place ifr (all_bytes ifr are)))) (tt, tt)

named_back : (s : Setting) (word : List ℕ) (o : SeenOne) → IsWord word → IfSome o (λ n. IsShown s n.id n.text) → IfSome o (λ n. IsReadBack word (named_object s word n))
named_back s word None plain shown = tt
named_back s word (Some n) plain shown =
    read_back word plain (tells_behind (number_member_told (codes "id") n.id refl shown.0) (tells_member (codes "text") refl (tells_text (text_of s.spoken n.text) shown.1)))

pub form_seen_back : (s : Setting) (ifr : List ℕ) (place : ℕ) → AreBytes ifr → ((id : ℕ) → id < 2 ^ 64 → all_scalars (text_of s.spoken id) ≡ true)
    → IfSome (seen_before ifr place).form (λ n. IsReadBack (codes "form") (named_object s (codes "form") n))
form_seen_back s ifr place are shows = named_back s (codes "form") (seen_before ifr place).form refl (are_shown s ifr place are shows).0

pub question_seen_back : (s : Setting) (ifr : List ℕ) (place : ℕ) → AreBytes ifr → ((id : ℕ) → id < 2 ^ 64 → all_scalars (text_of s.spoken id) ≡ true)
    → IfSome (seen_before ifr place).question (λ n. IsReadBack (codes "behind") (named_object s (codes "behind") n))
question_seen_back s ifr place are shows = named_back s (codes "behind") (seen_before ifr place).question refl (are_shown s ifr place are shows).1

-- ---- how much a package has

fewer : {X : Type 0} (test : X → Bool) (xs : List X) → length (filter test xs) ≤ length xs
fewer test [] = omega arith
fewer test (x ∷ xs) = cond_both (test x) (x ∷ filter test xs) (filter test xs) (λ l. length l ≤ suc (length xs)) (λ _. omega (arith, fewer test xs)) (λ _. omega (arith, fewer test xs))

as_many : {X Y : Type 0} (f : X → Y) (xs : List X) → length (map f xs) ≡ length xs
as_many f [] = refl
as_many f (x ∷ xs) = ap suc (as_many f xs)

pub good_back : (ifr : List ℕ) → length (nodes_of ifr) < 2 ^ 64 → IsReadBack (codes "good") (good_object (counts_of ifr))
good_back ifr small =
    let ns = nodes_of ifr in
    let forms : length (filter is_form ns) < 2 ^ 64 = omega (arith, fewer is_form ns) in
    let asks : length (questions ns) < 2 ^ 64 = omega (arith, as_many (asked ns) (filter is_question ns), fewer is_question ns) in
    let stores : length (filter is_store ns) < 2 ^ 64 = omega (arith, fewer is_store ns) in
    read_back (codes "good") refl
    (tells_behind (tells_behind (number_member_told (codes "forms") (length (filter is_form ns)) refl forms) (number_member_told (codes "questions") (length (questions ns)) refl asks))
    (number_member_told (codes "stores") (length (filter is_store ns)) refl stores))
