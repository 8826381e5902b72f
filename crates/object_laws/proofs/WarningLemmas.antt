-- Objects in which `check` warns tell facts.
use Rattle.std.proofs.Common.{◌||◌, not, nat_abs, ℕ, zero, suc, ◌^◌, ◌<◌, Bool, List, [], ◌∷◌, ◌++◌, Option, Some, None, IfSome, slice_get, codes, refl, arith}
use Rattle.std.specs.List.{AllByRecursion}
use Rattle.std.proofs.lemmas.Bool.{cond_both}
use Rattle.browser_rules.specs.Strings.{Spoken}
use Rattle.hii_bytes.specs.Numbers.{AreBytes}
use Rattle.ifr_opcodes.specs.Fields.{default_id, form_id, question_id}
use Rattle.ifr_opcodes.specs.Forest.{Node, node_at}
use Rattle.ifr_nodes.specs.NodeExpressions.{expression_tree}
use Rattle.condition_text.specs.Senses.{sense}
use Rattle.condition_text.specs.Texts.{text}
use Rattle.hii_values.specs.declared.denial.DenialKind.{DenialKind}
use Rattle.audit_json.specs.Objects.{number_member, object, word_member}
use Rattle.hii_questions.specs.Fields.{Asked, Field, is_same_field, meets}
use Rattle.check_audit.specs.Constants.{constant_at, holds_always}
use Rattle.check_audit.specs.GivenDefaults.{refused}
use Rattle.check_audit.specs.Lacks.{Lack, numbered_lacks}
use Rattle.check_audit.specs.Overlaps.{field_of_laid, laid_at, overlap_of}
use Rattle.check_audit.specs.WarningLines.{Details, bounds_members, constant_members, denial_word, lack_members, warning_object}
use Rattle.check_audit.specs.Warnings.{asking, crossed_spans, is_textless, numbered_bounds, textless_at, unreached_at}
use Rattle.json_laws.specs.laws.Telling.{IsReadBack, TellsFacts}
use Rattle.json_laws.specs.laws.Written.{IsWord}
use Rattle.json_laws.proofs.ConditionLemmas.{condition_word}
use Rattle.json_laws.proofs.TellingLemmas.{read_back, tells_behind, tells_integer, tells_member, tells_nothing, tells_text}
use Rattle.object_laws.specs.laws.Checks.{CanDetail, CanLack}
use Rattle.object_laws.proofs.CheckLemmas.{number_member_told}
use Rattle.object_laws.proofs.FieldLemmas.{two_bytes}
use Rattle.object_laws.proofs.MemberLemmas.{kind_word, where_told, word_told}

-- what holds of each of a list holds of the one at a number, where there is one
pub at_number : {X : Type 0} (P : X → Type 0) (xs : List X) (n : ℕ) → AllByRecursion P xs → IfSome (slice_get xs n) P
at_number P [] n all = tt
at_number P (x ∷ xs) zero all = all.0
at_number P (x ∷ xs) (suc n) all = at_number P xs n all.1

-- ---- members

pub denial_is_word : (o : Option DenialKind) → IsWord (denial_word o)
denial_is_word None = refl
denial_is_word (Some kind) = kind_word kind

-- the bounds of a warning, of which the type has no name here
abbrev pub ElementOf : {X : Type 0} → List X → Type 0
ElementOf {X} xs = X

abbrev pub Span : Type 0
Span = ElementOf (crossed_spans [])

bounds_told : (o : Option Span) → IfSome o (λ span. (nat_abs span.minimum < 2 ^ 64) × (nat_abs span.maximum < 2 ^ 64)) → TellsFacts (bounds_members o)
bounds_told None small = tells_nothing
bounds_told (Some span) small = tells_behind (tells_member (codes "minimum") refl (tells_integer span.minimum small.0)) (tells_member (codes "maximum") refl (tells_integer span.maximum small.1))

constant_told : (holds : Bool) (o : Option Node) → TellsFacts (constant_members holds o)
constant_told holds None = tells_nothing
constant_told holds (Some g) =
    let said = sense (expression_tree g) in
    tells_behind (where_told holds (codes "holds") refl) (word_told (codes "condition") (text said) refl (condition_word said))

lack_told : (o : Option Lack) → IfSome o CanLack → TellsFacts (lack_members o)
lack_told None can = tells_nothing
lack_told (Some lack) can =
    tells_behind (tells_behind (tells_member (codes "language") refl (tells_text lack.language can.language)) (number_member_told (codes "lacks") lack.lacks refl can.lacks))
    (number_member_told (codes "texts") lack.texts refl can.texts)

two_numbers : (key other : List ℕ) (n m : ℕ) → IsWord key → IsWord other → n < 2 ^ 64 → m < 2 ^ 64 → TellsFacts (number_member key n ++ number_member other m)
two_numbers key other n m plain too small few = tells_behind (number_member_told key n plain small) (number_member_told other m too few)

-- ---- warnings of each word

warned : {members : List ℕ} (place : ℕ) (word : List ℕ) → place < 2 ^ 64 → IsWord word → TellsFacts members
    → IsReadBack (codes "warning") (object (codes "warning") (number_member (codes "at") place ++ word_member (codes "word") word ++ members))
warned place word small plain told = read_back (codes "warning") refl (tells_behind (tells_behind (number_member_told (codes "at") place refl small) (word_told (codes "word") word refl plain)) told)

pub asks_back : (d : Details) (place id : ℕ) (is_there : Bool) → place < 2 ^ 64 → id < 2 ^ 64 → IsReadBack (codes "warning") (warning_object d (asking place id is_there))
asks_back d place id is_there near small = warned place (codes "asks") near refl (number_member_told (codes "id") id refl small)

pub bounds_back : (d : Details) (k : ℕ) (ns : List Node) → CanDetail d → AllByRecursion (λ n. n.place < 2 ^ 64) ns → AllByRecursion (λ w. IsReadBack (codes "warning") (warning_object d w)) (numbered_bounds k ns)
bounds_back d k [] can near = tt
bounds_back d k (n ∷ ns) can near =
    (warned n.place (codes "bounds") near.0 refl (bounds_told (slice_get d.spans k) (at_number _ d.spans k can.spans)), bounds_back d (suc k) ns can near.1)

pub constant_back : (d : Details) (ns : List Node) (g : Node) → g.place < 2 ^ 64 → IsReadBack (codes "warning") (warning_object d (constant_at ns g))
constant_back d ns g near = warned g.place (codes "constant") near refl (constant_told (holds_always ns g) (node_at d.nodes g.place))

pub language_back : (d : Details) (k : ℕ) (lacks : List Lack) → CanDetail d → AllByRecursion (λ w. IsReadBack (codes "warning") (warning_object d w)) (numbered_lacks k lacks)
language_back d k [] can = tt
language_back d k (lack ∷ lacks) can =
    (warned 4 (codes "language") (omega arith) refl (lack_told (slice_get d.lacks k) (at_number CanLack d.lacks k can.lacks)), language_back d (suc k) lacks can)

pub default_back : (d : Details) (q : Asked) (n : Node) (denial : Option DenialKind) → n.place < 2 ^ 64 → AreBytes n.op → AreBytes q.node.op
    → IsReadBack (codes "warning") (warning_object d (refused q n denial))
default_back d q n denial near are too =
    warned n.place (codes "default") near refl
    (tells_behind (two_numbers (codes "class") (codes "question") (default_id n.op) (question_id q.node.op) refl refl (two_bytes n.op 2 are) (two_bytes q.node.op 6 too))
    (word_told (codes "denial") (denial_word denial) refl (denial_is_word denial)))

pub overlap_back : (d : Details) (n m : Node) (before next : Field) → m.place < 2 ^ 64 → AreBytes n.op → AreBytes m.op
    → IfSome (overlap_of (laid_at n before) (laid_at m next)) (λ w. IsReadBack (codes "warning") (warning_object d w))
overlap_back d n m before next near are too =
    let one = field_of_laid (laid_at n before) in
    let other = field_of_laid (laid_at m next) in
    cond_both (is_same_field one other || not (meets other one)) None _ (λ o. IfSome o (λ w. IsReadBack (codes "warning") (warning_object d w))) (λ _. tt)
    (λ _. warned m.place (codes "overlap") near refl
    (two_numbers (codes "question") (codes "other") (question_id m.op) (question_id n.op) refl refl (two_bytes m.op 6 too) (two_bytes n.op 6 are)))

pub text_back : (d : Details) (spoken : List Spoken) (place id : ℕ) → place < 2 ^ 64 → id < 2 ^ 64
    → IfSome (textless_at spoken place id) (λ w. IsReadBack (codes "warning") (warning_object d w))
text_back d spoken place id near small =
    cond_both (is_textless spoken id) _ None (λ o. IfSome o (λ w. IsReadBack (codes "warning") (warning_object d w)))
    (λ _. warned place (codes "text") near refl (number_member_told (codes "id") id refl small)) (λ _. tt)

pub unreached_back : (d : Details) (named : ℕ → Bool) (form : Node) → form.place < 2 ^ 64 → AreBytes form.op
    → IfSome (unreached_at named form) (λ w. IsReadBack (codes "warning") (warning_object d w))
unreached_back d named form near are =
    cond_both (named (form_id form.op)) None _ (λ o. IfSome o (λ w. IsReadBack (codes "warning") (warning_object d w))) (λ _. tt)
    (λ _. warned form.place (codes "unreached") near refl (number_member_told (codes "form") (form_id form.op) refl (two_bytes form.op 2 are)))
