-- Ids without a text are added one behind the other, each once.
use Rattle.std.proofs.Common.{◌≡◌, ◌==◌, ℕ, ◌+◌, ◌≤◌, ◌<◌, get_or, Bool, true, false, cond, not, Option, Some, None, List, [], ◌∷◌, ◌++◌, length, take, drop, refl, sym, ap, subst, ◌∙◌, append_assoc, append-nil, arith}
use Rattle.std.specs.Prelude.{◌&&◌, ◌||◌, filter}
use Rattle.std.specs.List.{cons_option, filter_map}
use Rattle.std.proofs.lemmas.List.{at_drop_more}
use Rattle.browser_rules.specs.Forest.{stated_length}
use Rattle.browser_rules.specs.Strings.{Spoken}
use Rattle.hii_bytes.specs.code.NumberSets.{has_number}
use Rattle.opcode_audit.specs.Facts.{string_ids}
use Rattle.opcode_audit.specs.Walk.{fits, opcodes_from}
use Rattle.opcode_audit.proofs.LineLemmas.{first_of, from_first, none_from, shorter}
use Rattle.check_audit.specs.Warnings.{firsts, id_of, is_of_other, is_textless, textless_among, textless_at, textless_warnings}
use Rattle.check_audit.specs.code.Naming.{AddsFirsts, is_unnamed}
use Rattle.check_audit.specs.declared.warning.Oddity.TheVariants.{Text}
use Rattle.check_audit.specs.declared.warning.Warning.{Warning}

-- what two tests one behind the other leave is what both leave
one_more : (p q r : Warning → Bool) → ((w : Warning) → p w ≡ q w && r w) → (w : Warning) (ws : List Warning) (one other : Bool) → q w ≡ one → r w ≡ other → filter p ws ≡ filter r (filter q ws) → filter p (w ∷ ws) ≡ filter r (filter q (w ∷ ws))
one_more p q r both w ws false other e h met = rw (both w, e) met
one_more p q r both w ws true false e h met = rw (both w, e, h) met
one_more p q r both w ws true true e h met = rw (both w, e, h) (ap (λ (l : List Warning). w ∷ l) met)

twice : (p q r : Warning → Bool) → ((w : Warning) → p w ≡ q w && r w) → (ws : List Warning) → filter p ws ≡ filter r (filter q ws)
twice p q r both [] = refl
twice p q r both (w ∷ ws) = one_more p q r both w ws (q w) (r w) refl refl (twice p q r both ws)

-- whether an id is new is whether it is another one than one more, and new without that
apart : (id other : ℕ) (has : Bool) → not (id == other || has) ≡ not (id == other) && not has
apart id other has = go (id == other)
  where
    go : (same : Bool) → not (same || has) ≡ not same && not has
    go true = refl
    go false = refl

-- one more id
module _ (old new : List Bool) (w : Warning) (numbers : (other : ℕ) → has_number new other ≡ (id_of w.oddity == other || has_number old other)) where
  left_unnamed : (ws : List Warning) → filter (is_unnamed new) ws ≡ filter (is_unnamed old) (filter (is_of_other w) ws)
  left_unnamed = twice (is_unnamed new) (is_of_other w) (is_unnamed old) (λ v. ap not (numbers (id_of v.oddity)) ∙ apart (id_of w.oddity) (id_of v.oddity) (has_number old (id_of v.oddity)))

  -- that was not named
  pub named_first : (before after : List Warning) → after ≡ before ++ w ∷ [] → true ≡ not (has_number old (id_of w.oddity)) → AddsFirsts old new before after (w ∷ [])
  named_first before after pushed is = λ left.
      let tail = left_unnamed (firsts left) in
      ap (λ (l : List Warning). l ++ filter (is_unnamed new) (firsts left)) pushed
      ∙ append_assoc before (w ∷ []) (filter (is_unnamed new) (firsts left))
      ∙ ap (λ (l : List Warning). before ++ w ∷ l) tail
      ∙ ap (λ (b : Bool). before ++ cond b (w ∷ filter (is_unnamed old) (filter (is_of_other w) (firsts left))) (filter (is_unnamed old) (filter (is_of_other w) (firsts left)))) is

  -- that was
  pub named_again : (before : List Warning) → false ≡ not (has_number old (id_of w.oddity)) → AddsFirsts old new before before (w ∷ [])
  named_again before is = λ left.
      ap (λ (l : List Warning). before ++ l) (left_unnamed (firsts left))
      ∙ ap (λ (b : Bool). before ++ cond b (w ∷ filter (is_unnamed old) (filter (is_of_other w) (firsts left))) (filter (is_unnamed old) (filter (is_of_other w) (firsts left)))) is

-- the warning of an id without a text, and none of another one
pub of_textless : (spoken : List Spoken) (place id : ℕ) → is_textless spoken id ≡ true → cons_option (textless_at spoken place id) [] ≡ record { place = place; oddity = Text id } ∷ []
of_textless spoken place id is = rw is refl

pub of_other : (spoken : List Spoken) (place id : ℕ) → is_textless spoken id ≡ false → cons_option (textless_at spoken place id) [] ≡ []
of_other spoken place id is = rw is refl

-- an id that has a text, or none
front_of : (o : Option Warning) (behind left : List Warning) → cons_option o [] ++ (behind ++ left) ≡ cons_option o behind ++ left
front_of None behind left = refl
front_of (Some w) behind left = refl

-- the ids of an opcode that are left, of which the first was looked at
pub ids_more : (f : ℕ → Option Warning) (mid new : List Bool) (id : ℕ) (ids : List ℕ) (i : ℕ) (before after : List Warning) (all : List Warning → List Warning) → i < length ids → id ≡ get_or ids i 0
    → AddsFirsts mid new before after (cons_option (f id) []) → ((left : List Warning) → before ++ filter (is_unnamed mid) (firsts (filter_map f (drop i ids) ++ left)) ≡ all left)
    → (left : List Warning) → after ++ filter (is_unnamed new) (firsts (filter_map f (drop (i + 1) ids) ++ left)) ≡ all left
ids_more f mid new id ids i before after all lt is adds met = λ left.
    let behind = filter_map f (drop (i + 1) ids) in
    let here = at_drop_more (filter_map f) ids i 0 lt ∙ ap (λ (k : ℕ). cons_option (f k) behind) (sym is) in
    adds (behind ++ left)
    ∙ ap (λ (l : List Warning). before ++ filter (is_unnamed mid) (firsts l)) (front_of (f id) behind left ∙ ap (λ (l : List Warning). l ++ left) (sym here))
    ∙ met left

-- The ids of the opcodes before those that are left are added, of which the first stands at a place.
pub record Names (spoken : List Spoken) (named : List Bool) (warnings all : List Warning) (place : ℕ) (rest : List ℕ) : Type 0 where
  pub fuel : ℕ
  pub enough : length rest ≤ fuel
  pub adds : warnings ++ filter (is_unnamed named) (firsts (textless_among spoken place (opcodes_from fuel rest))) ≡ all

none_named : (named : List Bool) → ((number : ℕ) → has_number named number ≡ false) → (ws : List Warning) → filter (is_unnamed named) ws ≡ ws
none_named named none [] = refl
none_named named none (w ∷ ws) = rw (none (id_of w.oddity)) (ap (λ (l : List Warning). w ∷ l) (none_named named none ws))

-- at the beginning all are left
pub begins : (spoken : List Spoken) (named : List Bool) (warnings : List Warning) (ifr rest : List ℕ) → ((number : ℕ) → has_number named number ≡ false) → rest ≡ drop 4 ifr
    → Names spoken named warnings (warnings ++ textless_warnings spoken ifr) 4 rest
begins spoken named warnings ifr rest none is =
    subst (λ (r : List ℕ). Names spoken named warnings (warnings ++ textless_warnings spoken ifr) 4 r) (sym is)
    record { fuel = length (drop 4 ifr); enough = omega arith; adds = ap (λ (l : List Warning). warnings ++ l) (none_named named none (textless_warnings spoken ifr)) }

-- one more opcode
pub goes_on : (spoken : List Spoken) (mid new : List Bool) (before after all : List Warning) (place : ℕ) (rest op behind : List ℕ) → Names spoken mid before all place rest → fits rest ≡ true
    → op ≡ take (stated_length rest) rest → behind ≡ drop (stated_length rest) rest → AddsFirsts mid new before after (filter_map (textless_at spoken place) (string_ids op)) → Names spoken new after all (place + length op) behind
goes_on spoken mid new before after all place rest op behind names fit is_op is_behind adds =
    let one = first_of names.fuel rest names.enough fit in
    let less = one.0 in
    let split : opcodes_from names.fuel rest ≡ op ∷ opcodes_from less behind =
    ap (λ (n : ℕ). opcodes_from n rest) one.1 ∙ from_first less rest fit
    ∙ ap (λ (o : List ℕ). o ∷ opcodes_from less (drop (stated_length rest) rest)) (sym is_op)
    ∙ ap (λ (r : List ℕ). op ∷ opcodes_from less r) (sym is_behind) in
    let short = shorter less rest (subst (λ (n : ℕ). length rest ≤ n) one.1 names.enough) fit in
    record {
      fuel = less;
      enough = subst (λ (r : List ℕ). length r ≤ less) (sym is_behind) short;
      adds = adds (textless_among spoken (place + length op) (opcodes_from less behind))
          ∙ ap (λ (ops : List (List ℕ)). before ++ filter (is_unnamed mid) (firsts (textless_among spoken place ops))) (sym split) ∙ names.adds;
    }

-- at the end all are added
pub ends : (spoken : List Spoken) (named : List Bool) (warnings all : List Warning) (place : ℕ) (rest : List ℕ) → Names spoken named warnings all place rest → fits rest ≡ false → warnings ≡ all
ends spoken named warnings all place rest names cut =
    sym (append-nil warnings) ∙ ap (λ (ops : List (List ℕ)). warnings ++ filter (is_unnamed named) (firsts (textless_among spoken place ops))) (sym (none_from names.fuel rest cut)) ∙ names.adds
