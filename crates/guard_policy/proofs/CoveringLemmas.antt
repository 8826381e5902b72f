-- The guards around a node are met from the innermost outwards.
use Rattle.std.proofs.Common.{◌≡◌, ℕ, Bool, true, false, Option, Some, None, List, [], ◌∷◌, ◌++◌, refl, sym, ap, ◌∙◌, inl, inr}
use Rattle.std.specs.Prelude.{◌==◌, ◌&&◌, ◌||◌, if◌then◌else◌, option_and_then, option_map, reverse}
use Rattle.std.specs.List.{find, list_any}
use Rattle.std.specs.Option.{option_or}
use Rattle.std.proofs.lemmas.Bool.{cases_Bool, eqb-true, true≢false}
use Rattle.std.proofs.lemmas.List.{reverse-append, reverse-reverse}
use Rattle.std.proofs.lemmas.List.Folds.{find-append}
use Rattle.std.proofs.lemmas.List.Sorted.{IsPermutation-reverse, list_any-IsPermutation}
use Rattle.ifr_opcodes.specs.declared.codes.TheConstants.{SUPPRESS_IF, GRAY_OUT_IF, DISABLE_IF}
use Rattle.ifr_opcodes.specs.Forest.{Node}
use Rattle.ifr_opcodes.specs.Opcode.{number}
use Rattle.ifr_opcodes.specs.Rows.{is_among}
use Rattle.ifr_nodes.specs.Guards.{guards}
use Rattle.ifr_nodes.specs.Locks.{first_lock}
use Rattle.ifr_nodes.specs.Nodes.{is_question}
use Rattle.hii_values.specs.declared.denial.DenialKind.TheVariants.{GrayOutIf, Locked}
use Rattle.hii_questions.specs.Fields.{Asked, asked}
use Rattle.guard_policy.specs.Policy.{covered, denied_by, fixed, fixed_itself, fixed_question, grays_out, hidden, hides, or_else}
use Rattle.guard_policy.specs.World.{World, is_met}
use Rattle.guard_policy.specs.declared.denial.Denial.{Denial}

-- the denial of what is found among the guards that are still to come, the outermost of which is the last, else what was found before
abbrev pub outermost : (Node → Denial) → (Node → Bool) → List Node → Option Denial → Option Denial
outermost denial which left found = option_or (option_map denial (find which (reverse left))) found

or_later : (denial : Node → Denial) (a b : Option Node) (c : Option Denial) → option_or (option_map denial (option_or a b)) c ≡ option_or (option_map denial a) (option_or (option_map denial b) c)
or_later denial None b c = refl
or_later denial (Some n) b c = refl

one : (denial : Node → Denial) (which : Node → Bool) (g : Node) (found : Option Denial) → (if which g then Some (denial g) else found) ≡ option_or (option_map denial (find which (g ∷ []))) found
one denial which g found = elim (cases_Bool (which g)) [ inl is ↦ rw is refl | inr other ↦ rw other refl ]

met : (denial : Node → Denial) (which : Node → Bool) (left rest : List Node) (g : Node) (found : Option Denial) → left ≡ g ∷ rest → outermost denial which rest (if which g then Some (denial g) else found) ≡ outermost denial which left found
met denial which left rest g found e =
    let turned : reverse left ≡ reverse rest ++ g ∷ [] = ap reverse e ∙ reverse-append (g ∷ []) rest in
    ap (option_or (option_map denial (find which (reverse rest)))) (one denial which g found)
    ∙ sym (or_later denial (find which (reverse rest)) (find which (g ∷ [])) found)
    ∙ ap (λ (o : Option Node). option_or (option_map denial o) found) (sym (find-append which (reverse rest) (g ∷ [])) ∙ ap (find which) (sym turned))

-- a guard that does takes the place of what was found before, and another leaves it
pub does : (denial : Node → Denial) (which : Node → Bool) (left rest : List Node) (g : Node) (found : Option Denial) → left ≡ g ∷ rest → which g ≡ true → outermost denial which rest (Some (denial g)) ≡ outermost denial which left found
does denial which left rest g found e is = ap (λ (b : Bool). outermost denial which rest (if b then Some (denial g) else found)) (sym is) ∙ met denial which left rest g found e

pub does_not : (denial : Node → Denial) (which : Node → Bool) (left rest : List Node) (g : Node) (found : Option Denial) → left ≡ g ∷ rest → which g ≡ false → outermost denial which rest found ≡ outermost denial which left found
does_not denial which left rest g found e other = ap (λ (b : Bool). outermost denial which rest (if b then Some (denial g) else found)) (sym other) ∙ met denial which left rest g found e

nothing_before : (o : Option Denial) → option_or o None ≡ o
nothing_before None = refl
nothing_before (Some d) = refl

-- at first all are still to come
pub all_come : (denial : Node → Denial) (which : Node → Bool) (left gs : List Node) → left ≡ reverse gs → outermost denial which left None ≡ option_map denial (find which gs)
all_come denial which left gs e = nothing_before (option_map denial (find which (reverse left))) ∙ ap (λ (its : List Node). option_map denial (find which its)) (ap reverse e ∙ reverse-reverse gs)

-- no guard hides and grays out
pub hides_alone : (w : World) (g : Node) → hides w g ≡ true → grays_out w g ≡ false
hides_alone w g is = elim (cases_Bool (number g.op == GRAY_OUT_IF)) [
  | inl gray ↦
      let other : hides w g ≡ false = ap (λ (code : ℕ). (code == DISABLE_IF && is_among g.place w.removed) || (code == SUPPRESS_IF && is_met w g)) (eqb-true (number g.op) GRAY_OUT_IF gray) in
      absurd (true≢false (sym is ∙ other))
  | inr other ↦ ap (λ (b : Bool). b && is_met w g) other
]

-- whether some guard does does not depend on their order
pub any_turned : (which : Node → Bool) (left gs : List Node) → left ≡ reverse gs → list_any which left ≡ list_any which gs
any_turned which left gs e = ap (list_any which) e ∙ sym (list_any-IsPermutation which gs (reverse gs) (IsPermutation-reverse gs))

-- ---- what the guards that were found decide

-- what hides a node decides of a change too
pub fixed_hidden : (w : World) (n : Node) (d : Denial) → Some d ≡ hidden w n → fixed w n ≡ Some d
fixed_hidden w n d e = ap (λ (o : Option Denial). or_else (or_else o (or_else (option_map (denied_by GrayOutIf) (find (grays_out w) (guards n))) (option_map (denied_by Locked) (first_lock w.nodes n)))) (fixed_itself w.nodes n)) (sym e)

fixed_asked : (ns : List Node) (n : Node) → option_and_then fixed_question (if is_question n then Some (asked ns n) else None) ≡ fixed_itself ns n
fixed_asked ns n = elim (cases_Bool (is_question n)) [ inl is ↦ rw is refl | inr other ↦ rw other refl ]

-- what hides nothing leaves the decision to the others
pub fixed_seen : (w : World) (n : Node) (gray : Option Denial) (lock : Option Node) (question : Option Asked) → None ≡ hidden w n → gray ≡ option_map (denied_by GrayOutIf) (find (grays_out w) (guards n)) → lock ≡ first_lock w.nodes n
    → question ≡ (if is_question n then Some (asked w.nodes n) else None)
    → or_else (or_else gray (option_map (denied_by Locked) lock)) (option_and_then fixed_question question) ≡ fixed w n
fixed_seen w n gray lock question none grayed locked told =
    ap (λ (o : Option Denial). or_else (or_else o (or_else gray (option_map (denied_by Locked) lock))) (option_and_then fixed_question question)) none
    ∙ ap (λ (o : Option Denial). or_else (or_else (hidden w n) (or_else o (option_map (denied_by Locked) lock))) (option_and_then fixed_question question)) grayed
    ∙ ap (λ (l : Option Node). or_else (or_else (hidden w n) (or_else (option_map (denied_by GrayOutIf) (find (grays_out w) (guards n))) (option_map (denied_by Locked) l))) (option_and_then fixed_question question)) locked
    ∙ ap (or_else (covered w n)) (ap (option_and_then fixed_question) told ∙ fixed_asked w.nodes n)
