-- The class of the innermost scope of a path, where one more opcode stands in it.
use Rattle.std.proofs.Common.{◌≡◌, ℕ, Bool, true, false, cond, Option, Some, None, List, [], ◌∷◌, ◌++◌, refl, sym, ap, ◌∙◌}
use Rattle.std.specs.Prelude.{not, option_map}
use Rattle.std.specs.List.{last_or}
use Rattle.std.proofs.lemmas.Bool.{cond-true, cond-false}
use Rattle.std.proofs.lemmas.List.{append-nil}
use Rattle.std.proofs.lemmas.List.Elements.{filter-append}
use Rattle.ifr_opcodes.specs.Opcode.{number}
use Rattle.ifr_opcodes.specs.Forest.{Ancestor, Mark}
use Rattle.ifr_nodes.specs.Guards.{is_guard}
use Rattle.ifr_nodes.specs.Table.{row, class_of, guarded, others_among, class_in, is_guard_scope, class_around}
use Rattle.ifr_nodes.specs.Structure.{innermost}
use Rattle.ifr_nodes.specs.declared.table.Class.{Class}
use Rattle.ifr_nodes.specs.declared.table.Class.TheVariants.{OfFormSet, OfForm, OfText, OfQuestion, OfChoice, OfOptions, OfOption, OfExpression, OfNothing}
use Rattle.ifr_nodes.proofs.InnermostLemmas.{last_or-push}

-- a guard in a guard covers what that one covers
guarded_twice : (c : Class) → guarded (guarded c) ≡ guarded c
guarded_twice OfFormSet = refl
guarded_twice OfForm = refl
guarded_twice OfText = refl
guarded_twice OfQuestion = refl
guarded_twice OfChoice = refl
guarded_twice OfOptions = refl
guarded_twice OfOption = refl
guarded_twice OfExpression = refl
guarded_twice OfNothing = refl

-- so what it covers is the same, whether it stands in a guard or not
covered : (in_guard : Bool) (c : Class) → guarded (cond in_guard (guarded c) c) ≡ guarded c
covered true c = guarded_twice c
covered false c = refl

-- in a guard stands what that covers
pub class-guard : (path : List Ancestor) (a : Ancestor) → is_guard (number a.op) ≡ true → class_around (path ++ a ∷ []) ≡ guarded (class_around path)
class-guard path a is =
    let same : others_among (path ++ a ∷ []) ≡ others_among path = filter-append (λ (b : Ancestor). not (is_guard (number b.op))) path (a ∷ []) ∙ rw is (append-nil (others_among path)) in
    let last : is_guard_scope (last_or None (path ++ a ∷ [])) ≡ true = ap is_guard_scope (last_or-push None path a) ∙ is in
    cond-true (is_guard_scope (last_or None (path ++ a ∷ []))) _ _ last ∙ ap (λ (l : List Ancestor). guarded (class_in (last_or None l))) same
    ∙ sym (covered (is_guard_scope (last_or None path)) (class_in (last_or None (others_among path))))

-- and in another opcode what that admits
pub class-other : (path : List Ancestor) (a : Ancestor) → is_guard (number a.op) ≡ false → class_around (path ++ a ∷ []) ≡ class_of (row (number a.op))
class-other path a other =
    let more : others_among (path ++ a ∷ []) ≡ others_among path ++ a ∷ [] = filter-append (λ (b : Ancestor). not (is_guard (number b.op))) path (a ∷ []) ∙ rw other refl in
    let last : is_guard_scope (last_or None (path ++ a ∷ [])) ≡ false = ap is_guard_scope (last_or-push None path a) ∙ other in
    cond-false (is_guard_scope (last_or None (path ++ a ∷ []))) _ _ last ∙ ap (λ (l : List Ancestor). class_in (last_or None l)) more ∙ ap class_in (last_or-push None (others_among path) a)

-- ---- by the innermost opcode

split_last : (a : Ancestor) (path : List Ancestor) → (outer : List Ancestor) × (last : Ancestor) × (a ∷ path ≡ outer ++ last ∷ [])
split_last a [] = ([], a, refl)
split_last a (b ∷ path) = let s = split_last b path in (a ∷ s.0, s.1, ap (λ (l : List Ancestor). a ∷ l) s.2)

innermost_last : (outer : List Ancestor) (last : Ancestor) → innermost (outer ++ last ∷ []) ≡ Some (record { place = last.place; op = last.op })
innermost_last outer last = ap (option_map (λ (a : Ancestor). record { place = a.place; op = a.op })) (last_or-push None outer last)

pub class_nothing : (path : List Ancestor) → ◌≡◌ {A = Option Mark} None (innermost path) → OfNothing ≡ class_around path
class_nothing [] e = refl
class_nothing (a ∷ path) e = let s = split_last a path in absurd (let some = e ∙ ap innermost s.2 ∙ innermost_last s.0 s.1 in cc)

pub class_innermost : (path : List Ancestor) (m : Mark) → Some m ≡ innermost path → is_guard (number m.op) ≡ false → class_of (row (number m.op)) ≡ class_around path
class_innermost [] m e other = absurd cc
class_innermost (a ∷ path) m e other =
    let s = split_last a path in
    let some = e ∙ ap innermost s.2 ∙ innermost_last s.0 s.1 in
    let same : m.op ≡ s.1.op = cc in
    ap (λ (op : List ℕ). class_of (row (number op))) same ∙ sym (ap class_around s.2 ∙ class-other s.0 s.1 (ap (λ (op : List ℕ). is_guard (number op)) (sym same) ∙ other))
