-- The forms, the stores, and what is strange of a package can be counted.
use Rattle.std.proofs.Common.{◌≡◌, ℕ, suc, ◌+◌, ◌≤◌, ◌<◌, ◌^◌, Bool, Option, None, Some, List, [], ◌∷◌, ◌++◌, length, length-append, filter, ap, arith, subst, sym, ◌∙◌, inl, inr}
use Rattle.std.specs.List.{cons_option, filter_map}
use Rattle.std.proofs.lemmas.Bool.{cases_Bool}
use Rattle.ifr_opcodes.specs.Forest.{Node}
use Rattle.ifr_nodes.specs.Checked.{IsChecked}
use Rattle.ifr_nodes.specs.Nodes.{is_statement, nodes_of}
use Rattle.ifr_nodes.proofs.WalkLemmas.{at_first, few_left}
use Rattle.check_audit.specs.Warnings.{crossed_of, crossed_spans}
use Rattle.check_audit.specs.declared.warning.Span.{Span}

few_of : (is : Node → Bool) (ns : List Node) → length (filter is ns) ≤ length ns
few_of is [] = omega arith
few_of is (n ∷ ns) =
    let later = few_of is ns in
    elim (cases_Bool (is n)) [ inl kept ↦ rw kept (omega (arith, later)) | inr other ↦ rw other (omega (arith, later)) ]

few_nodes : (bytes : List ℕ) → IsChecked bytes → length (nodes_of bytes) < 2 ^ 32
few_nodes bytes checked =
    let first = at_first bytes checked.header checked.small checked.spelled in
    subst (λ (l : List Node). length l < 2 ^ 32) first.1 (few_left bytes 4 [] first.0)

-- some nodes of a package are so few
pub few : (bytes : List ℕ) (is : Node → Bool) (left : List Node) → IsChecked bytes → left ≡ filter is (nodes_of bytes) → 0 + length left < 2 ^ 64
few bytes is left checked same =
    let most = few_of is (nodes_of bytes) in
    let all = few_nodes bytes checked in
    subst (λ (l : List Node). 0 + length l < 2 ^ 64) (sym same) (omega (arith, most, all))

-- the first of some
few_first : {X : Type 0} (front rest all : List X) (n : ℕ) → front ++ rest ≡ all → length all ≤ n → length front ≤ n
few_first front rest all n same most =
    let count = sym (length-append front rest) ∙ ap (λ (l : List _). length l) same in
    omega (arith, count, most)

one_more : {X : Type 0} (o : Option X) (xs : List X) (ns : List Node) → length xs ≤ length ns → length (cons_option o xs) ≤ suc (length ns)
one_more None xs ns few = omega (arith, few)
one_more (Some x) xs ns few = omega (arith, few)

few_mapped : {X : Type 0} (f : Node → Option X) (ns : List Node) → length (filter_map f ns) ≤ length ns
few_mapped f [] = omega arith
few_mapped f (n ∷ ns) = one_more (f n) (filter_map f ns) ns (few_mapped f ns)

-- the bounds of a package that nothing can meet, as far as they were found
pub few_spans : (bytes : List ℕ) (front rest : List Span) → IsChecked bytes → front ++ rest ≡ crossed_spans (nodes_of bytes) → length front < 2 ^ 32
few_spans bytes front rest checked same =
    let ns = nodes_of bytes in
    let all = few_first front rest (crossed_spans ns) _ same (few_mapped crossed_of (filter is_statement ns)) in
    let some = few_of is_statement ns in
    let nodes = few_nodes bytes checked in
    omega (arith, all, some, nodes)
