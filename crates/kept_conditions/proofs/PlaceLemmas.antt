-- The places of dependents.
use Rattle.std.proofs.Common.{◌≡◌, ℕ, suc, ◌+◌, ◌<◌, ◌≤◌, ◌==◌, ◌||◌, ◌++◌, Bool, true, false, List, [], ◌∷◌, length, map, filter, get_or, count_by, refl, sym, ap, ◌∙◌, inl, inr, arith}
use Rattle.std.specs.List.Sorted.{IsPermutation, IsSorted}
use Rattle.std.specs.Ordering.{nat_cmp}
use Rattle.std.proofs.lemmas.Bool.{cases_Bool, cases_lt, eqb-true, eq-eqb, ne_eqb}
use Rattle.std.proofs.lemmas.List.Sums.{sum_by-cons}
use Rattle.std.proofs.lemmas.List.Sorted.{IsNonDecreasingBy-from_sort, sum_by-IsPermutation}
use Rattle.ifr_opcodes.specs.declared.codes.TheConstants.{SUPPRESS_IF, GRAY_OUT_IF, NO_SUBMIT_IF}
use Rattle.ifr_opcodes.specs.Forest.{Node, flat}
use Rattle.ifr_opcodes.specs.Opcode.{number}
use Rattle.ifr_opcodes.specs.Reading.{tree_of}
use Rattle.ifr_nodes.specs.Accepted.{IsAccepted}
use Rattle.ifr_nodes.specs.Guards.{is_guard}
use Rattle.ifr_nodes.specs.Nodes.{nodes_of, is_no_submit}
use Rattle.ifr_nodes.specs.Rules.{is_rule}
use Rattle.ifr_nodes.proofs.PlaceLemmas.{nodes_within}
use Rattle.ifr_nodes.proofs.StructureLemmas.{rising}
use Rattle.guard_policy.proofs.RemovedLemmas.{Ascend, places_ascend, from_zero}
use Rattle.kept_conditions.specs.code.Collection.{is_kept_guard, is_dependent, dependent_nodes}
use Rattle.kept_conditions.proofs.FilterLemmas.{count_either, count_joined, filter_narrower, one}
use Rattle.kept_conditions.proofs.DependentLemmas.{kept_no_rule}

-- ---- kinds

no_guard : (code : ℕ) → code == SUPPRESS_IF || code == GRAY_OUT_IF ≡ true → code == NO_SUBMIT_IF ≡ false
no_guard code e = elim (cases_Bool (code == SUPPRESS_IF)) [
  | inl first ↦ ap (λ c. c == NO_SUBMIT_IF) (eqb-true code SUPPRESS_IF first)
  | inr other ↦ ap (λ c. c == NO_SUBMIT_IF) (eqb-true code GRAY_OUT_IF (sym (ap (λ b. b || code == GRAY_OUT_IF) other) ∙ e))
]

guarding : (code : ℕ) → code == SUPPRESS_IF || code == GRAY_OUT_IF ≡ true → is_guard code ≡ true
guarding code e = elim (cases_Bool (code == SUPPRESS_IF)) [
  | inl first ↦ ap is_guard (eqb-true code SUPPRESS_IF first)
  | inr other ↦ ap is_guard (eqb-true code GRAY_OUT_IF (sym (ap (λ b. b || code == GRAY_OUT_IF) other) ∙ e))
]

pub guards_kept : (ns : List Node) → filter is_kept_guard (filter (λ n. is_guard (number n.op)) ns) ≡ filter is_kept_guard ns
guards_kept ns = filter_narrower is_kept_guard (λ n. is_guard (number n.op)) (λ n e. guarding (number n.op) e) ns

-- ---- numbers in order are told by how often each comes

-- numbers that do not fall
abbrev Up : ℕ → List ℕ → Type 0
Up low [] = Unit {0}
Up low (x ∷ xs) = (low ≤ x) × Up x xs

up_lower : (low high : ℕ) (xs : List ℕ) → low ≤ high → Up high xs → Up low xs
up_lower low high [] le u = tt
up_lower low high (x ∷ xs) le u = let first : high ≤ x = u.0 in (omega (arith, le, first), u.1)

up : (low : ℕ) (xs : List ℕ) → Ascend low xs → Up low xs
up low [] r = tt
up low (x ∷ xs) r = (r.0, up_lower x (x + 1) xs (omega arith) (up (x + 1) xs r.1))

up_from : (low : ℕ) (xs : List ℕ) → ((k : ℕ) → k < length xs → low ≤ get_or xs k 0) → ((i j : ℕ) → i ≤ j → j < length xs → get_or xs i 0 ≤ get_or xs j 0) → Up low xs
up_from low [] above ordered = tt
up_from low (x ∷ xs) above ordered =
    (above 0 (omega arith), up_from x xs (λ k less. ordered 0 (suc k) (omega arith) (omega (arith, less))) (λ i j le less. ordered (suc i) (suc j) (omega (arith, le)) (omega (arith, less))))

abbrev times : ℕ → List ℕ → ℕ
times v xs = count_by (λ x. x == v) xs

times_first : (v x : ℕ) (xs : List ℕ) → times v (x ∷ xs) ≡ one (x == v) + times v xs
times_first v x xs = sum_by-cons (λ y. one (y == v)) x xs

times_below : (v low : ℕ) (xs : List ℕ) → v < low → Up low xs → times v xs ≡ 0
times_below v low [] less u = refl
times_below v low (x ∷ xs) less u =
    let first : low ≤ x = u.0 in
    let here : one (x == v) ≡ 0 = ap one (ne_eqb x v (λ e. omega (arith, e, first, less))) in
    let behind = times_below v x xs (omega (arith, first, less)) u.1 in
    let all = times_first v x xs in
    omega (arith, here, behind, all)

times_here : (v : ℕ) (xs : List ℕ) → times v (v ∷ xs) ≡ 1 + times v xs
times_here v xs = times_first v v xs ∙ ap (λ b. one b + times v xs) (eq-eqb v v refl)

same_numbers : (low low' : ℕ) (xs ys : List ℕ) → Up low xs → Up low' ys → ((v : ℕ) → times v xs ≡ times v ys) → xs ≡ ys
same_numbers low low' [] [] u w same = refl
same_numbers low low' [] (y ∷ ys) u w same = let bad = same y in let some = times_here y ys in absurd (omega (arith, bad, some))
same_numbers low low' (x ∷ xs) [] u w same = let bad = same x in let some = times_here x xs in absurd (omega (arith, bad, some))
same_numbers low low' (x ∷ xs) (y ∷ ys) u w same = elim (cases_lt x y) [
  | inl less ↦
      let none = times_below x y (y ∷ ys) less (omega arith, w.1) in
      let some = times_here x xs in
      let bad = same x in
      absurd (omega (arith, none, some, bad))
  | inr le ↦ elim (cases_lt y x) [
    | inl less ↦
        let none = times_below y x (x ∷ xs) less (omega arith, u.1) in
        let some = times_here y ys in
        let bad = same y in
        absurd (omega (arith, none, some, bad))
    | inr ge ↦
        let e : x ≡ y = omega (arith, le, ge) in
        let behind : xs ≡ ys = same_numbers x y xs ys u.1 w.1 (λ v.
        let left = times_first v x xs in
        let right = times_first v y ys in
        let here : one (x == v) ≡ one (y == v) = ap (λ n. one (n == v)) e in
        let all = same v in
        omega (arith, left, right, here, all)) in
        ap (λ n. n ∷ xs) e ∙ ap (λ l. y ∷ l) behind
  ]
]

-- ---- the places that were sorted

times_mapped : (v : ℕ) (ns : List Node) → times v (map (λ (n : Node). n.place) ns) ≡ count_by (λ (n : Node). n.place == v) ns
times_mapped v [] = refl
times_mapped v (n ∷ ns) =
    times_first v n.place (map (λ (m : Node). m.place) ns) ∙ ap (λ k. one (n.place == v) + k) (times_mapped v ns) ∙ sym (sum_by-cons (λ (m : Node). one (m.place == v)) n ns)

abbrev is_guard_or_submit : Node → Bool
is_guard_or_submit n = is_kept_guard n || is_no_submit n

no_rule : (n : Node) → is_guard_or_submit n ≡ true → is_rule n ≡ false
no_rule n e = kept_no_rule n e

pub sorted_places : (bytes places : List ℕ) → IsAccepted bytes
    → IsPermutation (map (λ (n : Node). n.place) (filter is_kept_guard (nodes_of bytes)) ++ map (λ (n : Node). n.place) (filter is_no_submit (nodes_of bytes)) ++ map (λ (n : Node). n.place) (filter is_rule (nodes_of bytes))) places → IsSorted nat_cmp places
    → places ≡ map (λ (n : Node). n.place) (dependent_nodes (nodes_of bytes))
sorted_places bytes places accepted same sorted =
    let ns = nodes_of bytes in
    let place : Node → ℕ = λ n. n.place in
    let gs = filter is_kept_guard ns in
    let cs = filter is_no_submit ns in
    let rs = filter is_rule ns in
    let dependents = map place (dependent_nodes ns) in
    let rise = rising ns 4 (4 + length (flat (tree_of bytes))) (nodes_within (tree_of bytes) 4 [] accepted.checked.spelled.are_nodes) in
    let order = IsNonDecreasingBy-from_sort (λ (x : ℕ). x) places sorted in
    same_numbers 0 0 places dependents
    (up_from 0 places (λ k less. omega arith) (λ i j le less. order i j 0 le less))
    (up 0 dependents (from_zero 4 dependents (places_ascend is_dependent 4 ns rise)))
    (λ v.
    let all : times v places ≡ times v (map place gs ++ map place cs ++ map place rs) = sum_by-IsPermutation (λ x. one (x == v)) (map place gs ++ map place cs ++ map place rs) places same in
    let parts : times v (map place gs ++ map place cs ++ map place rs) ≡ times v (map place gs) + times v (map place cs) + times v (map place rs) =
    let outer = count_joined (λ x. x == v) (map place gs ++ map place cs) (map place rs) in
    let inner = count_joined (λ x. x == v) (map place gs) (map place cs) in
    omega (arith, outer, inner) in
    let guards = times_mapped v gs in
    let submits = times_mapped v cs in
    let rules = times_mapped v rs in
    let first : count_by (λ (n : Node). n.place == v) gs + count_by (λ (n : Node). n.place == v) cs ≡ count_by (λ (n : Node). n.place == v) (filter is_guard_or_submit ns) =
    sym (count_joined (λ (n : Node). n.place == v) gs cs) ∙ count_either (λ (n : Node). n.place == v) is_kept_guard is_no_submit (λ n e. no_guard (number n.op) e) ns in
    let second : count_by (λ (n : Node). n.place == v) (filter is_guard_or_submit ns) + count_by (λ (n : Node). n.place == v) rs ≡ count_by (λ (n : Node). n.place == v) (dependent_nodes ns) =
    sym (count_joined (λ (n : Node). n.place == v) (filter is_guard_or_submit ns) rs) ∙ count_either (λ (n : Node). n.place == v) is_guard_or_submit is_rule no_rule ns in
    let whole = times_mapped v (dependent_nodes ns) in
    omega (arith, all, parts, guards, submits, rules, first, second, whole))
