-- Steps that tell of each byte which field is the first that has it.
use Rattle.std.proofs.Common.{◌≡◌, ◌⊎◌, ℕ, zero, suc, ◌+◌, ◌≤◌, ◌<◌, min, nat_le, nat_lt, Bool, true, false, Option, Some, None, option_map, List, [], ◌∷◌, ◌++◌, length, get_or, slice_get, drop, refl, sym, ap, ◌∙◌, arith, inl, inr, find}
use Rattle.std.proofs.lemmas.Bool.{and_parts, cases_Bool, cases_lt, eqb-true, eq-eqb, leb-true, le-leb, ltb-true, lt-ltb}
use Rattle.std.specs.List.Sorted.{IsPartitionPoint, IsPartitionedBy}
use Rattle.hii_questions.specs.Fields.{field_passes, meets}
use Rattle.hii_questions.specs.code.Entries.{entry_field}
use Rattle.hii_questions.specs.code.Numbers.{first_of, behind_of}
use Rattle.hii_questions.specs.code.Ranges.{range_in}
use Rattle.hii_questions.specs.code.Steps.{AreSmall, AreSteps, IsLeastWithin, IsTold, StepsRise, first_from, has_number, is_small, least_met, told_behind, value_at}
use Rattle.hii_questions.specs.declared.entry.QuestionEntry.{QuestionEntry}
use Rattle.hii_questions.specs.declared.field_range.FieldRange.{FieldRange}
use Rattle.hii_questions.specs.declared.merging.Step.{Step}
use Rattle.hii_questions.proofs.MergeLemmas.{not_up}

-- ---- the least number up to a byte

pub met_bound : (none end : ℕ) (ss : List Step) → least_met none end ss ≤ none
met_bound none end [] = omega arith
met_bound none end (s ∷ ss) = elim (cases_Bool (nat_lt s.from end)) [
  | inl before ↦ rw before (omega (arith, met_bound none end ss))
  | inr behind ↦ rw behind (omega arith)
]

low : (none end v : ℕ) (ss : List Step) (at : ℕ) → at < end → min v (least_met none end ss) ≤ value_at v ss at
low none end v [] at less = omega arith
low none end v (s ∷ ss) at less = elim (cases_Bool (nat_le s.from at)) [
  | inl up ↦
      let before : nat_lt s.from end ≡ true = lt-ltb s.from end (omega (arith, leb-true s.from at up, less)) in
      rw (up, before) (omega (arith, low none end s.first ss at less))
  | inr down ↦ rw down (omega arith)
]

-- where steps begin behind a byte, what is before them is told of it
before_steps : (v lo : ℕ) (ss : List Step) → StepsRise (lo + 1) ss → value_at v ss lo ≡ v
before_steps v lo [] rise = refl
before_steps v lo (s ∷ ss) rise = elim (cases_Bool (nat_le s.from lo)) [
  | inl up ↦ absurd (omega (arith, leb-true s.from lo up, rise.0))
  | inr down ↦ rw down refl
]

told_at : (none end v lo : ℕ) (ss : List Step) (number : ℕ) → lo < end → StepsRise (lo + 1) ss → number ≡ v → IsTold ss v lo end number
told_at none end v lo ss number less rise is = record { at = lo; low = omega arith; high = less; is = before_steps v lo ss rise ∙ sym is }

attained : (none end v lo : ℕ) (ss : List Step) → lo < end → StepsRise (lo + 1) ss → (min v (least_met none end ss) ≡ none) ⊎ IsTold ss v lo end (min v (least_met none end ss))
attained none end v lo [] less rise = elim (cases_lt v none) [
  | inl few ↦ inr (told_at none end v lo [] (min v none) less rise (omega (arith, few)))
  | inr many ↦ inl (omega (arith, many))
]
attained none end v lo (s ∷ ss) less rise = elim (cases_Bool (nat_lt s.from end)) [
  | inl before ↦ rw before (elim (cases_lt (min s.first (least_met none end ss)) v) [
    | inl lower ↦ elim (attained none end s.first s.from ss (ltb-true s.from end before) rise.1) [
      | inl is ↦ inl (omega (arith, lower, is))
      | inr told ↦
          let up : nat_le s.from told.at ≡ true = le-leb s.from told.at told.low in
          let same : min s.first (least_met none end ss) ≡ min v (min s.first (least_met none end ss)) = omega (arith, lower) in
          inr record { at = told.at; low = omega (arith, told.low, rise.0); high = told.high; is = rw up (told.is ∙ same) }
    ]
    | inr up ↦ inr (told_at none end v lo (s ∷ ss) (min v (min s.first (least_met none end ss))) less rise (omega (arith, up)))
  ])
  | inr behind ↦ rw behind (elim (cases_lt v none) [
    | inl few ↦ inr (told_at none end v lo (s ∷ ss) (min v none) less rise (omega (arith, few)))
    | inr many ↦ inl (omega (arith, many))
  ])
]

-- ---- the steps that were begun

value_past : (i v : ℕ) (ss : List Step) (at : ℕ) → ((k : ℕ) → k < i → k < length ss → (d : Step) → nat_le (get_or ss k d).from at ≡ true) → value_at v ss at ≡ value_at (told_behind v ss i) (drop i ss) at
value_past zero v ss at begun = refl
value_past (suc i) v [] at begun = refl
value_past (suc i) v (s ∷ ss) at begun =
    rw (begun 0 (omega arith) (omega arith) s) (value_past i s.first ss at (λ k less inside d. begun (suc k) (omega (arith, less)) (omega (arith, inside)) d))

rest_rises : (i lo from : ℕ) (ss : List Step) → StepsRise lo ss → ((k : ℕ) → i ≤ k → k < length ss → (d : Step) → nat_le (get_or ss k d).from from ≡ false) → StepsRise (from + 1) (drop i ss)
rest_rises zero lo from [] rise behind = tt
rest_rises zero lo from (s ∷ ss) rise behind = let later = not_up s.from from (behind 0 (omega arith) (omega arith) s) in (omega (arith, later), rise.1)
rest_rises (suc i) lo from [] rise behind = tt
rest_rises (suc i) lo from (s ∷ ss) rise behind = rest_rises i (s.from + 1) from ss rise.1 (λ k up inside d. behind (suc k) (omega (arith, up)) (omega (arith, inside)) d)

behind_low : (lo : ℕ) (ss : List Step) (j : ℕ) (d : Step) → StepsRise lo ss → j < length ss → lo ≤ (get_or ss j d).from
behind_low lo [] j d rise less = absurd (omega (arith, less))
behind_low lo (s ∷ ss) zero d rise less = rise.0
behind_low lo (s ∷ ss) (suc j) d rise less = omega (arith, rise.0, behind_low (s.from + 1) ss j d rise.1 (omega (arith, less)))

-- Steps that rise are parted by a byte.
ordered : (lo : ℕ) (ss : List Step) (i j : ℕ) (d : Step) → StepsRise lo ss → i ≤ j → j < length ss → (get_or ss i d).from ≤ (get_or ss j d).from
ordered lo [] i j d rise up less = absurd (omega (arith, less))
ordered lo (s ∷ ss) zero zero d rise up less = omega arith
ordered lo (s ∷ ss) zero (suc j) d rise up less = omega (arith, behind_low (s.from + 1) ss j d rise.1 (omega (arith, less)))
ordered lo (s ∷ ss) (suc i) zero d rise up less = absurd (omega (arith, up))
ordered lo (s ∷ ss) (suc i) (suc j) d rise up less = ordered (s.from + 1) ss i j d rise.1 (omega (arith, up)) (omega (arith, less))

pub parted : (from : ℕ) (ss : List Step) → StepsRise 0 ss → IsPartitionedBy (λ (s : Step). nat_le s.from from) ss
parted from ss rise i j d up less passes = le-leb (get_or ss i d).from from (omega (arith, ordered 0 ss i j d rise up less, leb-true (get_or ss j d).from from passes))

pub behind_is : (i v : ℕ) (ss : List Step) (d : Step) → i < length ss → told_behind v ss (suc i) ≡ (get_or ss i d).first
behind_is i v [] d less = absurd (omega (arith, less))
behind_is zero v (s ∷ ss) d less = refl
behind_is (suc i) v (s ∷ ss) d less = behind_is i s.first ss d (omega (arith, less))

pub least_of : (ss : List Step) (none from end i : ℕ) → from < end → StepsRise 0 ss → IsPartitionPoint (λ (s : Step). nat_le s.from from ≡ true) (λ (s : Step). nat_le s.from from ≡ false) ss i
    → IsLeastWithin ss none from end (min (told_behind none ss i) (least_met none end (drop i ss)))
least_of ss none from end i less rise point =
    let v = told_behind none ss i in
    let up : (at : ℕ) → from ≤ at → value_at none ss at ≡ value_at v (drop i ss) at =
    λ at later. value_past i none ss at (λ k few inside d. le-leb (get_or ss k d).from at (omega (arith, later, leb-true (get_or ss k d).from from (point.0 k d (omega arith) few)))) in
    record {
      least = λ at later before. rw (up at later) (low none end v (drop i ss) at before);
      told = elim (attained none end v from (drop i ss) less (rest_rises i 0 from ss rise (λ k high inside d. point.1 k d high inside))) [
        | inl is ↦ inl is
        | inr told ↦ inr record { at = told.at; low = told.low; high = told.high; is = up told.at told.low ∙ told.is }
      ];
    }

-- ---- fields and numbers of bytes

numbered : (f g : FieldRange) (at : ℕ) → f.offset < 65536 → g.offset < 65536 → first_of f ≤ at → at < behind_of f → has_number (Some g) at ≡ true → meets (range_in f) (range_in g) ≡ true
numbered f g at small small' low high has =
    let parts = and_parts (nat_le (first_of g) at) (nat_lt at (behind_of g)) has in
    let low' = leb-true (first_of g) at parts.0 in
    let high' = ltb-true at (behind_of g) parts.1 in
    let same : f.store ≡ g.store = omega (arith, small, small', low, high, low', high') in
    rw (
      eq-eqb f.store g.store same,
      lt-ltb 0 f.width (omega (arith, low, high)),
      lt-ltb 0 g.width (omega (arith, low', high')),
      lt-ltb f.offset (g.offset + g.width) (omega (arith, same, low, high, low', high')),
      lt-ltb g.offset (f.offset + f.width) (omega (arith, same, low, high, low', high')),
    ) refl

common : (f g : FieldRange) → f.offset < 65536 → g.offset < 65536 → meets (range_in f) (range_in g) ≡ true → (at : ℕ) × (first_of f ≤ at) × (at < behind_of f) × (has_number (Some g) at ≡ true)
common f g small small' met =
    let p4 = and_parts _ _ met in
    let p3 = and_parts _ _ p4.0 in
    let p2 = and_parts _ _ p3.0 in
    let p1 = and_parts _ _ p2.0 in
    let same : f.store ≡ g.store = eqb-true f.store g.store p1.0 in
    let wide = ltb-true 0 f.width p1.1 in
    let wide' = ltb-true 0 g.width p2.1 in
    let left = ltb-true f.offset (g.offset + g.width) p3.1 in
    let right = ltb-true g.offset (f.offset + f.width) p4.1 in
    elim (cases_lt f.offset g.offset) [
      | inl before ↦ (
        first_of g,
        omega (arith, same, before),
        omega (arith, same, small, small', right, wide),
        rw (le-leb (first_of g) (first_of g) (omega arith), lt-ltb (first_of g) (behind_of g) (omega (arith, wide'))) refl,
      )
      | inr behind ↦ (
        first_of f,
        omega arith,
        omega (arith, wide),
        rw (le-leb (first_of g) (first_of f) (omega (arith, same, behind)), lt-ltb (first_of f) (behind_of g) (omega (arith, same, small, small', left, wide'))) refl,
      )
    ]

-- A field meets another, if there is one.
abbrev pub meets_in : FieldRange → Option FieldRange → Bool
meets_in f o = field_passes (meets (range_in f)) (option_map range_in o)

meets_is : (f : FieldRange) (o : Option FieldRange) → f.offset < 65536 → is_small o → meets_in f o ≡ true → (at : ℕ) × (first_of f ≤ at) × (at < behind_of f) × (has_number o at ≡ true)
meets_is f None small small' met = absurd (cc)
meets_is f (Some g) small small' met = common f g small small' met

apart : (f : FieldRange) (o : Option FieldRange) (at : ℕ) → f.offset < 65536 → is_small o → meets_in f o ≡ false → first_of f ≤ at → at < behind_of f → has_number o at ≡ false
apart f None at small small' none low high = refl
apart f (Some g) at small small' none low high = elim (cases_Bool (has_number (Some g) at)) [
  | inl has ↦ let met = numbered f g at small small' low high has in absurd (cc)
  | inr other ↦ other
]

-- ---- the first of some questions

pub first_between : (none k : ℕ) (qs : List QuestionEntry) (at : ℕ) → k + length qs ≤ none → (k ≤ first_from none k qs at) × (first_from none k qs at ≤ none)
first_between none k [] at long = (omega (arith, long), omega arith)
first_between none k (q ∷ qs) at long = elim (cases_Bool (has_number (entry_field q) at)) [
  | inl has ↦ rw has (omega arith, omega (arith, long))
  | inr other ↦ let rest = first_between none (k + 1) qs at (omega (arith, long)) in rw other (omega (arith, rest.0), rest.1)
]

pub first_split : (none k : ℕ) (xs ys : List QuestionEntry) (at : ℕ) → k + length xs + length ys ≤ none → first_from none k (xs ++ ys) at ≡ min (first_from none k xs at) (first_from none (k + length xs) ys at)
first_split none k [] ys at long =
    let rest = first_between none k ys at (omega (arith, long)) in
    let same : first_from none (k + 0) ys at ≡ first_from none k ys at = ap (λ (j : ℕ). first_from none j ys at) (omega arith) in
    omega (arith, same, rest.1)
first_split none k (x ∷ xs) ys at long = elim (cases_Bool (has_number (entry_field x) at)) [
  | inl has ↦ let rest = first_between none (k + suc (length xs)) ys at (omega (arith, long)) in rw has (omega (arith, rest.0))
  | inr other ↦
      let same : first_from none (k + 1 + length xs) ys at ≡ first_from none (k + suc (length xs)) ys at = ap (λ (j : ℕ). first_from none j ys at) (omega arith) in
      rw other (first_split none (k + 1) xs ys at (omega (arith, long)) ∙ ap (λ (v : ℕ). min (first_from none (k + 1) xs at) v) same)
]

-- the number of the first question that meets a field is the least that is told of its bytes
abbrev pub IsFirst : ℕ → FieldRange → ℕ → List QuestionEntry → ℕ → Type 0
IsFirst none f k qs r =
    ((at : ℕ) → first_of f ≤ at → at < behind_of f → r ≤ first_from none k qs at)
    × ((r ≡ none) ⊎ ((at : ℕ) × (first_of f ≤ at) × (at < behind_of f) × (first_from none k qs at ≡ r)))

-- Where the first question does not meet it, it is the first of the others.
not_first : (none k r : ℕ) (f : FieldRange) (q : QuestionEntry) (qs : List QuestionEntry) → f.offset < 65536 → AreSmall (q ∷ qs) → k + suc (length qs) ≡ none → meets_in f (entry_field q) ≡ false → IsFirst none f k (q ∷ qs) r
    → (k + 1 ≤ r) × IsFirst none f (k + 1) qs r
not_first none k r f q qs small all long other first =
    let later : (at : ℕ) → first_of f ≤ at → at < behind_of f → first_from none k (q ∷ qs) at ≡ first_from none (k + 1) qs at =
    λ at low high. rw (apart f (entry_field q) at small all.0 other low high) refl in
    let told : (r ≡ none) ⊎ ((at : ℕ) × (first_of f ≤ at) × (at < behind_of f) × (first_from none (k + 1) qs at ≡ r)) = elim first.1 [
      | inl over ↦ inl over
      | inr there ↦ inr (there.0, there.1, there.2, sym (later there.0 there.1 there.2) ∙ there.3)
    ] in (
      elim told [
        | inl over ↦ omega (arith, over, long)
        | inr there ↦ let bound = first_between none (k + 1) qs there.0 (omega (arith, long)) in omega (arith, bound.0, there.3)
      ],
      ((λ at low high. omega (arith, first.0 at low high, later at low high)), told),
    )

-- Where it does, no other number is less.
is_first : (none k r : ℕ) (f : FieldRange) (q : QuestionEntry) (qs : List QuestionEntry) → f.offset < 65536 → AreSmall (q ∷ qs) → meets_in f (entry_field q) ≡ true → IsFirst none f k (q ∷ qs) r → r ≤ k
is_first none k r f q qs small all met first =
    let there = meets_is f (entry_field q) small all.0 met in
    let here : first_from none k (q ∷ qs) there.0 ≡ k = rw there.3 refl in
    omega (arith, first.0 there.0 there.1 there.2, here)

found_from : (none k r : ℕ) (f : FieldRange) (qs : List QuestionEntry) (i : ℕ) → f.offset < 65536 → AreSmall qs → k + length qs ≡ none → r ≡ k + i → IsFirst none f k qs r → find (λ q. meets_in f (entry_field q)) qs ≡ slice_get qs i
found_from none k r f [] i small all long is first = refl
found_from none k r f (q ∷ qs) zero small all long is first = elim (cases_Bool (meets_in f (entry_field q))) [
  | inl met ↦ rw met refl
  | inr other ↦ absurd (omega (arith, is, (not_first none k r f q qs small all long other first).0))
]
found_from none k r f (q ∷ qs) (suc i) small all long is first = elim (cases_Bool (meets_in f (entry_field q))) [
  | inl met ↦ absurd (omega (arith, is, is_first none k r f q qs small all met first))
  | inr other ↦ rw other (found_from none (k + 1) r f qs i small all.1 (omega (arith, long)) (omega (arith, is)) (not_first none k r f q qs small all long other first).1)
]

pub first_found : (qs : List QuestionEntry) (ss : List Step) (f : FieldRange) (r : ℕ) → f.offset < 65536 → AreSteps qs ss → IsLeastWithin ss (length qs) (first_of f) (behind_of f) r → find (λ q. meets_in f (entry_field q)) qs ≡ slice_get qs r
first_found qs ss f r small are least =
    found_from (length qs) 0 r f qs r small are.small (omega arith) (omega arith) (
      (λ at low high. omega (arith, least.least at low high, are.first at)),
      elim least.told [
        | inl over ↦ inl over
        | inr told ↦ inr (told.at, told.low, told.high, sym (are.first told.at) ∙ told.is)
      ],
    )
