-- Steps of fields each of which begins where those before it end, or behind that.
use Rattle.std.proofs.Common.{◌≡◌, ℕ, ◌+◌, ◌≤◌, ◌<◌, ◌&&◌, min, nat_le, nat_lt, if◌then◌else◌, Option, Some, None, List, [], ◌∷◌, ◌++◌, length, refl, sym, ap, subst, ◌∙◌, append_assoc, arith, inl, inr}
use Rattle.std.proofs.lemmas.Bool.{cases_Bool, cases_lt, le-leb, le-ltb, lt-leb, lt-ltb}
use Rattle.hii_questions.specs.code.Entries.{entry_field}
use Rattle.hii_questions.specs.code.Numbers.{first_of, behind_of}
use Rattle.hii_questions.specs.code.Steps.{AreSmall, AreSteps, StepsRise, first_from, is_small, steps_behind, tells_first, value_at}
use Rattle.hii_questions.specs.declared.entry.QuestionEntry.{QuestionEntry}
use Rattle.hii_questions.specs.declared.field_range.FieldRange.{FieldRange}
use Rattle.hii_questions.specs.declared.merging.Step.{Step}
use Rattle.hii_questions.proofs.StepLemmas.{first_between, first_split}

-- the step at the end of all fields
abbrev pub closed : ℕ → ℕ → List Step
closed none end = record { from = end; first = none } ∷ []

-- Steps begin with one from a byte on.
abbrev BeginAt : ℕ → List Step → Type 0
BeginAt from [] = ⊥
BeginAt from (s ∷ ss) = s.from ≡ from

-- ---- steps behind others

-- What is told of a byte before them stays.
told_before : (v end at : ℕ) (ss ts : List Step) → StepsRise end ts → at < end → value_at v (ss ++ ts) at ≡ value_at v ss at
told_before v end at [] [] rise less = refl
told_before v end at [] (t ∷ ts) rise less = rw (lt-leb t.from at (omega (arith, rise.0, less))) refl
told_before v end at (s ∷ ss) ts rise less = elim (cases_Bool (nat_le s.from at)) [
  | inl up ↦ rw up (told_before s.first end at ss ts rise less)
  | inr down ↦ rw down refl
]

later : (lo from : ℕ) (ss ts : List Step) → BeginAt from ts → StepsRise lo (ss ++ ts) → lo ≤ from
later lo from [] [] begin rise = absurd begin
later lo from [] (t ∷ ts) begin rise = omega (arith, begin, rise.0)
later lo from (s ∷ ss) ts begin rise = omega (arith, rise.0, later (s.from + 1) from ss ts begin rise.1)

-- What is told of another does not depend on those before them.
told_behind : (lo v w from at : ℕ) (ss ts : List Step) → BeginAt from ts → StepsRise lo (ss ++ ts) → from ≤ at → value_at v (ss ++ ts) at ≡ value_at w ts at
told_behind lo v w from at [] [] begin rise up = absurd begin
told_behind lo v w from at [] (t ∷ ts) begin rise up = rw (le-leb t.from at (omega (arith, begin, up))) refl
told_behind lo v w from at (s ∷ ss) ts begin rise up =
    rw (le-leb s.from at (omega (arith, later (s.from + 1) from ss ts begin rise.1, up))) (told_behind (s.from + 1) s.first w from at ss ts begin rise.1 up)

rise_later : (lo end : ℕ) (ts : List Step) → lo ≤ end → StepsRise end ts → StepsRise lo ts
rise_later lo end [] up rise = tt
rise_later lo end (t ∷ ts) up rise = (omega (arith, up, rise.0), rise.1)

rise_on : (lo none end : ℕ) (ss ts : List Step) → StepsRise lo (ss ++ closed none end) → StepsRise end ts → StepsRise lo (ss ++ ts)
rise_on lo none end [] ts rise more = rise_later lo end ts rise.0 more
rise_on lo none end (s ∷ ss) ts rise more = (rise.0, rise_on (s.from + 1) none end ss ts rise.1 more)

-- ---- one field more

-- its steps, and the one at its end
abbrev steps_more : ℕ → ℕ → ℕ → ℕ → ℕ → List Step
steps_more none end from number behind = steps_behind none end from number ++ closed none behind

more_begin : (none end from number behind : ℕ) → end ≤ from → BeginAt end (steps_more none end from number behind)
more_begin none end from number behind up = elim (cases_lt end from) [
  | inl less ↦ rw (lt-ltb end from less) refl
  | inr over ↦ rw (le-ltb end from over) (omega (arith, up, over))
]

more_rise : (none end from number behind : ℕ) → end ≤ from → from < behind → StepsRise end (steps_more none end from number behind)
more_rise none end from number behind up long = elim (cases_lt end from) [
  | inl less ↦ rw (lt-ltb end from less) (omega arith, (omega (arith, less), (omega (arith, long), tt)))
  | inr over ↦ rw (le-ltb end from over) (omega (arith, up), (omega (arith, long), tt))
]

-- A field has the byte of a number if that is within its own.
abbrev tells_within : ℕ → ℕ → ℕ → ℕ → ℕ → ℕ
tells_within none from behind number at = if nat_le from at && nat_lt at behind then number else none

field_tells : (none from number behind at : ℕ) → from < behind → value_at none (record { from = from; first = number } ∷ closed none behind) at ≡ tells_within none from behind number at
field_tells none from number behind at long = elim (cases_lt at from) [
  | inl low ↦ rw (lt-leb from at low) refl
  | inr up ↦ elim (cases_lt at behind) [
    | inl within ↦ rw (le-leb from at up, lt-ltb at behind within, lt-leb behind at within) refl
    | inr past ↦ rw (le-leb from at up, le-ltb at behind past, le-leb behind at past) refl
  ]
]

more_tell : (none end from number behind at : ℕ) → from < behind → end ≤ at → value_at none (steps_more none end from number behind) at ≡ tells_within none from behind number at
more_tell none end from number behind at long up = elim (cases_lt end from) [
  | inl less ↦ rw (lt-ltb end from less, le-leb end at up) (field_tells none from number behind at long)
  | inr over ↦ rw (le-ltb end from over) (field_tells none from number behind at long)
]

-- Behind steps they tell of each byte the lesser number.
more_told : (none end from number behind at : ℕ) (ss : List Step) → StepsRise 0 (ss ++ closed none end) → value_at none (ss ++ closed none end) at ≤ none → end ≤ from → from < behind → number ≤ none
    → value_at none (ss ++ steps_more none end from number behind) at ≡ min (value_at none (ss ++ closed none end) at) (tells_within none from behind number at)
more_told none end from number behind at ss rise bound up long few =
    let ts = steps_more none end from number behind in
    let more = more_rise none end from number behind up long in
    elim (cases_lt at end) [
      | inl less ↦
          let before = told_before none end at ss ts more less in
          let before' = told_before none end at ss (closed none end) (omega arith, tt) less in
          let other : tells_within none from behind number at ≡ none = rw (lt-leb from at (omega (arith, less, up))) refl in
          omega (arith, before, before', other, bound)
      | inr past ↦
          let behind_all = told_behind 0 none none end at ss ts (more_begin none end from number behind up) (rise_on 0 none end ss ts rise more) past in
          let closed_all : value_at none (ss ++ closed none end) at ≡ none = told_behind 0 none none end at ss (closed none end) refl rise past ∙ rw (le-leb end at past) refl in
          let tells = more_tell none end from number behind at long past in
          let least : tells_within none from behind number at ≤ none = elim (cases_Bool (nat_le from at && nat_lt at behind)) [
            | inl has ↦ rw has few
            | inr other ↦ rw other (omega arith)
          ] in
          omega (arith, behind_all, closed_all, tells, least)
    ]

-- ---- the questions so far

-- The steps of the fields of some questions, of at most so many, which all end at a byte, but for the step there.
pub record AreBefore (none : ℕ) (qs : List QuestionEntry) (end : ℕ) (ss : List Step) : Type 0 where
  pub first : (at : ℕ) → value_at none (ss ++ closed none end) at ≡ first_from none 0 qs at
  pub rise : StepsRise 0 (ss ++ closed none end)
  pub small : AreSmall qs

small_more : (qs : List QuestionEntry) (q : QuestionEntry) → AreSmall qs → is_small (entry_field q) → AreSmall (qs ++ q ∷ [])
small_more [] q small one = (one, tt)
small_more (x ∷ qs) q small one = (small.0, small_more qs q small.1 one)

pub none_before : (none : ℕ) → AreBefore none [] 0 []
none_before none =
    record {
      first = λ at. rw (le-leb 0 at (omega arith)) refl;
      rise = (omega arith, tt);
      small = tt;
    }

-- the first of some questions and one more that has a byte
first_more : (none : ℕ) (qs : List QuestionEntry) (q : QuestionEntry) (at : ℕ) → length qs < none → first_from none 0 (qs ++ q ∷ []) at ≡ min (first_from none 0 qs at) (tells_first none (length qs) (entry_field q) at)
first_more none qs q at few =
    let start : 0 + length qs ≡ length qs = omega arith in
    first_split none 0 qs (q ∷ []) at (omega (arith, few)) ∙ ap (λ (k : ℕ). min (first_from none 0 qs at) (first_from none k (q ∷ []) at)) start

pub passed_before : (none : ℕ) (qs : List QuestionEntry) (q : QuestionEntry) (end : ℕ) (ss : List Step) → AreBefore none qs end ss → length qs < none → entry_field q ≡ None → AreBefore none (qs ++ q ∷ []) end ss
passed_before none qs q end ss are few is =
    record {
      first = λ at.
          let bound = first_between none 0 qs at (omega (arith, few)) in
          let other : tells_first none (length qs) (entry_field q) at ≡ none = ap (λ (f : Option FieldRange). tells_first none (length qs) f at) is in
          let more = first_more none qs q at few in
          omega (arith, are.first at, more, other, bound.1);
      rise = are.rise;
      small = small_more qs q are.small (subst is_small (sym is) tt);
    }

pub more_before : (none : ℕ) (qs : List QuestionEntry) (q : QuestionEntry) (f : FieldRange) (end : ℕ) (ss : List Step) → AreBefore none qs end ss → length qs < none → entry_field q ≡ Some f → f.offset < 65536
    → end ≤ first_of f → first_of f < behind_of f → AreBefore none (qs ++ q ∷ []) (behind_of f) (ss ++ steps_behind none end (first_of f) (length qs))
more_before none qs q f end ss are few is small up long =
    let from = first_of f in
    let behind = behind_of f in
    let number = length qs in
    let joined : (ss ++ steps_behind none end from number) ++ closed none behind ≡ ss ++ steps_more none end from number behind = append_assoc ss (steps_behind none end from number) (closed none behind) in
    record {
      first = λ at.
          let bound = first_between none 0 qs at (omega (arith, few)) in
          let told = more_told none end from number behind at ss are.rise (omega (arith, are.first at, bound.1)) up long (omega (arith, few)) in
          let one : tells_first none number (entry_field q) at ≡ tells_within none from behind number at = ap (λ (o : Option FieldRange). tells_first none number o at) is in
          let more = first_more none qs q at few in
          ap (λ (l : List Step). value_at none l at) joined ∙ omega (arith, are.first at, told, more, one);
      rise = subst (StepsRise 0) (sym joined) (rise_on 0 none end ss (steps_more none end from number behind) are.rise (more_rise none end from number behind up long));
      small = small_more qs q are.small (subst is_small (sym is) small);
    }

-- With the step at their end they are the steps of all questions.
pub all_before : (qs : List QuestionEntry) (end : ℕ) (ss : List Step) → AreBefore (length qs) qs end ss → AreSteps qs (ss ++ closed (length qs) end)
all_before qs end ss are = record { first = are.first; rise = are.rise; small = are.small }
