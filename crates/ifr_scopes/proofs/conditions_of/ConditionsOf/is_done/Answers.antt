use Rattle.std.proofs.Common.{◌≡◌, ◌↔◌, ℕ, true, not, eqb, List, [], ◌∷◌, refl, sym, ap, ◌∙◌, inl, inr}
use Rattle.std.specs.List.{take_while}
use Rattle.std.proofs.lemmas.Bool.{cases_Bool, cond-true, cond-false}
use Rattle.std.proofs.lemmas.List.{nil_from_length}
use Rattle.std.proofs.lemmas.List.Sums.{take_while-cons}
use Rattle.ifr_index.specs.declared.index.ConditionEntry.{ConditionEntry}
use Rattle.ifr_index.proofs.NoSubmitLemmas.{of_number}
use Rattle.ifr_scopes.proofs.conditions_of.ConditionsOf.is_done.Goals as goal

-- those at the front that name a question
abbrev front : ℕ → List ConditionEntry → List ConditionEntry
front question kept = take_while (λ one. eqb one.question question) kept

-- There are some where the first is one.
first_tells : (question : ℕ) (first : ConditionEntry) (kept rest : List ConditionEntry) → kept ≡ first ∷ rest → (not (eqb first.question question) ≡ true) ↔ (front question kept ≡ [])
first_tells question first kept rest e =
    let step = ap (front question) e ∙ take_while-cons (λ (one : ConditionEntry). eqb one.question question) first rest in
    elim (cases_Bool (eqb first.question question)) [
      | inl is ↦
          let some : front question kept ≡ first ∷ front question rest = step ∙ cond-true _ _ _ is in
          (λ other. let bad : not true ≡ true = sym (ap not is) ∙ other in (cc), λ none. let bad : first ∷ front question rest ≡ [] = sym some ∙ none in (cc))
      | inr other ↦ (λ _. step ∙ cond-false _ _ _ other, λ _. ap not other)
    ]

pub returns-in-Some-clause-exactly : goal.returns-in-Some-clause-exactly
returns-in-Some-clause-exactly c =
    let it = c.args.self.now in
    first_tells it.question c.in-Some.first.now it.kept.now _ c.in-Some.ensures.cases.0

pub returns-in-Some-clause-none : goal.returns-in-Some-clause-none
returns-in-Some-clause-none c =
    let it = c.args.self.now in
    λ is. ap (of_number it.ifr.now it.code) ((first_tells it.question c.in-Some.first.now it.kept.now _ c.in-Some.ensures.cases.0).0 is)

pub returns-in-None-clause-exactly : goal.returns-in-None-clause-exactly
returns-in-None-clause-exactly c =
    let it = c.args.self.now in
    (λ _. ap (front it.question) (nil_from_length it.kept.now c.in-None.ensures.cases), λ _. refl)

pub returns-in-None-clause-none : goal.returns-in-None-clause-none
returns-in-None-clause-none c =
    let it = c.args.self.now in
    λ _. ap (λ (l : List ConditionEntry). of_number it.ifr.now it.code (front it.question l)) (nil_from_length it.kept.now c.in-None.ensures.cases)
