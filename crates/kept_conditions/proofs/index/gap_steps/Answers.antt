use Rattle.std.proofs.Common.{◌≡◌, ◌⊎◌, ◌+◌, ◌≤◌, ℕ, zero, suc, Bool, true, Some, List, [], ◌∷◌, ◌++◌, length, length-append, slice_get, refl, sym, ap, subst, ◌∙◌, inl, inr, arith}
use Rattle.std.proofs.lemmas.Bool.{cases_lt, leb-true}
use Rattle.std.proofs.lemmas.Option.{none-some, same_Some}
use Rattle.kept_conditions.specs.code.Index.{BeginFrom, EndBy, NoneHas, step_start}
use Rattle.kept_conditions.specs.declared.index.Dependency.{Dependency}
use Rattle.kept_conditions.proofs.index.gap_steps.Goals as goal

-- a step that is told to be one is among those before, or the last
pushed : (xs : List Bool) (b : Bool) (at : ℕ) → slice_get (xs ++ b ∷ []) at ≡ Some true → (slice_get xs at ≡ Some true) ⊎ ((at ≡ length xs) × (b ≡ true))
pushed [] b zero told = inr (refl, same_Some b true told)
pushed [] b (suc at) told = absurd (none-some true told)
pushed (x ∷ xs) b zero told = inl told
pushed (x ∷ xs) b (suc at) told = elim (pushed xs b at told) [
  | inl before ↦ inl before
  | inr last ↦ inr (ap suc last.0, last.1)
]

-- the first dependencies end before the bytes, and the others begin behind them
apart : (rs : List Dependency) (count reach from to : ℕ) → EndBy rs count reach → reach ≤ from → BeginFrom rs count to → NoneHas rs from to
apart rs count reach from to ends before begins = λ j less. elim (cases_lt j count) [
  | inl first ↦ inl (omega (arith, ends j first, before))
  | inr other ↦ inr (begins j other less)
]

pub loop-step-preserved : goal.loop-step-preserved
loop-step-preserved c =
    let rs = c.args.dependencies.now in
    let was = c.loop-step.invariant in
    let passed = c.pass_before-passed in
    let step = c.loop-step.step in record {
      within = passed.ensures.within;
      reach = passed.ensures.reach;
      all = ap length c.in_ok-push.ensures.items ∙ length-append c.loop-step.steps.items _ ∙ ap (λ n. n + 1) was.all;
      steps = λ at told. elim (pushed c.loop-step.steps.items _ at (sym (ap (λ l. slice_get l at) c.in_ok-push.ensures.items) ∙ told)) [
        | inl before ↦ was.steps at before
        | inr last ↦
            let here : at ≡ step = last.0 ∙ was.all in
            let before = subst (λ n. passed.result.reach ≤ n) c.start_of-in-loop-step.ensures (leb-true _ _ last.1) in
            let begins = subst (BeginFrom rs passed.result.count) c.start_of.ensures passed.ensures.others in
            subst (λ k. NoneHas rs (step_start c.args.first c.args.power k) (step_start c.args.first c.args.power (k + 1))) (sym here)
            (apart rs passed.result.count passed.result.reach _ _ passed.ensures.reach before begins)
      ];
    }
