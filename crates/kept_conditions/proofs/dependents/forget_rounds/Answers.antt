use Rattle.std.proofs.Common.{ℕ, ◌∙◌, ap, refl, inl, inr, arith}
use Rattle.std.specs.Prelude.{slice_set}
use Rattle.std.proofs.Math.Seq.{map-set_same}
use Rattle.std.proofs.lemmas.Bool.{cases_eq}
use Rattle.std.proofs.lemmas.List.{get_or-set_same, get_or-set_other}
use Rattle.kept_conditions.specs.code.Dependents.{no_dependent, at_number, timeless}
use Rattle.kept_conditions.specs.declared.dependents.Dependent.{Dependent}
use Rattle.kept_conditions.proofs.dependents.forget_rounds.Goals as goal

pub loop-dependent-preserved : goal.loop-dependent-preserved
loop-dependent-preserved c =
    let so_far = c.loop-dependent.invariant in
    let rs = c.loop-dependent.list in
    let i = c.loop-dependent.dependent-index in
    let new : Dependent = timeless (at_number rs i) in
    record {
      rounds = λ k less. elim (cases_eq k i) [
        | inl same ↦ ap (λ (j : ℕ). (at_number (slice_set rs i new) j).round) same ∙ ap (λ (x : Dependent). x.round) (get_or-set_same rs i new no_dependent (omega (arith, c.loop-dependent-test.true, c.loop-dependent.auto.list)))
        | inr other ↦ ap (λ (x : Dependent). x.round) (get_or-set_other rs i k new no_dependent other) ∙ so_far.rounds k (grind arith)
      ];
      same = map-set_same timeless rs i new no_dependent refl ∙ so_far.same;
    }
