use Rattle.std.proofs.Common.{List, ℕ, ◌-◌, eqb, length, take, drop, sym, ap, ◌∙◌}
use Rattle.std.specs.Prelude.{◌&&◌, ◌||◌, not, slice_index}
use Rattle.std.proofs.lemmas.List.{take_rest}
use Rattle.std.proofs.Math.Bool.{and_assoc}
use Rattle.hii_values.specs.code.UnitBlocks.{are_units}
use Rattle.hii_values.proofs.UnitLemmas.{units_more, unit_is}
use Rattle.hii_values.proofs.unit_blocks.are_units.Goals as goal

pub loop-rest-preserved : goal.loop-rest-preserved
loop-rest-preserved c =
    let rest : List ℕ = c.loop-rest.rest.now in
    let are = c.loop-rest.are in
    let some = not (eqb (slice_index rest 0) 0) || not (eqb (slice_index rest 1) 0) in
    and_assoc are some (are_units (take (length rest - 2) (drop 2 rest)))
    ∙ ap (λ (l : List ℕ). are && (some && are_units l)) (take_rest rest 2)
    ∙ ap (λ b. are && b) (ap (λ b. b && are_units (drop 2 rest)) (unit_is (slice_index rest 0) (slice_index rest 1)) ∙ sym (units_more rest c.in-len2-up.len_at_least))
    ∙ c.loop-rest.invariant
