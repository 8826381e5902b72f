use Rattle.std.proofs.Common.{ℕ, ◌++◌, ap}
use Rattle.std.specs.Prelude.{codes, decimal}
use Rattle.std.specs.List.{flat_map}
use Rattle.hii_bytes.proofs.WritingLemmas.{◌⨾◌, past_piece}
use Rattle.condition_text.proofs.WriteLemmas.{written_as}
use Rattle.condition_text.proofs.leaf.put_values.Goals as goal

pub loop-value-preserved : goal.loop-value-preserved
loop-value-preserved g c =
    past_piece _ _ _ _ _ _ _ (ap (flat_map (λ (value : ℕ). codes " " ++ decimal value)) c.in-Some.ensures.steps) c.loop-value.invariant
    (written_as (c.put.ensures ⨾ c.put_decimal.ensures) (ap (λ (n : ℕ). codes " " ++ decimal n) c.from.ensures))
