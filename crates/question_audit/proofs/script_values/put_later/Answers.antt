use Rattle.std.proofs.Common.{ap, ◌++◌, codes, decimal}
use Rattle.std.specs.List.{flat_map}
use Rattle.hii_bytes.proofs.WritingLemmas.{Stands-start, ◌⨾◌, past_piece}
use Rattle.question_audit.proofs.script_values.put_later.Goals as goal

pub loop-item-preserved : goal.loop-item-preserved
loop-item-preserved g c =
    past_piece _ _ _ _ _ _ _ (ap (flat_map (λ item. codes "," ++ decimal item)) c.in-Some.ensures) c.loop-item.invariant (c.put.ensures ⨾ c.put_decimal.ensures)

pub loop-item-init : goal.loop-item-init
loop-item-init g c = Stands-start _ _
