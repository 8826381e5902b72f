use Rattle.std.proofs.Common.{decimal}
use Rattle.hii_bytes.specs.Watching.{pen_of}
use Rattle.hii_bytes.proofs.WritingLemmas.{◌⨾◌}
use Rattle.question_objects.proofs.ListingLemmas.{first_left, item_next, none_left}
use Rattle.question_objects.proofs.depends.put_ids.Goals as goal

pub loop-id-init : goal.loop-id-init
loop-id-init g c = first_left _ decimal (pen_of g.W.Write.contents c.args.out.now) _ _ c.iter-left.ensures.rest

pub loop-id-preserved : goal.loop-id-preserved
loop-id-preserved g c = item_next decimal c.in-Some.id.now c.in-Some.ensures.steps c.loop-id.invariant (rw c.from.ensures at (c.put_before_item.ensures ⨾ c.put_decimal.ensures))

pub returns : goal.returns
returns g c = none_left decimal c.in_default.ensures.steps.0 c.loop-id.invariant c.put_array_end.ensures
