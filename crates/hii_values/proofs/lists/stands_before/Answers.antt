use Rattle.std.proofs.Common.{◌∙◌}
use Rattle.hii_values.specs.code.ItemsLeft.{items_left}
use Rattle.hii_values.proofs.ListLemmas.{among_more}
use Rattle.hii_values.proofs.lists.stands_before.Goals as goal

pub loop-item-preserved : goal.loop-item-preserved
loop-item-preserved c = record {
  can = tt;
  ends = tt;
  same = among_more c.args.wanted c.loop-item.left c.in-Some.item (items_left c.loop-item.item-iterator) (items_left c.next.new.self) c.in-Some.ensures.steps c.if-left-eq0.false c.if-item-wanted.false
      ∙ c.loop-item.invariant.same;
}
