use Rattle.std.proofs.Common.{take, ◌∙◌}
use Rattle.config_text.specs.code.BlocksLeft.{blocks_left}
use Rattle.config_text.specs.code.Views.{block_view}
use Rattle.browser_commands.proofs.RouteLemmas.{copy_start, copy_next, next_range, copied_all, none_left}
use Rattle.browser_commands.proofs.blocks.copy_blocks.Goals as goal

pub loop-count-init : goal.loop-count-init
loop-count-init c = copy_start c.args.store (take c.args.count (blocks_left c.args.blocks)) c.args.from.now c.args.into.now c.requires.ranges

pub returns-in_default : goal.returns-in_default
returns-in_default c =
    let left = blocks_left c.loop-count.blocks in
    copied_all c.args.store (take c.args.count (blocks_left c.args.blocks)) (take c.loop-count.count left) c.args.from.now c.args.into.now c.loop-count.into (none_left c.loop-count.count left c.in_default.ensures.steps.0) c.loop-count.invariant

pub copy_range-requires-clause-same : goal.copy_range-requires-clause-same
copy_range-requires-clause-same c = c.loop-count.invariant.shape ∙ c.requires.same

pub copy_range-requires-clause-range : goal.copy_range-requires-clause-range
copy_range-requires-clause-range c =
    rw (c.from-width.ensures, c.from.ensures) (next_range c.args.store (take c.args.count (blocks_left c.args.blocks)) (blocks_left c.loop-count.blocks) (blocks_left c.next.new.self) (block_view c.in-Some.block) c.loop-count.count c.args.from.now c.args.into.now c.loop-count.into
    c.loop-count-test.true c.in-Some.ensures.steps c.loop-count.invariant)

pub loop-count-preserved : goal.loop-count-preserved
loop-count-preserved c =
    copy_next c.args.store (take c.args.count (blocks_left c.args.blocks)) (blocks_left c.loop-count.blocks) (blocks_left c.next.new.self) (block_view c.in-Some.block) c.loop-count.count c.args.from.now c.args.into.now c.loop-count.into c.copy_range.new.self
    c.loop-count-test.true c.in-Some.ensures.steps c.requires.same c.loop-count.invariant (rw (c.from-width.ensures, c.from.ensures) at c.copy_range.ensures.copied) c.copy_range.ensures.shape
