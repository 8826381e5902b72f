use Rattle.std.proofs.Common.{refl, sym, ap, subst, ◌∙◌, take}
use Rattle.config_text.specs.code.BlocksLeft.{blocks_left}
use Rattle.config_text.specs.code.Views.{block_view}
use Rattle.hii_varstore.specs.Stores.{StoreMap, byte_of, shape_of}
use Rattle.kept_conditions.specs.Kept.{KeptMap}
use Rattle.browser_commands.specs.code.Changing.{CopiesBlocks}
use Rattle.browser_commands.proofs.FieldLemmas.{fields_inside, none_has}
use Rattle.browser_commands.proofs.RouteLemmas.{all_back, all_set, first_alike, first_ranges, set_next, set_start}
use Rattle.browser_commands.proofs.blocks.set_blocks.Goals as goal

pub loop-block-init : goal.loop-block-init
loop-block-init c = (set_start c.args.policy c.args.store (blocks_left c.args.blocks) c.args.working.now, refl)

pub loop-block-preserved : goal.loop-block-preserved
loop-block-preserved c = (
  set_next c.args.policy c.args.store (blocks_left c.args.blocks) (blocks_left c.loop-block.left) (blocks_left c.next.new.self) (block_view c.in-Some.block) c.args.working.now c.loop-block.working c.set_block.new.working c.loop-block.count
      c.requires.browsed.its_package c.in-Some.ensures.steps c.loop-block.invariant.0 c.in-Ok.ensures,
  c.loop-block.invariant.1,
)

pub set_block-requires-clause-browsed : goal.set_block-requires-clause-browsed
set_block-requires-clause-browsed c = record {
  browsable = c.requires.browsed.browsable;
  its_package = c.loop-block.invariant.0.same_package ∙ c.requires.browsed.its_package;
  laid = c.loop-block.invariant.0.shape ∙ c.requires.browsed.laid;
}

pub set_block-requires-clause-together : goal.set_block-requires-clause-together
set_block-requires-clause-together c = c.requires.together

pub give_back-requires-clause-inside : goal.give_back-requires-clause-inside
give_back-requires-clause-inside c =
    let all = blocks_left c.args.blocks in
    fields_inside (shape_of c.loop-block.spare) c.args.store (take c.loop-block.count all)
    (first_ranges c.args.policy c.args.store all (blocks_left c.loop-block.left) c.args.working.now c.loop-block.working c.loop-block.spare c.loop-block.count c.loop-block.invariant.0 (ap shape_of (c.loop-block.invariant.1 ∙ c.requires.same)))

pub give_back-requires-clause-alike : goal.give_back-requires-clause-alike
give_back-requires-clause-alike c = λ other at none.
    let all = blocks_left c.args.blocks in
    ap (λ (it : KeptMap). byte_of it.stores other at) c.in-Err.ensures.0
    ∙ first_alike c.args.policy c.args.store all (blocks_left c.loop-block.left) c.args.working.now c.loop-block.working c.loop-block.count c.loop-block.invariant.0 other at (none_has c.args.store (take c.loop-block.count all) other at none)
    ∙ sym (ap (λ (m : StoreMap). byte_of m other at) (c.loop-block.invariant.1 ∙ c.requires.same))

pub returns-in-Err : goal.returns-in-Err
returns-in-Err c =
    all_back c.args.policy c.args.store (blocks_left c.args.blocks) (blocks_left c.loop-block.left) (blocks_left c.next.new.self) (block_view c.in-Some.block) c.args.working.now c.loop-block.working c.set_block.new.working c.give_back.new.self
    c.loop-block.spare c.give_back.new.before c.loop-block.count c.in-Err.denial c.requires.browsed.its_package c.in-Some.ensures.steps (c.loop-block.invariant.1 ∙ c.requires.same) c.loop-block.invariant.0 c.in-Err.ensures
    c.give_back.ensures.these c.give_back.ensures.shape c.give_back.ensures.same

pub returns : goal.returns
returns c =
    let copies = subst (λ (m : StoreMap). CopiesBlocks c.args.store (take c.loop-block.count (blocks_left c.args.blocks)) m c.loop-block.spare c.copy_blocks.new.into) c.stores.ensures c.copy_blocks.ensures in
    all_set c.args.policy c.args.store (blocks_left c.args.blocks) (blocks_left c.loop-block.left) c.args.working.now c.loop-block.working c.loop-block.spare c.copy_blocks.new.into c.loop-block.count
    c.in_default.ensures.steps.0 (c.loop-block.invariant.1 ∙ c.requires.same) c.loop-block.invariant.0 copies
