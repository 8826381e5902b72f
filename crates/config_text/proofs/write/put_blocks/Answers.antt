use Rattle.std.proofs.Common.{length, refl, ap}
use Rattle.std.specs.List.{flat_map}
use Rattle.hii_bytes.proofs.WritingLemmas.{Stands-start, past_piece}
use Rattle.config_text.specs.code.Views.{block_view}
use Rattle.config_text.specs.code.Written.{block_text}
use Rattle.config_text.proofs.WriteLemmas.{inside_some}
use Rattle.config_text.proofs.write.put_blocks.Goals as goal

pub loop-block-init : goal.loop-block-init
loop-block-init g c = (c.requires, Stands-start _ _)

pub loop-block-preserved : goal.loop-block-preserved
loop-block-preserved g c = (
  (inside_some _ _ _ (length c.args.store.now) c.in-Some.ensures.steps c.loop-block.invariant.0).1,
  past_piece _ _ _ _ _ _ _ (ap (flat_map (block_text c.args.store.now)) c.in-Some.ensures.steps) c.loop-block.invariant.1
      (c.put_block.ensures (block_view c.in-Some.block) refl refl),
)
