use Rattle.std.proofs.Common.{◌≡◌, length}
use Rattle.config_text.specs.code.BlocksLeft.{blocks_left}
use Rattle.ifr_nodes.specs.Nodes.{nodes_of}
use Rattle.session_steps.specs.Step.{first_untold}
use Rattle.browser_commands.proofs.telling.blocks_told.Given as goal

-- the blocks that were met may be told
abbrev pub invariant-loop-block : goal.invariant-loop-block
invariant-loop-block l =
    let ns = nodes_of l.questions.ifr in
    first_untold ns l.store l.size (blocks_left l.blocks) ≡ first_untold ns l.store l.size (blocks_left l.fn.blocks)

abbrev pub decreases-loop-block : goal.decreases-loop-block
decreases-loop-block l = length (blocks_left l.blocks)
