use Rattle.std.proofs.lemmas.Result.{err_from_is_err_and}
use Rattle.config_text.specs.code.BlocksLeft.{blocks_left}
use Rattle.config_text.specs.code.Views.{block_view}
use Rattle.ifr_nodes.specs.Nodes.{nodes_of}
use Rattle.browser_commands.proofs.TellingLemmas.{first_denies}
use Rattle.browser_commands.proofs.telling.blocks_told.Goals as goal

pub returns-in_err-block_told : goal.returns-in_err-block_told
returns-in_err-block_told c =
    let ns = nodes_of c.args.questions.now.ifr in
    let p = err_from_is_err_and c.from_residual.result c.from_residual.ensures.1 in
    rw (p.1, p.2) (first_denies ns c.args.store c.args.size (block_view c.in-Some.block) (blocks_left c.loop-block.blocks) (blocks_left c.next.new.self) (blocks_left c.args.blocks) c.in_err-block_told.field-0.0 c.in-Some.ensures.steps c.loop-block.invariant c.in_err-block_told.ensures)
