use Rattle.std.proofs.Common.{Some, ap, sym, ◌∙◌}
use Rattle.ifr_opcodes.specs.Forest.{node_at}
use Rattle.ifr_nodes.specs.Nodes.{nodes_of}
use Rattle.ifr_nodes.specs.code.Checked.{node_in, or_empty}
use Rattle.ifr_nodes.proofs.ViewLemmas.{some_there}
use Rattle.check_audit.proofs.warning_lines.guard_at.Goals as goal

pub returns-clause-found : goal.returns-clause-found
unfolding node_in
returns-clause-found c =
    let found = some_there (node_at (nodes_of c.args.ifr.now) c.args.place) c.requires.there in
    found.1 ∙ ap Some (sym (ap or_empty found.1) ∙ sym c.node_at.ensures.node)
