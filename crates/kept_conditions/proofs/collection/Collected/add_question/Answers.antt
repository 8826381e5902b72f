use Rattle.std.proofs.Common.{sym}
use Rattle.ifr_nodes.specs.Nodes.{nodes_of}
use Rattle.kept_conditions.proofs.collection.Collected.add_question.Goals as goal

pub returns-in_ok-add_dependency : goal.returns-in_ok-add_dependency
returns-in_ok-add_dependency c = c.in_ok-add_dependency.ensures (nodes_of c.args.source.forms.now) c.args.id c.requires (sym c.in-Some.ensures)
