use Rattle.std.proofs.Common.{sym, subst}
use Rattle.ifr_nodes.specs.Nodes.{nodes_of}
use Rattle.ifr_index.specs.code.Tables.{AreConditionsBefore}
use Rattle.ifr_scopes.proofs.condition_view.ConditionView.number.Goals as goal

pub returns-clause-counted : goal.returns-clause-counted
returns-clause-counted c =
    let view = c.args.self in
    subst (AreConditionsBefore (nodes_of view.node.ifr.now) view.number) (sym view.node.stands.placed) view.counted
