use Rattle.std.proofs.Common.{◌∙◌}
use Rattle.ifr_nodes.specs.Nodes.{nodes_of}
use Rattle.ifr_scopes.specs.code.AnyConditions.{any_condition_node}
use Rattle.guard_policy.specs.Conditions.{condition_ids}
use Rattle.guard_policy.proofs.AskedLemmas.{next_piece}
use Rattle.guard_policy.proofs.support_of.SupportOfIterator.next.Goals as goal

pub loop-id-preserved : goal.loop-id-preserved
loop-id-preserved c =
    let n = any_condition_node c.in_ok-condition.condition in
    next_piece (condition_ids (nodes_of c.loop-id.self.forms.now)) _ n _ _ _ c.in_default.ensures.0 c.in_ok-condition.ensures c.ids_of.ensures ∙ c.loop-id.invariant
