use Rattle.std.proofs.Common.{◌≡◌, length}
use Rattle.std.specs.Prelude.{filter}
use Rattle.std.specs.List.{flat_map}
use Rattle.hii_bytes.specs.Watching.{pen_of}
use Rattle.hii_bytes.specs.code.Writing.{Stands}
use Rattle.ifr_nodes.specs.Guards.{guards_among}
use Rattle.ifr_nodes.specs.Nodes.{nodes_of}
use Rattle.ifr_nodes.specs.Rules.{is_rule}
use Rattle.ifr_nodes.specs.code.Checked.{AreNodesOf}
use Rattle.ifr_nodes.specs.code.Views.{nodes_left}
use Rattle.ifr_scopes.specs.code.Lists.{all_guards_left, rules_left}
use Rattle.guard_policy.specs.code.Views.{bytes_of}
use Rattle.question_audit.specs.code.Pages.{audited}
use Rattle.question_objects.specs.FormSets.{condition_object}
use Rattle.question_objects.proofs.condition_objects.put_condition_objects.Given as goal

-- the guards and rules before the nodes that are left were written, and those among these are left
abbrev pub invariant-loop-node : goal.invariant-loop-node
invariant-loop-node g l =
    let bytes = bytes_of l.page.policy in
    let told = condition_object (audited l.page) l.package_place in
    record {
      text : Stands (pen_of g.W.Write.contents l.fn.out) (pen_of g.W.Write.contents l.out) (flat_map told (nodes_of bytes)) (flat_map told (nodes_left l.nodes));
      guards : all_guards_left l.guards ≡ guards_among (nodes_left l.nodes);
      rules : rules_left l.rules ≡ filter is_rule (nodes_left l.nodes);
      nodes : AreNodesOf bytes (nodes_left l.nodes);
    }

abbrev pub decreases-loop-node : goal.decreases-loop-node
decreases-loop-node g l = length (nodes_left l.nodes)
