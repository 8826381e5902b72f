use Rattle.std.proofs.Common.{length}
use Rattle.std.specs.Prelude.{filter}
use Rattle.std.specs.List.{flat_map}
use Rattle.hii_bytes.specs.Watching.{pen_of}
use Rattle.hii_bytes.specs.code.Writing.{Stands}
use Rattle.ifr_nodes.specs.Nodes.{nodes_of}
use Rattle.ifr_nodes.specs.code.Checked.{AreNodesOf}
use Rattle.ifr_scopes.specs.code.Lists.{rules_left}
use Rattle.hii_questions.specs.code.Views.{question_node}
use Rattle.guard_policy.specs.code.Views.{bytes_of}
use Rattle.question_audit.specs.RuleFacts.{is_named}
use Rattle.question_rows.specs.Conditions.{rule_part, rules_part}
use Rattle.question_rows.proofs.rules.put_rules.Given as goal

-- the rules before those that are left were written
abbrev pub invariant-loop-rule : goal.invariant-loop-rule
invariant-loop-rule g l =
    let bytes = bytes_of l.page.policy in
    let n = question_node l.fn.question in
    record {
      written : Stands (pen_of g.W.Write.contents l.fn.out) (pen_of g.W.Write.contents l.out) (rules_part (nodes_of bytes) n)
          (flat_map (rule_part (nodes_of bytes)) (filter (λ r. is_named (nodes_of bytes) n r.place) (rules_left l.rules)));
      nodes : AreNodesOf bytes (rules_left l.rules);
    }

abbrev pub decreases-loop-rule : goal.decreases-loop-rule
decreases-loop-rule g l = length (rules_left l.rules)
