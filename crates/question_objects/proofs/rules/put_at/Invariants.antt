use Rattle.std.proofs.Common.{◌≡◌, ℕ, codes, length, map}
use Rattle.std.specs.Prelude.{filter}
use Rattle.hii_bytes.specs.Watching.{pen_of}
use Rattle.ifr_opcodes.specs.Forest.{Node}
use Rattle.ifr_nodes.specs.Nodes.{nodes_of}
use Rattle.ifr_nodes.specs.code.Checked.{AreNodesOf}
use Rattle.ifr_scopes.specs.code.Lists.{rules_left}
use Rattle.guard_policy.specs.code.Views.{bytes_of}
use Rattle.audit_json.proofs.ArrayLemmas.{Lists}
use Rattle.question_audit.specs.RuleFacts.{is_named, named_rules}
use Rattle.question_audit.specs.code.Places.{has_place}
use Rattle.question_objects.specs.Conditions.{rule_item}
use Rattle.question_objects.proofs.rules.put_at.Given as goal

-- the rules before those that are left were written where they are named
abbrev pub invariant-loop-rule : goal.invariant-loop-rule
invariant-loop-rule g l =
    let bytes = bytes_of l.policy in
    let ns = nodes_of bytes in
    let item = rule_item l.package_place in
    record {
      written : (n : Node) → ((place : ℕ) → has_place l.places place ≡ is_named ns n place)
          → Lists (codes "rules") (map item (named_rules ns n)) (map item (filter (λ r. is_named ns n r.place) (rules_left l.rules))) l.is_first (pen_of g.W.Write.contents l.fn.out) (pen_of g.W.Write.contents l.out);
      nodes : AreNodesOf bytes (rules_left l.rules);
    }

abbrev pub decreases-loop-rule : goal.decreases-loop-rule
decreases-loop-rule g l = length (rules_left l.rules)
