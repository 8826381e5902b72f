use Rattle.std.proofs.Common.{◌≡◌, ◌+◌, ◌*◌, length}
use Rattle.std.specs.List.{flat_map}
use Rattle.ifr_expr.specs.code.Expressions.{tree_of}
use Rattle.ifr_nodes.specs.Nodes.{nodes_of}
use Rattle.ifr_nodes.specs.Rules.{rules_among}
use Rattle.hii_questions.specs.code.Views.{question_view}
use Rattle.question_audit.specs.RuleFacts.{references_over, rule_references}
use Rattle.question_audit.proofs.NamingLemmas.{frames_left}
use Rattle.unlock_audit.specs.Constants.{named_constants}
use Rattle.unlock_audit.specs.code.Offered.{offered_near}
use Rattle.unlock_audit.proofs.constants.Numeric.add_named.Given as goal

-- what is near to the constants of the rules behind the references that are left is left to be added
abbrev pub invariant-loop-references : goal.invariant-loop-references
invariant-loop-references l =
    let ns = nodes_of l.forms in
    let rules = rules_among ns in
    let q = question_view l.self.question in
    offered_near q l.values.keys (flat_map (named_constants ns) (frames_left rules l.frames.items))
    ≡ offered_near q l.fn.values.keys (flat_map (named_constants ns) (references_over (rule_references rules) (tree_of l.expression)))

-- each reference takes at most two turns, and each expression one at its end
abbrev pub decreases-loop-references : goal.decreases-loop-references
decreases-loop-references l = 2 * length (frames_left (rules_among (nodes_of l.forms)) l.frames.items) + length l.frames.items
