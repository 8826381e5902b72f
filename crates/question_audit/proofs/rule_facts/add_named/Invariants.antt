use Rattle.std.proofs.Common.{◌+◌, ◌*◌, length}
use Rattle.ifr_expr.specs.References.{references}
use Rattle.ifr_expr.specs.code.Expressions.{tree_of}
use Rattle.ifr_nodes.specs.Nodes.{nodes_of}
use Rattle.ifr_nodes.specs.Rules.{rules_among}
use Rattle.question_audit.specs.RuleFacts.{references_over, rule_references}
use Rattle.question_audit.specs.code.Places.{has_place}
use Rattle.question_audit.proofs.ClosureLemmas.{IsWalked}
use Rattle.question_audit.proofs.NamingLemmas.{frames_left, named_left}
use Rattle.question_audit.proofs.rule_facts.add_named.Given as goal

-- the rules behind the references that are left are left to be added
abbrev pub invariant-loop-references : goal.invariant-loop-references
invariant-loop-references l =
    let ns = nodes_of l.forms in
    let rules = rules_among ns in
    let tree = tree_of l.expression in
    IsWalked ns (has_place l.fn.places) (has_place l.places) (references tree) (references_over (rule_references rules) tree) (named_left l.frames.items) (frames_left rules l.frames.items)

-- each reference takes at most two turns, and each expression one at its end
abbrev pub decreases-loop-references : goal.decreases-loop-references
decreases-loop-references l = 2 * length (frames_left (rules_among (nodes_of l.forms)) l.frames.items) + length l.frames.items
