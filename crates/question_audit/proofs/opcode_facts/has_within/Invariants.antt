use Rattle.std.proofs.Common.{◌≡◌, length}
use Rattle.std.specs.Prelude.{◌==◌}
use Rattle.std.specs.List.{list_any}
use Rattle.ifr_scopes.specs.code.Lists.{form_node, statement_node}
use Rattle.ifr_scopes.specs.code.StatementsLeft.{statements_of_left}
use Rattle.question_audit.specs.QuestionFacts.{has_within}
use Rattle.question_audit.proofs.opcode_facts.has_within.Given as goal

-- the statements that were met stand at other places
abbrev pub invariant-loop-other : goal.invariant-loop-other
invariant-loop-other l =
    let n = statement_node l.statement in
    list_any (λ m. m.place == n.place) (statements_of_left l.statements) ≡ has_within n (form_node l.form)

abbrev pub decreases-loop-other : goal.decreases-loop-other
decreases-loop-other l = length (statements_of_left l.statements)
