use Rattle.std.proofs.Common.{◌≡◌, ◌+◌, ◌<◌, ◌^◌, true, arith, sym, ◌∙◌}
use Rattle.ifr_nodes.specs.Nodes.{is_question, statements}
use Rattle.ifr_scopes.specs.code.Lists.{form_node, statement_node}
use Rattle.report_audit.proofs.CountLemmas.{is_asked, room}
use Rattle.report_audit.proofs.contents.question_count.Goals as goal

pub overflow_add-count : goal.overflow_add-count
overflow_add-count c =
    let n = statement_node c.in-Some.statement in
    let few = c.statements_are_few.ensures c.args.form in
    let is : is_question n ≡ true = sym (c.is_some.ensures ∙ is_asked _ (is_question n) _ _ c.question.ensures) ∙ c.if-is_some.true in
    let fits : c.loop-statement.count + 1 < 2 ^ 64 = room is_question n (statements (form_node c.args.form)) _ _ c.loop-statement.count c.in-Some.ensures.steps is c.loop-statement.invariant.counted (omega (arith, few)) in
    omega arith
