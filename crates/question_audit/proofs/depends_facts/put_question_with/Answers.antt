use Rattle.std.proofs.Common.{◌++◌, codes, sym, ap, ◌∙◌}
use Rattle.hii_bytes.proofs.WritingLemmas.{◌⨾◌}
use Rattle.ifr_opcodes.specs.Fields.{statement_prompt}
use Rattle.hii_questions.specs.Fields.{Asked}
use Rattle.hii_questions.specs.code.Views.{question_node, question_view}
use Rattle.guard_policy.specs.code.Views.{bytes_of}
use Rattle.audit_text.specs.Texts.{safe_text}
use Rattle.condition_text.proofs.WriteLemmas.{written_as}
use Rattle.question_audit.specs.code.Pages.{audited}
use Rattle.question_audit.specs.Dependences.{answer_text, dependence_text}
use Rattle.question_audit.proofs.AskedLemmas.{found_with, none_with}
use Rattle.question_audit.proofs.depends_facts.put_question_with.Goals as goal

pub put_answer-requires-clause-node : goal.put_answer-requires-clause-node
put_answer-requires-clause-node g c =
    let policy = c.args.page.policy in
    (found_with (bytes_of policy) _ c.args.id (question_view c.in-Some.question) policy.accepted.checked.spelled c.questions.ensures.own c.in-Some.ensures).node

pub put_answer-requires-clause-asked : goal.put_answer-requires-clause-asked
put_answer-requires-clause-asked g c =
    let policy = c.args.page.policy in
    (found_with (bytes_of policy) _ c.args.id (question_view c.in-Some.question) policy.accepted.checked.spelled c.questions.ensures.own c.in-Some.ensures).own

pub returns-in-Some : goal.returns-in-Some
returns-in-Some g c =
    let policy = c.args.page.policy in
    let a = audited c.args.page in
    let found = found_with (bytes_of policy) _ c.args.id (question_view c.in-Some.question) policy.accepted.checked.spelled c.questions.ensures.own c.in-Some.ensures in
    let n = question_node c.in-Some.question in
    written_as (rw (c.chars.ensures, c.text.ensures, c.prompt.ensures, c.op.ensures.bytes, c.statement.ensures) at (c.put_safe_shown.ensures ⨾ c.put.ensures ⨾ c.put_answer.ensures))
    (ap (λ (q : Asked). safe_text (a.texts (statement_prompt n.op)) ++ codes " " ++ answer_text a q) found.own ∙ ap (dependence_text a) (sym found.with_id))

pub returns-in-None : goal.returns-in-None
returns-in-None g c =
    let none = none_with (bytes_of c.args.page.policy) _ c.args.id c.questions.ensures.own c.in-None.ensures in
    rw none c.put-in-None.ensures
