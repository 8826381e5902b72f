use Rattle.std.proofs.Common.{inr, refl, subst, sym}
use Rattle.ifr_nodes.specs.Nodes.{nodes_of}
use Rattle.hii_varstore.specs.Stores.{shape_of}
use Rattle.hii_questions.specs.code.LyingIn.{LiesIn}
use Rattle.hii_questions.specs.code.Views.{question_view}
use Rattle.guard_policy.specs.code.Views.{bytes_of}
use Rattle.question_audit.proofs.QuestionsLemmas.{question_lies}
use Rattle.question_audit.proofs.AskedLemmas.{found_with, none_with, with_id_asks}
use Rattle.question_audit.proofs.BeginningLemmas.{at_error}
use Rattle.question_objects.proofs.objects.put_question_object.Goals as goal

pub put_lone-requires-clause-node : goal.put_lone-requires-clause-node
put_lone-requires-clause-node g c =
    let policy = c.args.page.policy in
    (found_with (bytes_of policy) _ c.args.id (question_view c.in-Some.question) policy.accepted.checked.spelled c.questions.ensures.own c.in-Some.ensures).node

pub put_lone-requires-clause-asked : goal.put_lone-requires-clause-asked
put_lone-requires-clause-asked g c =
    let policy = c.args.page.policy in
    (found_with (bytes_of policy) _ c.args.id (question_view c.in-Some.question) policy.accepted.checked.spelled c.questions.ensures.own c.in-Some.ensures).own

pub put_lone-requires-clause-lies : goal.put_lone-requires-clause-lies
put_lone-requires-clause-lies g c =
    let policy = c.args.page.policy in
    let bytes = bytes_of policy in
    let q = question_view c.in-Some.question in
    let found = found_with bytes _ c.args.id q policy.accepted.checked.spelled c.questions.ensures.own c.in-Some.ensures in
    let shape = shape_of c.args.page.stores.now in
    subst (LiesIn shape) (sym found.own) (question_lies shape bytes q.node c.requires.lie found.node (with_id_asks (nodes_of bytes) c.args.id q.node found.with_id))

pub returns-in_ok-put_lone-in-Some-clause-told : goal.returns-in_ok-put_lone-in-Some-clause-told
returns-in_ok-put_lone-in-Some-clause-told g c =
    let policy = c.args.page.policy in
    let q = question_view c.in-Some.question in
    let found = found_with (bytes_of policy) _ c.args.id q policy.accepted.checked.spelled c.questions.ensures.own c.in-Some.ensures in
    (_, (q.node, found.with_id, refl), c.in_ok-put_lone-in-Some.ensures.told)

pub returns-in-None-clause-told : goal.returns-in-None-clause-told
returns-in-None-clause-told g c =
    let none = none_with (bytes_of c.args.page.policy) _ c.args.id c.questions.ensures.own c.in-None.ensures in
    (_, (none, refl), c.put_no_question.ensures)

pub returns-in_err-put_lone-in-Some-clause-begun : goal.returns-in_err-put_lone-in-Some-clause-begun
returns-in_err-put_lone-in-Some-clause-begun g c =
    let policy = c.args.page.policy in
    let q = question_view c.in-Some.question in
    let found = found_with (bytes_of policy) _ c.args.id q policy.accepted.checked.spelled c.questions.ensures.own c.in-Some.ensures in
    let w = c.in_err-put_lone-in-Some.ensures.begun in
    at_error c.from_residual.result (w.front, inr (q.node, found.with_id, w.rest, w.parts), w.written)
