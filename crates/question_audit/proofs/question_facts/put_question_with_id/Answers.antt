use Rattle.std.proofs.Common.{[], ap, inl, inr, refl, subst, sym, ◌∙◌}
use Rattle.hii_bytes.specs.Watching.{Writes, pen_of}
use Rattle.hii_bytes.proofs.WritingLemmas.{writes_nil, ◌⨾◌}
use Rattle.ifr_nodes.specs.Nodes.{nodes_of}
use Rattle.hii_varstore.specs.Stores.{shape_of}
use Rattle.hii_questions.specs.code.LyingIn.{LiesIn}
use Rattle.hii_questions.specs.code.Views.{question_view}
use Rattle.guard_policy.specs.code.Views.{bytes_of}
use Rattle.question_audit.specs.code.Pages.{audited}
use Rattle.question_audit.proofs.QuestionsLemmas.{question_lies}
use Rattle.question_audit.specs.QuestionFacts.{question_facts}
use Rattle.question_audit.proofs.AskedLemmas.{found_with, none_with, with_id_asks}
use Rattle.question_audit.proofs.BeginningLemmas.{at_error}
use Rattle.question_audit.proofs.question_facts.put_question_with_id.Goals as goal

pub put_question_facts-requires-clause-node : goal.put_question_facts-requires-clause-node
put_question_facts-requires-clause-node g c =
    let policy = c.args.page.policy in
    (found_with (bytes_of policy) _ c.args.id (question_view c.in-Some.question) policy.accepted.checked.spelled c.questions.ensures.own c.in-Some.ensures).node

pub put_question_facts-requires-clause-asked : goal.put_question_facts-requires-clause-asked
put_question_facts-requires-clause-asked g c =
    let policy = c.args.page.policy in
    (found_with (bytes_of policy) _ c.args.id (question_view c.in-Some.question) policy.accepted.checked.spelled c.questions.ensures.own c.in-Some.ensures).own

pub put_question_facts-requires-clause-lies : goal.put_question_facts-requires-clause-lies
put_question_facts-requires-clause-lies g c =
    let policy = c.args.page.policy in
    let bytes = bytes_of policy in
    let q = question_view c.in-Some.question in
    let found = found_with bytes _ c.args.id q policy.accepted.checked.spelled c.questions.ensures.own c.in-Some.ensures in
    let shape = shape_of c.args.page.stores.now in
    subst (LiesIn shape) (sym found.own) (question_lies shape bytes q.node c.requires.lie found.node (with_id_asks (nodes_of bytes) c.args.id q.node found.with_id))

pub returns-in_ok-put_question_facts-in-Some-clause-told : goal.returns-in_ok-put_question_facts-in-Some-clause-told
returns-in_ok-put_question_facts-in-Some-clause-told g c =
    let policy = c.args.page.policy in
    let bytes = bytes_of policy in
    let a = audited c.args.page in
    let q = question_view c.in-Some.question in
    let found = found_with bytes _ c.args.id q policy.accepted.checked.spelled c.questions.ensures.own c.in-Some.ensures in
    let w = c.in_ok-put_question_facts-in-Some.ensures.written in
    let text = ap (question_facts a w.0 c.args.origin) found.own in
    (_, (q.node, found.with_id, w.0, w.1, text), w.2)

pub returns-in-None-clause-told : goal.returns-in-None-clause-told
returns-in-None-clause-told g c =
    let none = none_with (bytes_of c.args.page.policy) _ c.args.id c.questions.ensures.own c.in-None.ensures in
    (_, (none, refl), rw c.from.ensures at (c.put.ensures ⨾ c.put_decimal.ensures ⨾ c.put-in-None.ensures))

pub returns-in_err-put_question_facts-in-Some-clause-begun : goal.returns-in_err-put_question_facts-in-Some-clause-begun
returns-in_err-put_question_facts-in-Some-clause-begun g c =
    let policy = c.args.page.policy in
    let bytes = bytes_of policy in
    let a = audited c.args.page in
    let q = question_view c.in-Some.question in
    let found = found_with bytes _ c.args.id q policy.accepted.checked.spelled c.questions.ensures.own c.in-Some.ensures in
    at_error c.from_residual.result (elim c.in_err-put_question_facts-in-Some.ensures.begun [
      | inl same ↦ ([], inl refl, subst (λ now. Writes (pen_of g.W.Write.contents c.args.out.now) (pen_of g.W.Write.contents now) []) (sym same) (writes_nil _))
      | inr w ↦
          let text = ap (question_facts a w.0 c.args.origin) found.own in
          (w.2.front, inr (q.node, found.with_id, w.0, w.1, w.2.rest, sym text ∙ w.2.parts), w.2.written)
    ])
