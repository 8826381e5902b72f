use Rattle.std.proofs.Common.{sym, ap, ◌∙◌}
use Rattle.std.proofs.lemmas.Result.{on_ok_weaker}
use Rattle.hii_questions.specs.code.Views.{question_view}
use Rattle.guard_policy.specs.code.Views.{bytes_of}
use Rattle.condition_text.proofs.WriteLemmas.{written_as}
use Rattle.question_audit.specs.code.Pages.{audited}
use Rattle.question_audit.proofs.AskedLemmas.{found_with, none_with}
use Rattle.question_rows.specs.Dependences.{dependence_of, known_dependence}
use Rattle.question_rows.proofs.depends.put_dependence.Goals as goal

pub put_known-requires-clause-node : goal.put_known-requires-clause-node
put_known-requires-clause-node g c =
    let policy = c.args.page.policy in
    (found_with (bytes_of policy) _ c.args.id (question_view c.in-Some.question) policy.accepted.checked.spelled c.questions.ensures.own c.in-Some.ensures).node

pub put_known-requires-clause-asked : goal.put_known-requires-clause-asked
put_known-requires-clause-asked g c =
    let policy = c.args.page.policy in
    (found_with (bytes_of policy) _ c.args.id (question_view c.in-Some.question) policy.accepted.checked.spelled c.questions.ensures.own c.in-Some.ensures).own

pub returns-in-Some-clause-told : goal.returns-in-Some-clause-told
returns-in-Some-clause-told g c =
    let policy = c.args.page.policy in
    let a = audited c.args.page in
    let found = found_with (bytes_of policy) _ c.args.id (question_view c.in-Some.question) policy.accepted.checked.spelled c.questions.ensures.own c.in-Some.ensures in
    on_ok_weaker c.put_known.result (λ told. written_as told (ap (known_dependence c.args.when a) found.own ∙ ap (dependence_of c.args.when a c.args.id) (sym found.with_id))) c.put_known.ensures.told

pub returns-in-None-clause-told : goal.returns-in-None-clause-told
returns-in-None-clause-told g c = rw (none_with (bytes_of c.args.page.policy) _ c.args.id c.questions.ensures.own c.in-None.ensures) c.put_unknown.ensures
