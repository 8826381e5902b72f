use Rattle.std.proofs.Common.{◌≡◌, None, ℕ, List, sym, ap, ◌∙◌}
use Rattle.std.specs.Prelude.{slice_get}
use Rattle.std.proofs.lemmas.Option.{slice_get_past}
use Rattle.ifr_nodes.specs.Nodes.{nodes_of}
use Rattle.hii_questions.specs.code.Views.{question_view}
use Rattle.guard_policy.specs.code.Views.{bytes_of}
use Rattle.question_audit.proofs.AskedLemmas.{found_with, none_with}
use Rattle.unlock_audit.specs.Asking.{with_conditions}
use Rattle.unlock_audit.specs.code.Askings.{asking_meant}
use Rattle.unlock_audit.proofs.IdLemmas.{add_none, around_none, around_of, around_past, read_there}
use Rattle.unlock_audit.proofs.asking.add_behind.Goals as goal

pub returns-in_default : goal.returns-in_default
returns-in_default c =
    let ids = c.args.asking.now.ids.items in
    let none : slice_get ids c.args.number ≡ None = ap (λ (l : List ℕ). slice_get l c.args.number) (sym c.as_slice.ensures.value) ∙ slice_get_past c.as_slice.result.now c.args.number c.in_default.ensures.lookup.3 in
    sym (add_none (nodes_of (bytes_of c.args.policy)) (asking_meant c.args.asking.now) _ (around_past (nodes_of (bytes_of c.args.policy)) ids c.args.number none))

pub returns-in_default-find : goal.returns-in_default-find
returns-in_default-find c =
    let bytes = bytes_of c.args.policy in
    let ids = c.args.asking.now.ids.items in
    let id = c.in-Some.id.now in
    let here = read_there ids c.as_slice.result.now c.args.number id c.as_slice.ensures.value c.in-Some.ensures.lookup.3.0 c.in-Some.ensures.lookup.1 in
    sym (add_none (nodes_of bytes) (asking_meant c.args.asking.now) _ (around_none (nodes_of bytes) ids c.args.number id here (none_with bytes c.args.questions.now.ifr id c.requires c.in_default-find.ensures)))

pub add_question-requires : goal.add_question-requires
add_question-requires c =
    let bytes = bytes_of c.args.policy in
    (found_with bytes c.args.questions.now.ifr c.in-Some.id.now (question_view c.in-Some-find.question) c.args.policy.accepted.checked.spelled c.requires c.in-Some-find.ensures).node

pub returns : goal.returns
returns c =
    let bytes = bytes_of c.args.policy in
    let ids = c.args.asking.now.ids.items in
    let id = c.in-Some.id.now in
    let q = question_view c.in-Some-find.question in
    let here = read_there ids c.as_slice.result.now c.args.number id c.as_slice.ensures.value c.in-Some.ensures.lookup.3.0 c.in-Some.ensures.lookup.1 in
    let with_id = (found_with bytes c.args.questions.now.ifr id q c.args.policy.accepted.checked.spelled c.requires c.in-Some-find.ensures).with_id in
    c.in_ok-add_question.ensures ∙ ap (with_conditions (nodes_of bytes) (asking_meant c.args.asking.now)) (sym (around_of (nodes_of bytes) ids c.args.number id q.node here with_id))
