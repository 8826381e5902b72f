use Rattle.std.proofs.Common.{◌∙◌}
use Rattle.std.proofs.lemmas.Result.{IfOk-weaker}
use Rattle.ifr_nodes.specs.Nodes.{nodes_of}
use Rattle.hii_varstore.specs.StoreNodes.{layout_of}
use Rattle.hii_questions.specs.Faults.{is_known}
use Rattle.hii_questions.specs.code.Views.{question_view}
use Rattle.hii_questions.proofs.ReadLemmas.{outside_is}
use Rattle.package_faults.proofs.QuestionLemmas.{question_told}
use Rattle.package_faults.proofs.questions.add_of_question.Goals as goal

pub returns-clause-added : goal.returns-clause-added
returns-clause-added c =
    let ns = nodes_of c.args.forms.now in
    let q = question_view c.args.question in
    let outside = c.is_outside.ensures ∙ outside_is (layout_of ns) q c.args.size c.requires.sized c.requires.asked in
    IfOk-weaker c.add_of_options.result _ _ (λ _ added.
    question_told (layout_of ns) (is_known ns) q c.in_ok-lacks.lacks c.is_outside.result _ _ _ _ c.in_ok-lacks.ensures.told outside (rw c.place-place.ensures at c.in_ok-add_where.ensures)
    (rw c.place-place.ensures at c.in_ok-add_where-2.ensures) added) c.add_of_options.ensures
