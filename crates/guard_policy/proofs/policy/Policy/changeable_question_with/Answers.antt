use Rattle.std.proofs.Common.{◌≡◌, None, Ok, refl, sym, ap, ◌∙◌}
use Rattle.std.proofs.lemmas.Bool.{cond-true}
use Rattle.std.proofs.lemmas.Result.{err_from_is_err_and}
use Rattle.ifr_nodes.specs.Nodes.{nodes_of, is_question}
use Rattle.hii_questions.specs.Fields.{asked}
use Rattle.hii_questions.specs.code.Views.{question_node, question_view}
use Rattle.guard_policy.specs.Policy.{covered, fixed_itself, fixed_question}
use Rattle.guard_policy.specs.code.Answers.{unless}
use Rattle.guard_policy.specs.code.Surroundings.{IsAroundNode}
use Rattle.guard_policy.specs.code.Views.{world_by}
use Rattle.guard_policy.proofs.DenialLemmas.{first_allows, first_denies}
use Rattle.guard_policy.proofs.IndexedLemmas.{of_statement, guards_there, lock_there}
use Rattle.guard_policy.proofs.SurroundingLemmas.{covers}
use Rattle.guard_policy.proofs.policy.Policy.changeable_question_with.Goals as goal
use Rattle.guard_policy.proofs.policy.Policy.changeable_question_with.Goals.{After-around_at-around, In_ok-unless_covered}

-- what was looked up
its : (g : _) (c : After-around_at-around g) → IsAroundNode c.args.self.now.forms.now (question_node c.args.question) c.around_at-around.result
its g c =
    let policy = c.args.self.now in
    let n = question_node c.args.question in
    let spelled = policy.accepted.checked.spelled in
    let indexed = of_statement n c.args.question.statement.statement in
    record {
      of_package = c.around_at-around.ensures.of_package;
      guards = guards_there policy.forms.now n c.place.result _ spelled c.requires.node indexed (sym c.place.ensures) c.around_at-around.ensures.guards;
      lock = lock_there policy.forms.now n c.place.result _ spelled c.requires.node indexed (sym c.place.ensures) c.around_at-around.ensures.lock;
    }

-- nothing around it forbids a change
free : (g : _) (c : In_ok-unless_covered g) → IsAroundNode c.args.self.now.forms.now (question_node c.args.question) c.around_at-around.result
    → unless (covered (world_by c.args.self.now (g.V.Verdicts.met c.args.verdicts.now)) (question_node c.args.question)) ≡ Ok tt
free g c it =
    let w = world_by c.args.self.now (g.V.Verdicts.met c.args.verdicts.now) in
    ap unless (sym (covers c.args.self.now.forms.now w (question_node c.args.question) c.around_at-around.result refl it)) ∙ sym c.in_ok-unless_covered.ensures

-- what it forbids by itself
itself : (g : _) (c : In_ok-unless_covered g) → fixed_question (question_view c.args.question) ≡ fixed_itself (nodes_of c.args.self.now.forms.now) (question_node c.args.question)
itself g c =
    let ns = nodes_of c.args.self.now.forms.now in
    let n = question_node c.args.question in
    ap fixed_question c.requires.asked ∙ sym (cond-true (is_question n) (fixed_question (asked ns n)) None c.args.question.asks)

pub returns-in_err-unless_covered-clause-answer : goal.returns-in_err-unless_covered-clause-answer
returns-in_err-unless_covered-clause-answer g c =
    let w = world_by c.args.self.now (g.V.Verdicts.met c.args.verdicts.now) in
    let n = question_node c.args.question in
    let it = its g (goal.at.returns-in_err-unless_covered-clause-answer g c).After-around_at-around in
    let why = ap unless (sym (covers c.args.self.now.forms.now w n c.around_at-around.result refl it)) ∙ sym c.in_err-unless_covered.ensures in
    let p = err_from_is_err_and c.from_residual.result c.from_residual.ensures.1 in
    rw (p.1, p.2) (sym (first_denies (covered w n) (fixed_itself (nodes_of c.args.self.now.forms.now) n) c.in_err-unless_covered.field-0.0 why))

pub returns-in_err-fixed_question-clause-answer : goal.returns-in_err-fixed_question-clause-answer
returns-in_err-fixed_question-clause-answer g c =
    let ns = nodes_of c.args.self.now.forms.now in
    let w = world_by c.args.self.now (g.V.Verdicts.met c.args.verdicts.now) in
    let n = question_node c.args.question in
    let at = goal.at.returns-in_err-fixed_question-clause-answer g c in
    let none = free g at.In_ok-unless_covered (its g at.After-around_at-around) in
    let p = err_from_is_err_and c.from_residual-in_err-fixed_question.result c.from_residual-in_err-fixed_question.ensures.1 in
    rw (p.1, p.2) (c.in_err-fixed_question.ensures ∙ ap unless (itself g at.In_ok-unless_covered) ∙ sym (first_allows (covered w n) (fixed_itself ns n) none))

pub returns-clause-answer : goal.returns-clause-answer
returns-clause-answer g c =
    let ns = nodes_of c.args.self.now.forms.now in
    let w = world_by c.args.self.now (g.V.Verdicts.met c.args.verdicts.now) in
    let n = question_node c.args.question in
    let at = goal.at.returns-clause-answer g c in
    let none = free g at.In_ok-unless_covered (its g at.After-around_at-around) in
    c.in_ok-fixed_question.ensures ∙ ap unless (itself g at.In_ok-unless_covered) ∙ sym (first_allows (covered w n) (fixed_itself ns n) none)

pub returns-clause-around : goal.returns-clause-around
returns-clause-around g c = its g (goal.at.returns-clause-around g c).After-around_at-around
