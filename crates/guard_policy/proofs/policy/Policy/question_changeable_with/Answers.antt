use Rattle.std.proofs.Common.{None, sym, ap, ◌∙◌}
use Rattle.std.proofs.lemmas.Bool.{cond-true}
use Rattle.std.proofs.lemmas.Result.{err_from_is_err_and}
use Rattle.ifr_nodes.specs.Nodes.{nodes_of, is_question}
use Rattle.hii_questions.specs.code.Views.{question_node}
use Rattle.hii_questions.specs.Fields.{asked}
use Rattle.guard_policy.specs.Policy.{covered, fixed_itself, fixed_question}
use Rattle.guard_policy.specs.code.Answers.{unless}
use Rattle.guard_policy.specs.code.Views.{world_by}
use Rattle.guard_policy.proofs.DenialLemmas.{first_allows, first_denies}
use Rattle.guard_policy.proofs.IndexedLemmas.{of_statement}
use Rattle.guard_policy.proofs.policy.Policy.question_changeable_with.Goals as goal

pub returns-in_err-uncovered_at : goal.returns-in_err-uncovered_at
returns-in_err-uncovered_at g c =
    let w = world_by c.args.self.now (g.V.Verdicts.met c.args.verdicts.now) in
    let n = question_node c.args.question in
    let why = sym (c.in_err-uncovered_at.ensures n c.requires.node (of_statement n c.args.question.statement.statement) (sym c.place.ensures)) in
    let p = err_from_is_err_and c.from_residual.result c.from_residual.ensures.1 in
    rw (p.1, p.2) (sym (first_denies (covered w n) (fixed_itself (nodes_of c.args.self.now.forms.now) n) c.in_err-uncovered_at.field-0.0 why))

pub returns : goal.returns
returns g c =
    let ns = nodes_of c.args.self.now.forms.now in
    let w = world_by c.args.self.now (g.V.Verdicts.met c.args.verdicts.now) in
    let n = question_node c.args.question in
    let free = sym (c.in_ok-uncovered_at.ensures n c.requires.node (of_statement n c.args.question.statement.statement) (sym c.place.ensures)) in
    let itself = ap fixed_question c.requires.asked ∙ sym (cond-true (is_question n) (fixed_question (asked ns n)) None c.args.question.asks) in
    c.fixed_question.ensures ∙ ap unless itself ∙ sym (first_allows (covered w n) (fixed_itself ns n) free)
