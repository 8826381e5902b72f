use Rattle.std.proofs.Common.{◌≡◌, ◌<◌, ◌^◌, ℕ, List, arith, length, subst, sym, true, ◌∙◌}
use Rattle.ifr_nodes.specs.Nodes.{nodes_of}
use Rattle.hii_questions.specs.Fields.{questions}
use Rattle.hii_questions.specs.code.Views.{question_view}
use Rattle.hii_questions.specs.code.Lists.{questions_left}
use Rattle.laid_defaults.specs.Laying.{is_of}
use Rattle.laid_defaults.proofs.LayingLemmas.{one_more, some_of}
use Rattle.laid_defaults.proofs.laying.lay_each.Goals as goal

pub overflow_add-count : goal.overflow_add-count
overflow_add-count c =
    let computed = c.args.computed in
    let class = c.args.class in
    let q = question_view c.in-Some.question in
    let among : is_of computed class q ≡ true = sym c.is_of.ensures ∙ c.if-is_of.true in
    let more = one_more class computed q (questions_left c.loop-question.left) (questions_left c.next.new.self) c.in-Some.ensures.steps among in
    let most = some_of class computed (questions (nodes_of c.args.setup.forms.now)) in
    let few : length (questions (nodes_of c.args.setup.forms.now)) < 2 ^ 64 = subst (λ (ifr : List ℕ). length (questions (nodes_of ifr)) < 2 ^ 64) c.args.setup.one c.are_few.ensures in
    record { fits = omega (arith, more, most, few, c.loop-question.invariant.few) }
