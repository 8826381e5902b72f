use Rattle.std.proofs.Common.{◌≡◌, not, Ok, Err, sym, ap, subst, ◌∙◌}
use Rattle.std.specs.Prelude.{IfOk}
use Rattle.ifr_opcodes.specs.Fields.{is_read_only}
use Rattle.guard_policy.specs.Policy.{fixed}
use Rattle.guard_policy.specs.code.Answers.{unless}
use Rattle.guard_policy.specs.code.Surroundings.{IsAroundNode, answer_of}
use Rattle.guard_policy.specs.code.Views.{bytes_of, world}
use Rattle.hii_questions.specs.code.Ranges.{range_in}
use Rattle.hii_questions.specs.code.Views.{question_node, question_view}
use Rattle.hii_questions.specs.Fields.{Asked}
use Rattle.browser_commands.proofs.BlockLemmas.{choice_start, choice_found, choice_later, choice_next, choice_passed, choice_end, each_first}
use Rattle.browser_commands.proofs.blocks.first_choice.Goals as goal

pub loop-question-init : goal.loop-question-init
loop-question-init c = choice_start c.args.policy c.args.working.now.stores (range_in c.args.field) c.args.questions.now.ifr _ c.requires.browsed.browsable.accepted c.requires.together c.with_field-sharing.ensures

pub changeable_question-requires-clause-node : goal.changeable_question-requires-clause-node
changeable_question-requires-clause-node c =
    let q : Asked = question_view c.in-Some.question in
    (each_first c.args.policy (range_in c.args.field) q _ _ c.in-Some.ensures.steps c.loop-question.invariant.each).0.node

pub changeable_question-requires-clause-own : goal.changeable_question-requires-clause-own
changeable_question-requires-clause-own c =
    let q : Asked = question_view c.in-Some.question in
    (each_first c.args.policy (range_in c.args.field) q _ _ c.in-Some.ensures.steps c.loop-question.invariant.each).0.own

pub returns-in-Ok : goal.returns-in-Ok
returns-in-Ok c =
    let q = c.in-Some.question in
    let free : unless (fixed (world c.args.policy c.args.working.now.stores) (question_node q)) ≡ Ok tt = sym c.changeable_question.ensures.answer ∙ ap answer_of c.in-Ok.is in
    let around = subst (λ r. IfOk r (IsAroundNode (bytes_of c.args.policy) (question_node q))) c.in-Ok.is c.changeable_question.ensures.around in
    choice_found c.args.policy c.args.working.now.stores (range_in c.args.field) c.loop-question.first q c.in-Ok.around _ _ c.in-Some.ensures.steps c.loop-question.invariant free around

pub loop-question-preserved-then-is_none : goal.loop-question-preserved-then-is_none
loop-question-preserved-then-is_none c =
    let q = c.in-Some.question in
    let why : unless (fixed (world c.args.policy c.args.working.now.stores) (question_node q)) ≡ Err c.in-Err.denial = sym c.changeable_question.ensures.answer ∙ ap answer_of c.in-Err.is in
    choice_next c.args.policy c.args.working.now.stores (range_in c.args.field) c.loop-question.first q _ _ c.in-Err.denial (c.is_none.ensures ∙ ap not c.if-is_none.true) c.in-Some.ensures.steps c.loop-question.invariant why

pub loop-question-preserved : goal.loop-question-preserved
loop-question-preserved c =
    let q = c.in-Some.question in
    let why : unless (fixed (world c.args.policy c.args.working.now.stores) (question_node q)) ≡ Err c.in-Err.denial = sym c.changeable_question.ensures.answer ∙ ap answer_of c.in-Err.is in
    choice_later c.args.policy c.args.working.now.stores (range_in c.args.field) c.loop-question.first q _ _ c.in-Err.denial (c.is_none.ensures ∙ ap not c.if-is_none.false) c.in-Some.ensures.steps c.loop-question.invariant why

pub returns : goal.returns
returns c = choice_end c.args.policy c.args.working.now.stores (range_in c.args.field) c.loop-question.first _ c.in_default.ensures.steps.0 c.loop-question.invariant

pub loop-question-preserved-then-is_read_only : goal.loop-question-preserved-then-is_read_only
loop-question-preserved-then-is_read_only c =
    let only = ap is_read_only (sym c.op.ensures.bytes) ∙ sym c.is_read_only.ensures ∙ c.if-is_read_only.true in
    choice_passed c.args.policy c.args.working.now.stores (range_in c.args.field) c.loop-question.first c.in-Some.question _ _ (sym c.is_some.ensures ∙ c.if-is_some.true) only c.in-Some.ensures.steps c.loop-question.invariant
