use Rattle.std.proofs.Common.{Ok, List, ℕ, sym, ap, subst, ◌∙◌}
use Rattle.std.proofs.lemmas.Result.{err_from_is_err_and}
use Rattle.hii_bytes.specs.Watching.{pen_of, Writes}
use Rattle.hii_bytes.proofs.WritingLemmas.{writes_nil, ◌⨾◌}
use Rattle.ifr_nodes.specs.code.Checked.{IsNodeOf}
use Rattle.hii_values.specs.code.Offers.{offer_of}
use Rattle.hii_questions.specs.code.Views.{question_node, question_view}
use Rattle.session_steps.specs.Step.{Outcome}
use Rattle.kept_conditions.specs.Kept.{KeptMap}
use Rattle.browser_commands.specs.code.Changing.{SetsQuestion}
use Rattle.browser_commands.specs.code.Standing.{IsQuestionIn}
use Rattle.browser_commands.proofs.Browsers.{seen}
use Rattle.browser_commands.proofs.ValueLemmas.{browsed, changes, denies, over, stands_given}
use Rattle.browser_commands.proofs.browser.Browser.set_question.Goals as goal

pub give_value-requires-clause-question : goal.give_value-requires-clause-question
give_value-requires-clause-question g c =
    let its = over c.new-policy.result c.self.inside c.args.self.now.state (seen c.self.view_is) c.new-policy.ensures.forms c.new-policy.ensures.removed in
    subst (λ (ifr : List ℕ). IsQuestionIn ifr (question_view c.args.question)) (sym its.ifr) c.requires.question

pub give_value-requires-clause-browsed : goal.give_value-requires-clause-browsed
give_value-requires-clause-browsed g c = browsed c.new-policy.result c.self.inside c.self.invariant c.new-policy.ensures.forms

pub give_value-requires-clause-same : goal.give_value-requires-clause-same
give_value-requires-clause-same g c = c.self.invariant.same

pub give_value-requires-clause-input : goal.give_value-requires-clause-input
give_value-requires-clause-input g c = c.requires.input

pub returns-in_err-give_value-clause-changes : goal.returns-in_err-give_value-clause-changes
returns-in_err-give_value-clause-changes g c =
    let its = over c.new-policy.result c.self.inside c.args.self.now.state (seen c.self.view_is) c.new-policy.ensures.forms c.new-policy.ensures.removed in
    let p = err_from_is_err_and c.from_residual.result c.from_residual.ensures.1 in
    rw (p.1, p.2) (denies c.new-policy.result c.self.inside c.args.self.now (question_view c.args.question) (offer_of c.args.input) c.give_value.new.working _ c.self.view_is its c.in_err-give_value.ensures.gives)

pub returns-in_err-give_value-clause-text : goal.returns-in_err-give_value-clause-text
returns-in_err-give_value-clause-text g c =
    let p = err_from_is_err_and c.from_residual.result c.from_residual.ensures.1 in
    rw p.1 (writes_nil _)

pub put_warnings-requires-clause-package : goal.put_warnings-requires-clause-package
put_warnings-requires-clause-package g c =
    let its = browsed c.new-policy.result c.self.inside c.self.invariant c.new-policy.ensures.forms in
    sym (ap (λ (m : KeptMap). m.ifr) c.in_ok-give_value.ensures.gives.1.0 ∙ its.its_package)

pub put_warnings-requires-clause-node : goal.put_warnings-requires-clause-node
put_warnings-requires-clause-node g c =
    let its = over c.new-policy.result c.self.inside c.args.self.now.state (seen c.self.view_is) c.new-policy.ensures.forms c.new-policy.ensures.removed in
    subst (λ (ifr : List ℕ). IsNodeOf ifr (question_node c.args.question)) (sym its.ifr) c.requires.question.node

pub returns-clause-changes : goal.returns-clause-changes
returns-clause-changes g c =
    let its = over c.new-policy.result c.self.inside c.args.self.now.state (seen c.self.view_is) c.new-policy.ensures.forms c.new-policy.ensures.removed in
    let sets = subst (λ (m : KeptMap). SetsQuestion c.new-policy.result (question_view c.args.question) (offer_of c.args.input) c.self.inside.working m (Ok c.in_ok-give_value.ensures.gives.0)) (sym c.put_warnings.ensures.same) c.in_ok-give_value.ensures.gives.1 in
    changes c.new-policy.result c.self.inside c.args.self.now (question_view c.args.question) (offer_of c.args.input) c.put_warnings.new.stores c.in_ok-give_value.ensures.gives.0 c.self.view_is c.self.invariant.kept c.requires.question its sets

-- the warnings are those over the stores with the new value
pub returns-clause-text : goal.returns-clause-text
returns-clause-text g c =
    let its = over c.new-policy.result c.self.inside c.args.self.now.state (seen c.self.view_is) c.new-policy.ensures.forms c.new-policy.ensures.removed in
    let made = changes c.new-policy.result c.self.inside c.args.self.now (question_view c.args.question) (offer_of c.args.input) c.give_value.new.working c.in_ok-give_value.ensures.gives.0 c.self.view_is c.self.invariant.kept c.requires.question its c.in_ok-give_value.ensures.gives.1 in
    let told = rw (c.new-policy.ensures.forms, c.new-policy.ensures.removed) at c.put_warnings.ensures.text in
    subst (λ (o : Outcome). Writes (pen_of g.W.Write.contents c.args.out.now) (pen_of g.W.Write.contents c.put_warnings.new.out) o.text) (sym made.0) (c.put_done.ensures ⨾ told)

pub invariant_of-self : goal.invariant_of-self
invariant_of-self g c = stands_given c.self.inside c.give_value.new.working c.give_value.new.spare c.self.invariant (ap (λ (m : KeptMap). m.ifr) c.in_err-give_value.ensures.gives.0) c.give_value.ensures.same c.give_value.ensures.shape

pub invariant_of-self-2 : goal.invariant_of-self-2
invariant_of-self-2 g c =
    let same = c.put_warnings.ensures.same in
    stands_given c.self.inside c.put_warnings.new.stores c.give_value.new.spare c.self.invariant (ap (λ (m : KeptMap). m.ifr) (same ∙ c.in_ok-give_value.ensures.gives.1.0))
    (c.give_value.ensures.same ∙ sym (ap (λ (m : KeptMap). m.stores) same)) c.give_value.ensures.shape
