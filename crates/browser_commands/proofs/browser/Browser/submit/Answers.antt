use Rattle.std.proofs.Common.{◌≡◌, Ok, Err, Result, sym, ap, subst, ◌∙◌}
use Rattle.hii_bytes.specs.Watching.{pen_of, Writes}
use Rattle.guard_policy.specs.Policy.{unsubmitted}
use Rattle.guard_policy.specs.code.Answers.{unless}
use Rattle.guard_policy.specs.declared.denial.Denial.{Denial}
use Rattle.session_steps.specs.Renewed.{Shown}
use Rattle.session_steps.specs.State.{State, world_of}
use Rattle.session_steps.specs.Step.{Outcome, commit, denied, submitted}
use Rattle.browser_commands.proofs.Browsers.{seen}
use Rattle.browser_commands.proofs.SetLemmas.{submits, submits_nothing}
use Rattle.browser_commands.proofs.browser.Browser.submit.Goals as goal

-- What is asked of the same state is decided alike.
allowed : (s now : State) (answer : Result Unit Denial) → now ≡ s → answer ≡ unless (unsubmitted (world_of s)) → answer ≡ Ok tt → commit now ≡ submitted s
allowed s now answer same told is = ap commit same ∙ sym (submits s (sym told ∙ is))

refused : (s now : State) (answer : Result Unit Denial) (denial : Denial) → now ≡ s → answer ≡ unless (unsubmitted (world_of s)) → answer ≡ Err denial
    → denied now denial ≡ submitted s
refused s now answer denial same told is = ap (λ (t : State). denied t denial) same ∙ sym (submits_nothing s denial (sym told ∙ is))

pub returns-in-Ok-clause-state : goal.returns-in-Ok-clause-state
returns-in-Ok-clause-state g c =
    let is = allowed c.args.self.now.state c.ask_submission.new.self.state c.ask_submission.result (seen c.ask_submission.ensures.same) c.ask_submission.ensures.answer c.in-Ok.is in
    c.commit.ensures.state ∙ ap (λ (o : Outcome). o.state) is

pub returns-in-Ok-clause-text : goal.returns-in-Ok-clause-text
returns-in-Ok-clause-text g c =
    let is = allowed c.args.self.now.state c.ask_submission.new.self.state c.ask_submission.result (seen c.ask_submission.ensures.same) c.ask_submission.ensures.answer c.in-Ok.is in
    subst (λ (o : Outcome). Writes (pen_of g.W.Write.contents c.args.out.now) (pen_of g.W.Write.contents c.commit.new.out) o.text) is c.commit.ensures.text

pub returns-in-Ok-clause-reply : goal.returns-in-Ok-clause-reply
returns-in-Ok-clause-reply g c =
    let is = allowed c.args.self.now.state c.ask_submission.new.self.state c.ask_submission.result (seen c.ask_submission.ensures.same) c.ask_submission.ensures.answer c.in-Ok.is in
    ap (λ (o : Outcome). o.reply) is

pub returns-in-Ok-clause-renewed : goal.returns-in-Ok-clause-renewed
returns-in-Ok-clause-renewed g c = c.commit.ensures.renewed ∙ ap (λ (t : Shown). t.renewed) c.ask_submission.ensures.same

pub returns-in-Err-clause-state : goal.returns-in-Err-clause-state
returns-in-Err-clause-state g c =
    let is = refused c.args.self.now.state c.ask_submission.new.self.state c.ask_submission.result c.in-Err.denial (seen c.ask_submission.ensures.same) c.ask_submission.ensures.answer c.in-Err.is in
    ap (λ (o : Outcome). o.state) is

pub returns-in-Err-clause-text : goal.returns-in-Err-clause-text
returns-in-Err-clause-text g c =
    let is = refused c.args.self.now.state c.ask_submission.new.self.state c.ask_submission.result c.in-Err.denial (seen c.ask_submission.ensures.same) c.ask_submission.ensures.answer c.in-Err.is in
    subst (λ (o : Outcome). Writes (pen_of g.W.Write.contents c.args.out.now) (pen_of g.W.Write.contents c.deny.new.out) o.text) is c.deny.ensures.text

pub returns-in-Err-clause-reply : goal.returns-in-Err-clause-reply
returns-in-Err-clause-reply g c =
    let is = refused c.args.self.now.state c.ask_submission.new.self.state c.ask_submission.result c.in-Err.denial (seen c.ask_submission.ensures.same) c.ask_submission.ensures.answer c.in-Err.is in
    c.deny.ensures.reply ∙ ap (λ (o : Outcome). o.reply) is

pub returns-in-Err-clause-renewed : goal.returns-in-Err-clause-renewed
returns-in-Err-clause-renewed g c = ap (λ (t : Shown). t.renewed) c.ask_submission.ensures.same
