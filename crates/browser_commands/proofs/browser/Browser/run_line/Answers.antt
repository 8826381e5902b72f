use Rattle.std.proofs.Common.{◌≡◌, ap, sym, subst, ◌∙◌}
use Rattle.hii_bytes.specs.Watching.{Writes, pen_of}
use Rattle.hii_bytes.specs.declared.cause.Cause.TheVariants.{LineTooLong}
use Rattle.hii_commands.specs.Meaning.{cause_of}
use Rattle.session_steps.specs.Step.{Outcome}
use Rattle.session_steps.specs.Texts.{refused_text}
use Rattle.browser_commands.proofs.LineLemmas.{long_line, long_shown}
use Rattle.browser_commands.proofs.browser.Browser.run_line.Goals as goal

pub returns-in-Err-clause-text : goal.returns-in-Err-clause-text
returns-in-Err-clause-text g c = λ bytes h.
    let long = c.in-Err.ensures bytes h in
    let is : c.cause.result ≡ LineTooLong = c.cause.ensures ∙ ap cause_of long.1 in
    subst (Writes (pen_of g.W.Write.contents c.args.out.now) (pen_of g.W.Write.contents c.put_refusal.new.out))
    (ap refused_text is ∙ sym (ap (λ (o : Outcome). o.text) (long_line c.args.self.now.state bytes long.0))) c.put_refusal.ensures

pub returns-in-Err-clause-shown : goal.returns-in-Err-clause-shown
returns-in-Err-clause-shown g c = λ bytes h. sym (long_shown c.args.self.now bytes (c.in-Err.ensures bytes h).0)
