use Rattle.std.proofs.Common.{ℕ, refl, subst}
use Rattle.hii_bytes.specs.Watching.{pen_of, Writes}
use Rattle.session_steps.specs.Texts.{count_text}
use Rattle.browser_commands.proofs.browser.Browser.take_defaults.Goals as goal

pub returns-clause-state : goal.returns-clause-state
returns-clause-state g c = c.take_defaults.ensures.state

pub returns-clause-text : goal.returns-clause-text
returns-clause-text g c = subst (λ (n : ℕ). Writes (pen_of g.W.Write.contents c.args.out.now) (pen_of g.W.Write.contents c.put_count.new.out) (count_text n)) c.take_defaults.ensures.count c.put_count.ensures

pub returns-clause-reply : goal.returns-clause-reply
returns-clause-reply g c = refl

pub returns-clause-renewed : goal.returns-clause-renewed
returns-clause-renewed g c = c.take_defaults.ensures.renewed
