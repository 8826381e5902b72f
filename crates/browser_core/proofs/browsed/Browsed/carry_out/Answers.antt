use Rattle.std.proofs.Common.{sym, ap, subst, ◌∙◌}
use Rattle.hii_bytes.specs.Watching.{Writes, pen_of}
use Rattle.hii_commands.specs.Meaning.{command_meant}
use Rattle.session_laws.specs.Replies.{reply_for}
use Rattle.session_laws.specs.laws.Session.{Stands}
use Rattle.session_laws.proofs.SessionLemmas.{step_stands}
use Rattle.session_steps.specs.Renewed as counted
use Rattle.browser_core.specs.Shown.{Shown, shown_after}
use Rattle.browser_core.proofs.BrowsedLemmas.{after_command, command_reply, command_text, shown_for}
use Rattle.browser_core.proofs.browsed.Browsed.carry_out.Goals as goal

pub invariant_of-self : goal.invariant_of-self
invariant_of-self g c = subst (λ (shown : counted.Shown). Stands shown.state) (sym c.carry_out.ensures.shown) (step_stands c.self.inside.browser.state (command_meant c.args.command) c.self.invariant)

pub returns-clause-shown : goal.returns-clause-shown
returns-clause-shown g c =
    let command = command_meant c.args.command in
    ap shown_for c.carry_out.ensures.shown ∙ after_command c.self.inside.browser command c.self.invariant ∙ ap (λ (shown : Shown). shown_after shown command) c.self.view_is

pub returns-clause-text : goal.returns-clause-text
returns-clause-text g c =
    subst (Writes (pen_of g.W.Write.contents c.args.out.now) (pen_of g.W.Write.contents c.carry_out.new.out))
    (command_text c.self.inside.browser c.args.self.now (command_meant c.args.command) c.self.invariant c.self.view_is) c.carry_out.ensures.text

pub returns-clause-reply : goal.returns-clause-reply
returns-clause-reply g c = ap reply_for c.carry_out.ensures.reply ∙ command_reply c.self.inside.browser c.args.self.now (command_meant c.args.command) c.self.invariant c.self.view_is
