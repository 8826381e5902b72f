use Rattle.std.proofs.Common.{List, sym, ap, subst, ◌∙◌}
use Rattle.hii_bytes.specs.Watching.{pen_of, Writes}
use Rattle.ifr_opcodes.specs.Forest.{Node}
use Rattle.ifr_nodes.specs.Nodes.{nodes_of}
use Rattle.session_steps.specs.Renewed.{field_writes, pressed_if}
use Rattle.session_steps.specs.Step.{Outcome, row_of_form, form_of}
use Rattle.browser_commands.specs.code.Counting.{counted_all}
use Rattle.browser_commands.proofs.FollowLemmas.{presses_nothing}
use Rattle.browser_commands.proofs.browser.Browser.press.Goals as goal

pub returns-in-Ok-clause-renewed : goal.returns-in-Ok-clause-renewed
returns-in-Ok-clause-renewed g c =
    let s = c.args.self.now.state in
    let n = row_of_form s c.args.row (form_of s) in
    c.take_defaults.ensures.renewed
    ∙ sym (ap (λ (qs : List Node). counted_all c.args.self.now.renewed (nodes_of s.ifr) (field_writes (nodes_of s.ifr) qs)) (ap (pressed_if s n) c.take_defaults.ensures.reply ∙ c.in-Ok.ensures.1))

pub returns-in-Err-clause-renewed : goal.returns-in-Err-clause-renewed
returns-in-Err-clause-renewed g c =
    let s = c.args.self.now.state in
    let n = row_of_form s c.args.row (form_of s) in
    sym (ap (λ (qs : List Node). counted_all c.args.self.now.renewed (nodes_of s.ifr) (field_writes (nodes_of s.ifr) qs)) (ap (pressed_if s n) c.deny.ensures.reply ∙ presses_nothing s n c.in-Err.denial))

pub returns-in-Ok-clause-state : goal.returns-in-Ok-clause-state
returns-in-Ok-clause-state g c = c.take_defaults.ensures.state ∙ sym (ap (λ (o : Outcome). o.state) c.in-Ok.ensures.0)

pub returns-in-Ok-clause-text : goal.returns-in-Ok-clause-text
returns-in-Ok-clause-text g c = subst (λ (o : Outcome). Writes (pen_of g.W.Write.contents c.args.out.now) (pen_of g.W.Write.contents c.take_defaults.new.out) o.text) (sym c.in-Ok.ensures.0) c.take_defaults.ensures.text

pub returns-in-Ok-clause-reply : goal.returns-in-Ok-clause-reply
returns-in-Ok-clause-reply g c = c.take_defaults.ensures.reply ∙ sym (ap (λ (o : Outcome). o.reply) c.in-Ok.ensures.0)

pub returns-in-Err-clause-state : goal.returns-in-Err-clause-state
returns-in-Err-clause-state g c = sym (ap (λ (o : Outcome). o.state) c.in-Err.ensures)

pub returns-in-Err-clause-text : goal.returns-in-Err-clause-text
returns-in-Err-clause-text g c = subst (λ (o : Outcome). Writes (pen_of g.W.Write.contents c.args.out.now) (pen_of g.W.Write.contents c.deny.new.out) o.text) (sym c.in-Err.ensures) c.deny.ensures.text

pub returns-in-Err-clause-reply : goal.returns-in-Err-clause-reply
returns-in-Err-clause-reply g c = c.deny.ensures.reply ∙ sym (ap (λ (o : Outcome). o.reply) c.in-Err.ensures)
