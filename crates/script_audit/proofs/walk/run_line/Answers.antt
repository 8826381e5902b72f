use Rattle.std.proofs.Common.{ap, subst, sym, ◌∙◌}
use Rattle.hii_bytes.specs.Watching.{Writes}
use Rattle.hii_bytes.proofs.WritingLemmas.{writes_nil}
use Rattle.hii_commands.specs.Meaning.{command_meant}
use Rattle.session_steps.specs.Step.{Outcome}
use Rattle.session_steps.specs.declared.reply.Reply.TheVariants.{Refused}
use Rattle.browser_commands.proofs.LineLemmas.{bad_line, blank_line, line_read, some_line}
use Rattle.condition_text.proofs.WriteLemmas.{written_as}
use Rattle.script_audit.specs.Walk.{is_accepted, seen, warnings_if}
use Rattle.script_audit.proofs.WalkLemmas.{blank_warnings, command_warnings}
use Rattle.script_audit.proofs.walk.run_line.Goals as goal

pub returns-then-is_blank-clause-state : goal.returns-then-is_blank-clause-state
returns-then-is_blank-clause-state g c = sym (ap (λ (o : Outcome). o.state) (blank_line c.args.browser.now.state c.args.line.now (c.is_blank.ensures.0 c.if-is_blank.true)))

pub returns-then-is_blank-clause-reply : goal.returns-then-is_blank-clause-reply
returns-then-is_blank-clause-reply g c = sym (ap (λ (o : Outcome). o.reply) (blank_line c.args.browser.now.state c.args.line.now (c.is_blank.ensures.0 c.if-is_blank.true)))

pub returns-then-is_blank-clause-told : goal.returns-then-is_blank-clause-told
returns-then-is_blank-clause-told g c =
    subst (Writes _ _) (sym (blank_warnings c.args.telling c.args.number (seen c.args.browser.now.state) c.args.line.now (c.is_blank.ensures.0 c.if-is_blank.true))) (writes_nil _)

pub returns-in-Ok-clause-state : goal.returns-in-Ok-clause-state
returns-in-Ok-clause-state g c =
    let some = some_line c.args.line.now c.is_blank.result c.is_blank.ensures.1 c.if-is_blank.false in
    c.obey.ensures.state ∙ sym (ap (λ (o : Outcome). o.state) (line_read c.args.browser.now.state c.args.line.now _ some c.in-Ok.ensures.means))

pub returns-in-Ok-clause-reply : goal.returns-in-Ok-clause-reply
returns-in-Ok-clause-reply g c =
    let some = some_line c.args.line.now c.is_blank.result c.is_blank.ensures.1 c.if-is_blank.false in
    c.obey.ensures.reply ∙ sym (ap (λ (o : Outcome). o.reply) (line_read c.args.browser.now.state c.args.line.now _ some c.in-Ok.ensures.means))

pub returns-in-Ok-clause-told : goal.returns-in-Ok-clause-told
returns-in-Ok-clause-told g c =
    let some = some_line c.args.line.now c.is_blank.result c.is_blank.ensures.1 c.if-is_blank.false in
    let its = command_warnings c.args.telling c.args.number (seen c.obey.new.browser.state) c.args.line.now (command_meant c.in-Ok.command) some c.in-Ok.ensures.means in
    written_as c.obey.ensures.told (ap (warnings_if (is_accepted c.obey.result)) (sym its))

pub returns-in-Err-clause-state : goal.returns-in-Err-clause-state
returns-in-Err-clause-state g c =
    let some = some_line c.args.line.now c.is_blank.result c.is_blank.ensures.1 c.if-is_blank.false in
    sym (ap (λ (o : Outcome). o.state) (bad_line c.args.browser.now.state c.args.line.now _ some c.in-Err.ensures.means))

pub returns-in-Err-clause-reply : goal.returns-in-Err-clause-reply
returns-in-Err-clause-reply g c =
    let some = some_line c.args.line.now c.is_blank.result c.is_blank.ensures.1 c.if-is_blank.false in
    ap Refused c.cause.ensures ∙ sym (ap (λ (o : Outcome). o.reply) (bad_line c.args.browser.now.state c.args.line.now _ some c.in-Err.ensures.means))
