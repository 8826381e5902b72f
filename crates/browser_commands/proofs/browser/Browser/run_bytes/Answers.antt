use Rattle.std.proofs.Common.{ap, sym, subst, ◌∙◌}
use Rattle.hii_bytes.specs.Watching.{Writes, pen_of}
use Rattle.hii_bytes.proofs.WritingLemmas.{writes_nil}
use Rattle.session_steps.specs.Step.{Outcome}
use Rattle.session_steps.specs.Texts.{refused_text}
use Rattle.browser_commands.proofs.LineLemmas.{blank_line, blank_shown, some_line, line_read, line_shown, bad_line, bad_shown}
use Rattle.browser_commands.proofs.browser.Browser.run_bytes.Goals as goal

pub returns-then-is_blank-clause-shown : goal.returns-then-is_blank-clause-shown
returns-then-is_blank-clause-shown g c = sym (blank_shown c.args.self.now c.args.line.now (c.is_blank.ensures.0 c.if-is_blank.true))

pub returns-then-is_blank-clause-text : goal.returns-then-is_blank-clause-text
returns-then-is_blank-clause-text g c =
    subst (Writes (pen_of g.W.Write.contents c.args.out.now) (pen_of g.W.Write.contents c.args.out.now))
    (sym (ap (λ (o : Outcome). o.text) (blank_line c.args.self.now.state c.args.line.now (c.is_blank.ensures.0 c.if-is_blank.true)))) (writes_nil _)

pub returns-in-Ok-clause-shown : goal.returns-in-Ok-clause-shown
returns-in-Ok-clause-shown g c =
    let some = some_line c.args.line.now c.is_blank.result c.is_blank.ensures.1 c.if-is_blank.false in
    c.carry_out.ensures.shown ∙ sym (line_shown c.args.self.now c.args.line.now _ some c.in-Ok.ensures.means)

pub returns-in-Ok-clause-text : goal.returns-in-Ok-clause-text
returns-in-Ok-clause-text g c =
    let some = some_line c.args.line.now c.is_blank.result c.is_blank.ensures.1 c.if-is_blank.false in
    subst (Writes (pen_of g.W.Write.contents c.args.out.now) (pen_of g.W.Write.contents c.carry_out.new.out))
    (sym (ap (λ (o : Outcome). o.text) (line_read c.args.self.now.state c.args.line.now _ some c.in-Ok.ensures.means))) c.carry_out.ensures.text

pub returns-in-Err-clause-shown : goal.returns-in-Err-clause-shown
returns-in-Err-clause-shown g c =
    let some = some_line c.args.line.now c.is_blank.result c.is_blank.ensures.1 c.if-is_blank.false in
    sym (bad_shown c.args.self.now c.args.line.now _ some c.in-Err.ensures.means)

pub returns-in-Err-clause-text : goal.returns-in-Err-clause-text
returns-in-Err-clause-text g c =
    let some = some_line c.args.line.now c.is_blank.result c.is_blank.ensures.1 c.if-is_blank.false in
    subst (Writes (pen_of g.W.Write.contents c.args.out.now) (pen_of g.W.Write.contents c.put_refusal.new.out))
    (ap refused_text c.cause.ensures ∙ sym (ap (λ (o : Outcome). o.text) (bad_line c.args.self.now.state c.args.line.now _ some c.in-Err.ensures.means)))
    c.put_refusal.ensures
