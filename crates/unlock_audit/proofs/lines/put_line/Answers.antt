use Rattle.std.proofs.Common.{List, ℕ, ap, ◌∙◌}
use Rattle.hii_bytes.proofs.WritingLemmas.{◌⨾◌}
use Rattle.ifr_opcodes.specs.Fields.{statement_prompt}
use Rattle.ifr_opcodes.specs.Forest.{Node}
use Rattle.session_steps.specs.State.{texts}
use Rattle.unlock_audit.proofs.lines.put_line.Goals as goal

pub returns : goal.returns
returns g c =
    let s = c.args.browser.now.state in
    let prompt =
    c.text.ensures ∙ ap (λ (f : ℕ → List ℕ). f c.prompt.result) c.page-page.ensures.texts ∙ ap (texts s) (c.prompt.ensures ∙ ap statement_prompt (c.op.ensures.bytes ∙ ap (λ (n : Node). n.op) c.statement.ensures)) in
    rw (c.from.ensures, c.id.ensures, c.chars.ensures, prompt) at
    (c.put_decimal_right.ensures ⨾ c.put.ensures ⨾ c.put_verdict.ensures ⨾ c.put-2.ensures ⨾ c.put_answer.ensures ⨾ c.put-3.ensures ⨾ c.put_safe_shown.ensures ⨾ c.put-4.ensures)
