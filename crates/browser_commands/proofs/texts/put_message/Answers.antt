use Rattle.std.proofs.Common.{sym, ◌∙◌}
use Rattle.hii_bytes.proofs.WritingLemmas.{◌⨾◌}
use Rattle.browser_commands.proofs.texts.put_message.Goals as goal

pub returns-then-has_text : goal.returns-then-has_text
returns-then-has_text g c = rw (sym c.has_text.ensures ∙ c.if-has_text.true) (c.put.ensures ⨾ c.put_shown.ensures)
