use Rattle.std.proofs.Common.{sym, ◌∙◌}
use Rattle.hii_bytes.proofs.WritingLemmas.{◌⨾◌, writes_nil}
use Rattle.hii_languages.specs.code.Views.{chars_left, text_of}
use Rattle.question_rows.proofs.TextLemmas.{no_text, some_text}
use Rattle.question_rows.proofs.subjects.put_help.Goals as goal

pub returns-then-is_some : goal.returns-then-is_some
returns-then-is_some g c =
    let some = rw c.chars.ensures at c.next.ensures.steps in
    rw (some_text (text_of c.args.help) (chars_left c.next.new.self) c.next.result some (sym c.is_some.ensures ∙ c.if-is_some.true)) (rw c.chars-then-is_some.ensures at (c.put.ensures ⨾ c.put_isolated_shown.ensures ⨾ c.put-then-is_some.ensures))

pub returns-else-is_some : goal.returns-else-is_some
returns-else-is_some g c =
    let some = rw c.chars.ensures at c.next.ensures.steps in
    rw (no_text (text_of c.args.help) (chars_left c.next.new.self) c.next.result some (sym c.is_some.ensures ∙ c.if-is_some.false)) (writes_nil _)
