use Rattle.std.proofs.Common.{sym, ◌∙◌}
use Rattle.hii_bytes.proofs.WritingLemmas.{◌⨾◌}
use Rattle.hii_languages.specs.code.Views.{chars_left, text_of}
use Rattle.condition_text.proofs.WriteLemmas.{written_as}
use Rattle.question_audit.proofs.FactLemmas.{told_help}
use Rattle.question_audit.proofs.opcode_facts.put_help.Goals as goal

pub returns-then-is_some : goal.returns-then-is_some
returns-then-is_some g c =
    let some = rw c.chars.ensures at c.next.ensures.steps in
    written_as (rw c.chars-then-is_some.ensures at (c.put_column.ensures ⨾ c.put_safe_shown.ensures ⨾ c.put.ensures))
    (told_help (text_of c.args.help) (chars_left c.next.new.self) c.next.result some (sym c.is_some.ensures ∙ c.if-is_some.true))
