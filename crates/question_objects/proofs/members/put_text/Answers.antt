use Rattle.std.proofs.Common.{sym, ◌∙◌}
use Rattle.hii_bytes.specs.Watching.{pen_of}
use Rattle.hii_bytes.proofs.WritingLemmas.{writes_nil}
use Rattle.hii_languages.specs.code.Views.{chars_left, text_of}
use Rattle.condition_text.proofs.WriteLemmas.{written_as}
use Rattle.question_objects.proofs.MemberLemmas.{told_text, untold_text}
use Rattle.question_objects.proofs.members.put_text.Goals as goal

pub returns-then-is_some : goal.returns-then-is_some
returns-then-is_some g c =
    let some = rw c.chars.ensures at c.next.ensures.steps in
    written_as (rw c.chars-then-is_some.ensures at c.put_shown.ensures)
    (told_text c.args.key.now (text_of c.args.text) (chars_left c.next.new.self) c.next.result some (sym c.is_some.ensures ∙ c.if-is_some.true))

pub returns-else-is_some : goal.returns-else-is_some
returns-else-is_some g c =
    let some = rw c.chars.ensures at c.next.ensures.steps in
    written_as (writes_nil (pen_of g.W.Write.contents c.args.out.now))
    (untold_text c.args.key.now (text_of c.args.text) (chars_left c.next.new.self) c.next.result some (sym c.is_some.ensures ∙ c.if-is_some.false))
