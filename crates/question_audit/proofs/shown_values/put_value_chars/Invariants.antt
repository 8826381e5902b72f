use Rattle.std.proofs.Common.{length}
use Rattle.hii_bytes.specs.Watching.{pen_of}
use Rattle.hii_bytes.specs.code.Writing.{Stands}
use Rattle.form_page.specs.code.CharViews.{value_chars_left}
use Rattle.form_page.specs.code.RowViews.{value_text}
use Rattle.question_audit.specs.code.Escaped.{escaped_text}
use Rattle.question_audit.proofs.shown_values.put_value_chars.Given as goal

-- the characters before those that are left were written
abbrev pub invariant-loop-c : goal.invariant-loop-c
invariant-loop-c g l = Stands (pen_of g.W.Write.contents l.fn.out) (pen_of g.W.Write.contents l.out) (escaped_text l.fn.how (value_text l.fn.value)) (escaped_text l.fn.how (value_chars_left l.text))

abbrev pub decreases-loop-c : goal.decreases-loop-c
decreases-loop-c g l = length (value_chars_left l.text)
