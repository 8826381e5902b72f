use Rattle.std.proofs.Common.{length}
use Rattle.hii_bytes.specs.Watching.{pen_of}
use Rattle.hii_bytes.specs.code.Writing.{Stands}
use Rattle.form_page.specs.code.CharViews.{value_chars_left}
use Rattle.form_page.specs.code.RowViews.{value_text}
use Rattle.script_audit.specs.Told.{spelled}
use Rattle.script_audit.proofs.values.put_chars.Given as goal

-- the characters before those that are left were written
abbrev pub invariant-loop-c : goal.invariant-loop-c
invariant-loop-c g l = Stands (pen_of g.W.Write.contents l.fn.out) (pen_of g.W.Write.contents l.out) (spelled l.telling (value_text l.fn.value)) (spelled l.telling (value_chars_left l.text))

abbrev pub decreases-loop-c : goal.decreases-loop-c
decreases-loop-c g l = length (value_chars_left l.text)
