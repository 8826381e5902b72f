use Rattle.std.proofs.Common.{length}
use Rattle.hii_bytes.specs.Watching.{pen_of}
use Rattle.form_page.specs.Texts.{utf8}
use Rattle.form_page.specs.code.CharViews.{value_chars_left}
use Rattle.form_page.specs.code.RowViews.{value_text}
use Rattle.form_page.proofs.LineLemmas.{AddsFront}
use Rattle.form_page.proofs.value_bytes.put_value_chars.Given as goal

-- the characters before those that are left were added
abbrev pub invariant-loop-c : goal.invariant-loop-c
invariant-loop-c g l = AddsFront (pen_of g.W.Write.contents l.fn.out) (pen_of g.W.Write.contents l.out) l.fn.line l.line (utf8 (value_text l.fn.value)) (utf8 (value_chars_left l.text))

abbrev pub decreases-loop-c : goal.decreases-loop-c
decreases-loop-c g l = length (value_chars_left l.text)
