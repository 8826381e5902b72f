use Rattle.std.proofs.Common.{◌≡◌, ◌-◌, length}
use Rattle.hii_bytes.specs.Watching.{pen_of}
use Rattle.form_page.specs.Texts.{utf8, cut_to, width}
use Rattle.hii_languages.specs.code.Views.{chars_left}
use Rattle.form_page.proofs.LineLemmas.{AddsFront}
use Rattle.form_page.proofs.shown.put_cut.Given as goal

-- the characters before those that are left were added, and the others have the columns that are left
abbrev pub invariant-loop-c : goal.invariant-loop-c
invariant-loop-c g l =
    AddsFront (pen_of g.W.Write.contents l.fn.out) (pen_of g.W.Write.contents l.out) l.fn.line l.line (utf8 (cut_to l.fn.room (chars_left l.fn.text))) (utf8 (cut_to l.room (chars_left l.text)))
    × (l.room - width (cut_to l.room (chars_left l.text)) ≡ l.fn.room - width (cut_to l.fn.room (chars_left l.fn.text)))

abbrev pub decreases-loop-c : goal.decreases-loop-c
decreases-loop-c g l = length (chars_left l.text)
