use Rattle.hii_bytes.specs.Watching.{pen_of}
use Rattle.hii_bytes.specs.code.Writing.{Stands}
use Rattle.hii_languages.specs.code.Views.{chars_left}
use Rattle.audit_html.specs.Html.{html_text}
use Rattle.audit_html.proofs.texts.put_html_shown.Given as goal

-- the characters before those that are left are written
abbrev pub invariant-loop-c : goal.invariant-loop-c
invariant-loop-c g l = Stands (pen_of g.W.Write.contents l.fn.out) (pen_of g.W.Write.contents l.out) (html_text (chars_left l.fn.text)) (html_text (chars_left l.text))
