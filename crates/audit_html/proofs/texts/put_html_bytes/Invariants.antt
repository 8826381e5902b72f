use Rattle.std.proofs.Common.{drop}
use Rattle.hii_bytes.specs.Watching.{pen_of}
use Rattle.hii_bytes.specs.code.Writing.{Stands}
use Rattle.audit_html.specs.Html.{html_text}
use Rattle.audit_html.proofs.texts.put_html_bytes.Given as goal

-- the characters before those that are left are written
abbrev pub invariant-loop-byte : goal.invariant-loop-byte
invariant-loop-byte g l = Stands (pen_of g.W.Write.contents l.fn.out) (pen_of g.W.Write.contents l.out) (html_text l.text) (html_text (drop l.byte-index l.text))
