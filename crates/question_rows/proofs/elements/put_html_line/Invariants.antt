use Rattle.std.proofs.Common.{drop}
use Rattle.hii_bytes.specs.Watching.{pen_of}
use Rattle.hii_bytes.specs.code.Writing.{Stands}
use Rattle.question_rows.specs.Elements.{html_line}
use Rattle.question_rows.proofs.elements.put_html_line.Given as goal

-- the bytes before those that are left are written
abbrev pub invariant-loop-byte : goal.invariant-loop-byte
invariant-loop-byte g l = Stands (pen_of g.W.Write.contents l.fn.out) (pen_of g.W.Write.contents l.out) (html_line l.line) (html_line (drop l.byte-index l.line))
