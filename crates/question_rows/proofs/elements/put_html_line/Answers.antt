use Rattle.std.proofs.Common.{◌+◌, drop, get_or}
use Rattle.std.proofs.lemmas.List.{at_drop_all, at_drop_more}
use Rattle.hii_bytes.proofs.WritingLemmas.{Stands-all, past_piece}
use Rattle.question_rows.specs.Elements.{html_byte, html_line}
use Rattle.question_rows.proofs.elements.put_html_line.Goals as goal

pub loop-byte-preserved : goal.loop-byte-preserved
loop-byte-preserved g c =
    let line = c.args.line.now in
    let i = c.loop-byte.byte-index in
    past_piece _ _ _ _ _ (html_byte (get_or line i 0)) (html_line (drop (i + 1) line)) (at_drop_more html_line line i 0 c.loop-byte-test.true) c.loop-byte.invariant c.put_html_byte.ensures

pub returns : goal.returns
returns g c = Stands-all _ _ _ _ c.loop-byte.invariant (at_drop_all html_line c.args.line.now c.loop-byte.byte-index c.loop-byte-test.false)
