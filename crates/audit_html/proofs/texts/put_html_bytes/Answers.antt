use Rattle.std.proofs.Common.{◌+◌, drop, get_or}
use Rattle.std.proofs.lemmas.List.{at_drop_all, at_drop_more}
use Rattle.hii_bytes.proofs.WritingLemmas.{Stands-all, past_piece}
use Rattle.audit_html.specs.Html.{html_char, html_text}
use Rattle.audit_html.proofs.texts.put_html_bytes.Goals as goal

pub loop-byte-preserved : goal.loop-byte-preserved
loop-byte-preserved g c =
    let text = c.args.text.now in
    let i = c.loop-byte.byte-index in
    past_piece _ _ _ _ _ (html_char (get_or text i 0)) (html_text (drop (i + 1) text)) (at_drop_more html_text text i 0 c.loop-byte-test.true) c.loop-byte.invariant
    (rw c.from.ensures at c.put_html_char.ensures)

pub returns : goal.returns
returns g c = Stands-all _ _ _ _ c.loop-byte.invariant (at_drop_all html_text c.args.text.now c.loop-byte.byte-index c.loop-byte-test.false)
