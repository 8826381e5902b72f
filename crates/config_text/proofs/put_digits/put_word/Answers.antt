use Rattle.std.proofs.Common.{◌∙◌, subst}
use Rattle.hii_bytes.specs.Watching.{pen_of, Writes}
use Rattle.config_text.proofs.HexLemmas.{word_written}
use Rattle.config_text.proofs.put_digits.put_word.Goals as goal

pub returns : goal.returns
returns g c =
    let before = pen_of g.W.Write.contents c.args.out.now in
    let after = pen_of g.W.Write.contents c.put.new.self in
    subst (Writes before after) ((rw (c.unwrap.ensures, c.to_be_bytes.ensures) at c.encode_to_slice.ensures.written) ∙ word_written c.args.n c.ranges.n.fits) c.put.ensures
