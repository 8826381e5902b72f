use Rattle.std.proofs.Common.{◌≡◌, ◌∙◌, decimal}
use Rattle.hii_bytes.proofs.WritingLemmas.{writes_trans}
use Rattle.hii_bytes.proofs.watched.Watched.put_decimal_right.Goals as goal

pub returns : goal.returns
returns g c =
    let digits : c.as_bytes-digits.result.now ≡ decimal c.args.n = c.as_bytes-digits.ensures.value ∙ c.format.ensures.text in
    rw (c.saturating_sub.ensures, digits) at (writes_trans c.put_spaces.ensures c.put.ensures)
