use Rattle.std.proofs.Common.{◌≡◌, ◌<◌, ◌^◌, ◌∙◌, decimal, arith}
use Rattle.form_page.proofs.ValueLemmas.{utf8_decimal}
use Rattle.form_page.proofs.line.Line.put_decimal.Goals as goal

pub returns : goal.returns
returns g c =
    let digits : c.as_bytes-digits.result.now ≡ decimal c.args.n = c.as_bytes-digits.ensures.value ∙ c.format.ensures.text in
    let small : c.args.n < 2 ^ 64 = omega (arith, c.ranges.n) in
    rw (utf8_decimal c.args.n small) (rw digits at c.put.ensures)
