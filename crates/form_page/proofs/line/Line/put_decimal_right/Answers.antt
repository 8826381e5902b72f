use Rattle.std.proofs.Common.{◌≡◌, ◌∙◌, decimal}
use Rattle.form_page.proofs.LineLemmas.{◌▹◌}
use Rattle.form_page.proofs.line.Line.put_decimal_right.Goals as goal

pub returns : goal.returns
returns g c =
    let digits : c.as_bytes-digits.result.now ≡ decimal c.args.n = c.as_bytes-digits.ensures.value ∙ c.format.ensures.text in
    rw (c.saturating_sub.ensures, digits) at (c.put_spaces.ensures ▹ c.put.ensures)
