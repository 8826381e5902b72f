use Rattle.std.proofs.Common.{◌<◌, ◌^◌, sym}
use Rattle.form_page.proofs.ColumnLemmas.{in_five}
use Rattle.form_page.proofs.columns.five_columns.Goals as goal

pub returns : goal.returns
returns c =
    let small : c.args.n < 2 ^ 16 = c.ranges.n.fits in
    rw (c.last_digit.ensures, c.last_digit-2.ensures, c.last_digit-3.ensures, c.last_digit-4.ensures, c.from-n.ensures) (sym (in_five c.args.n small))
