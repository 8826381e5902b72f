use Rattle.std.proofs.Common.{sym}
use Rattle.form_page.proofs.ColumnLemmas.{in_three}
use Rattle.form_page.proofs.columns.three_columns.Goals as goal

pub returns : goal.returns
returns c = rw (c.last_digit.ensures, c.last_digit-2.ensures) (sym (in_three c.args.n c.requires))
