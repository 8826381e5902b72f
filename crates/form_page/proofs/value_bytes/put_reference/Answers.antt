use Rattle.std.proofs.Common.{codes, decimal, refl}
use Rattle.form_page.proofs.FrontLemmas.{plain_before}
use Rattle.form_page.proofs.LineLemmas.{◌▹◌}
use Rattle.form_page.proofs.value_bytes.put_reference.Goals as goal

pub returns-in-Some : goal.returns-in-Some
returns-in-Some g c = rw (c.in-Some.is, plain_before (codes "->") (decimal c.in-Some.form) refl) (rw c.from.ensures at (c.put.ensures ▹ c.put_decimal.ensures))
