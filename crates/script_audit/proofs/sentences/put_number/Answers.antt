use Rattle.std.proofs.Common.{sym, ◌∙◌}
use Rattle.hii_bytes.proofs.WritingLemmas.{◌⨾◌}
use Rattle.script_audit.proofs.sentences.put_number.Goals as goal

pub returns-in-Some : goal.returns-in-Some
returns-in-Some g c = rw (sym c.hexadecimal_in.ensures ∙ c.in-Some.is) (c.put.ensures ⨾ c.put_decimal.ensures)
