use Rattle.hii_bytes.proofs.WritingLemmas.{◌⨾◌}
use Rattle.condition_text.proofs.opening.Opening.put.Goals as goal

pub returns : goal.returns
returns g c = c.put_parenthesis.ensures ⨾ c.put_unary.ensures
