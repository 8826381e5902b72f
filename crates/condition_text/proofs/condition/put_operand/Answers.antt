use Rattle.std.proofs.Common.{sym, ◌∙◌}
use Rattle.hii_bytes.proofs.WritingLemmas.{◌⨾◌}
use Rattle.condition_text.proofs.WriteLemmas.{written_as}
use Rattle.condition_text.proofs.StreamLemmas.{inner_operand}
use Rattle.condition_text.proofs.condition.put_operand.Goals as goal

pub returns : goal.returns
returns g c =
    written_as (c.put.ensures ⨾ c.put_leaf-2.ensures ⨾ c.put-2.ensures)
    (inner_operand _ _ (sym c.if-is_short.false ∙ c.is_short.ensures) (sym c.if-is_last.false ∙ c.is_last.ensures))
