use Rattle.std.proofs.Common.{List, ℕ, ◌++◌, ap, sym, ◌∙◌}
use Rattle.std.specs.Prelude.{codes}
use Rattle.hii_bytes.proofs.WritingLemmas.{◌⨾◌}
use Rattle.condition_text.specs.code.Openings.{spaced_text}
use Rattle.condition_text.proofs.WriteLemmas.{written_as}
use Rattle.condition_text.proofs.condition.put_spaced.Goals as goal

pub returns-in-Some : goal.returns-in-Some
returns-in-Some g c =
    written_as (c.put.ensures ⨾ c.put-in-Some.ensures ⨾ c.put-in-Some-2.ensures)
    (ap (λ (w : List ℕ). codes " " ++ w ++ codes " ") c.binary_word.ensures ∙ sym (ap spaced_text c.in-Some.is))
