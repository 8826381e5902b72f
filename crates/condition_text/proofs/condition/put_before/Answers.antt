use Rattle.std.proofs.Common.{List, ℕ, ◌++◌, take, ap, ap₂, ◌∙◌}
use Rattle.hii_bytes.proofs.WritingLemmas.{◌⨾◌}
use Rattle.condition_text.specs.code.Streams.{from_last}
use Rattle.condition_text.proofs.WriteLemmas.{written_as}
use Rattle.condition_text.proofs.StreamLemmas.{all_of}
use Rattle.condition_text.proofs.condition.put_before.Goals as goal

pub returns : goal.returns
returns g c =
    let count = c.front_of-front.result.opened in
    written_as (c.put_spaced.ensures ⨾ c.put_first.ensures)
    (ap₂ (λ (a b : List ℕ). a ++ b) c.front_of-front.ensures.word
    (ap (λ (l : List (List ℕ)). from_last (take count l)) c.of.ensures ∙ all_of count _ c.front_of-front.ensures.opened))
