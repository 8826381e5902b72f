use Rattle.std.proofs.Common.{ℕ, ◌-◌, ◌/◌, List, ◌++◌, take, ap, sym, ◌∙◌, arith}
use Rattle.hii_bytes.proofs.WritingLemmas.{◌⨾◌}
use Rattle.condition_text.specs.code.OpeningsLeft.{openings_left}
use Rattle.condition_text.specs.code.Streams.{from_last}
use Rattle.condition_text.proofs.WriteLemmas.{written_as}
use Rattle.condition_text.proofs.OpeningLemmas.{halved}
use Rattle.condition_text.proofs.openings.Openings.+put_first.Goals as goal

pub returns : goal.returns
returns g n c =
    let half : ℕ = c.args.count / 2 in
    written_as (c.put_first.ensures ⨾ c.put_first-2.ensures)
    (ap (λ (l : List (List ℕ)). from_last (take (c.args.count - half) l) ++ from_last (take half (openings_left c.args.self))) c.behind.ensures
    ∙ sym (halved (openings_left c.args.self) c.args.count half (omega arith)))
