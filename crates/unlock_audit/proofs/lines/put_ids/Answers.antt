use Rattle.std.proofs.Common.{List, ℕ, ◌+◌, ◌++◌, codes, decimal, drop, get_or, map}
use Rattle.std.specs.List.{flat_map}
use Rattle.std.proofs.lemmas.List.{at_drop_more}
use Rattle.hii_bytes.proofs.WritingLemmas.{◌⨾◌, past_piece}
use Rattle.unlock_audit.proofs.lines.put_ids.Goals as goal

-- ids behind another one
abbrev behind : List ℕ → List ℕ
behind ids = flat_map (λ next. codes ", " ++ next) (map (λ id. decimal id) ids)

pub loop-id-preserved : goal.loop-id-preserved
loop-id-preserved g c =
    let others = c.in-Some.others.now in
    let i = c.loop-id.id-index in
    past_piece _ _ _ _ _ (codes ", " ++ decimal (get_or others i 0)) (behind (drop (i + 1) others)) (at_drop_more behind others i 0 c.loop-id-test.true) c.loop-id.invariant
    (rw c.from-in-loop-id.ensures at (c.put-in-loop-id.ensures ⨾ c.put_decimal-in-loop-id.ensures))
