use Rattle.std.proofs.Common.{List, ℕ, ◌+◌, ◌++◌, codes, drop, get_or, map}
use Rattle.std.specs.List.{flat_map}
use Rattle.std.proofs.lemmas.List.{at_drop_more}
use Rattle.hii_bytes.proofs.WritingLemmas.{◌⨾◌, past_piece}
use lib.IntN as int
use Rattle.unlock_audit.specs.Told.{set_text}
use Rattle.unlock_audit.specs.declared.moves.Move.{Move}
use Rattle.unlock_audit.proofs.lines.put_commands.Goals as goal

-- commands behind another one
abbrev behind : List Move → List ℕ
behind list = flat_map (λ next. codes "; " ++ next) (map set_text list)

pub loop-each-preserved : goal.loop-each-preserved
loop-each-preserved g c =
    let others = c.in-Some.others.now in
    let i = c.loop-each.each-index in
    let none : Move = record { id = 0; value = int.pos 0 } in
    past_piece _ _ _ _ _ (codes "; " ++ set_text (get_or others i none)) (behind (drop (i + 1) others)) (at_drop_more behind others i none c.loop-each-test.true) c.loop-each.invariant
    (c.put-in-loop-each.ensures ⨾ c.put_set-in-loop-each.ensures)
