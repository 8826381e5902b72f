use Rattle.std.proofs.Common.{◌∙◌, ◌≤◌, arith}
use Rattle.form_page.specs.Texts.{columns}
use Rattle.form_page.proofs.TextLemmas.{cut_added, less_room}
use Rattle.form_page.proofs.shown.put_cut.Goals as goal

pub loop-c-preserved : goal.loop-c-preserved
loop-c-preserved g c =
    let fits : columns c.in-Some.c ≤ c.loop-c.room = omega (arith, c.if-wide-room.false, c.columns_of-wide.ensures.value) in
    let past = cut_added _ _ _ _ _ _ _ _ _ c.loop-c.room _ c.in-Some.ensures.steps fits c.loop-c.invariant.0 c.put_char.ensures in
    let room = less_room c.loop-c.room _ _ _ c.in-Some.ensures.steps fits ∙ c.loop-c.invariant.1 in
    rw c.columns_of-wide.ensures.value (past, room)
