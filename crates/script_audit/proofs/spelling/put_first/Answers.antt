use Rattle.std.proofs.Common.{◌-◌, ap, arith, take}
use Rattle.hii_bytes.proofs.WritingLemmas.{Stands-all, Stands-start, past_piece}
use Rattle.script_audit.specs.Told.{spelled, spelled_char}
use Rattle.script_audit.proofs.SpellingLemmas.{take_more, take_none}
use Rattle.script_audit.proofs.spelling.put_first.Goals as goal

pub loop-room-init : goal.loop-room-init
loop-room-init g c = rw c.chars-left.ensures.value (Stands-start _ _)

pub loop-room-preserved : goal.loop-room-preserved
loop-room-preserved g c =
    let t = c.args.telling in
    let room = c.loop-room.room in
    let more = take_more room c.in-Some.c c.loop-room.left c.next.new.self c.in-Some.ensures.steps (omega arith) in
    past_piece _ _ _ _ _ (spelled_char t c.in-Some.c) (spelled t (take (room - 1) c.next.new.self)) (ap (spelled t) more) c.loop-room.invariant c.put_spelled_char.ensures

pub returns-in_default : goal.returns-in_default
returns-in_default g c =
    Stands-all _ _ _ _ c.loop-room.invariant (ap (spelled c.args.telling) (take_none c.loop-room.room c.loop-room.left c.in_default.ensures.steps.0))
