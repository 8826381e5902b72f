use Rattle.std.proofs.Common.{ap}
use Rattle.hii_bytes.proofs.WritingLemmas.{Stands-all, Stands-start, past_piece}
use Rattle.script_audit.specs.Told.{spelled, spelled_char}
use Rattle.script_audit.proofs.spelling.put_bytes.Goals as goal

pub loop-c-init : goal.loop-c-init
loop-c-init g c = rw c.chars-left.ensures.value (Stands-start _ _)

pub loop-c-preserved : goal.loop-c-preserved
loop-c-preserved g c =
    let t = c.args.telling in
    past_piece _ _ _ _ _ (spelled_char t c.in-Some.c) (spelled t c.next.new.self) (ap (spelled t) c.in-Some.ensures.steps) c.loop-c.invariant c.put_spelled_char.ensures

pub returns : goal.returns
returns g c = Stands-all _ _ _ _ c.loop-c.invariant (ap (spelled c.args.telling) c.in_default.ensures.steps.0)
