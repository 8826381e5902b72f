use Rattle.std.proofs.Common.{ap}
use Rattle.hii_bytes.proofs.WritingLemmas.{Stands-start, past_piece}
use Rattle.form_page.specs.code.CharViews.{value_chars_left}
use Rattle.script_audit.specs.Told.{spelled, spelled_char}
use Rattle.script_audit.proofs.values.put_chars.Goals as goal

pub loop-c-init : goal.loop-c-init
loop-c-init g c = rw c.chars-text.ensures (Stands-start _ _)

pub loop-c-preserved : goal.loop-c-preserved
loop-c-preserved g c =
    let t = c.args.telling in
    past_piece _ _ _ _ _ (spelled_char t c.in-Some.c) (spelled t (value_chars_left c.next.new.self)) (ap (spelled t) c.in-Some.ensures.steps) c.loop-c.invariant c.put_spelled_char.ensures
