use Rattle.std.proofs.Common.{ap, rules}
use Rattle.std.specs.List.{flat_map}
use Rattle.hii_bytes.proofs.WritingLemmas.{Stands-start, past_piece}
use Rattle.guard_policy.specs.code.WarningsLeft.{warnings_left}
use Rattle.script_audit.specs.Walk.{warning_told}
use Rattle.script_audit.specs.code.Pages.{seen_in}
use Rattle.script_audit.proofs.walk.put_left.Goals as goal

pub loop-warning-init : goal.loop-warning-init
loop-warning-init g c = record { can = search rules; ends = search rules; text = Stands-start _ _ }

pub loop-warning-preserved : goal.loop-warning-preserved
loop-warning-preserved g c =
    let line = warning_told c.args.telling c.args.number (seen_in c.args.page) in
    record {
      can = search rules;
      ends = search rules;
      text = past_piece _ _ _ _ _ (line c.in-Some.warning) (flat_map line (warnings_left c.next.new.self)) (ap (flat_map line) c.in-Some.ensures.steps) c.loop-warning.invariant.text c.put_warning.ensures;
    }
