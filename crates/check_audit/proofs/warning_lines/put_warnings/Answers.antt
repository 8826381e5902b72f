use Rattle.std.proofs.Common.{List}
use Rattle.std.proofs.lemmas.List.{at_drop_more}
use Rattle.std.proofs.lemmas.List.Elements.{All-from_recursion, All-get_or}
use Rattle.hii_bytes.proofs.WritingLemmas.{past_piece}
use Rattle.check_audit.specs.WarningLines.{warnings_behind}
use Rattle.check_audit.specs.declared.warning.Warning.{Warning}
use Rattle.check_audit.specs.code.Detailing.{details_of}
use Rattle.check_audit.specs.code.Standing.{StandsIn}
use Rattle.check_audit.proofs.warning_lines.put_warnings.Goals as goal

pub put_unlike-requires : goal.put_unlike-requires
put_unlike-requires g c =
    All-get_or (StandsIn c.args.details.ifr.now) c.args.warnings.now c.loop-warning.warning-index _ c.loop-warning-test.true
    (All-from_recursion (StandsIn c.args.details.ifr.now) c.args.warnings.now c.requires)

pub loop-warning-preserved : goal.loop-warning-preserved
loop-warning-preserved g c =
    rw c.order.ensures (past_piece _ _ _ _ _ _ _ (at_drop_more (λ (ws : List Warning). warnings_behind c.args.telling (details_of c.args.details) c.loop-warning.last ws) c.args.warnings.now c.loop-warning.warning-index _ c.loop-warning-test.true) c.loop-warning.invariant
    c.put_unlike.ensures)
