use Rattle.std.proofs.Common.{List}
use Rattle.std.proofs.lemmas.List.{at_drop_more}
use Rattle.hii_bytes.proofs.WritingLemmas.{past_piece}
use Rattle.hii_bytes.specs.declared.cause.Fault.{Fault}
use Rattle.check_audit.specs.Lines.{others_told}
use Rattle.check_audit.proofs.refusal.put_others.Goals as goal

pub loop-fault-preserved : goal.loop-fault-preserved
loop-fault-preserved g c =
    past_piece _ _ _ _ _ _ _ (at_drop_more (λ (fs : List Fault). others_told c.args.setting.telling c.args.setting.base fs) c.args.others.now c.loop-fault.fault-index _ c.loop-fault-test.true) c.loop-fault.invariant c.put_also.ensures
