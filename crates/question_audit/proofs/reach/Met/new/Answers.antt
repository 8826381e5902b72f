use Rattle.question_audit.proofs.MetLemmas.{no_ids}
use Rattle.question_audit.proofs.reach.Met.new.Goals as goal

pub invariant_of-result : goal.invariant_of-result
invariant_of-result c = record { known = rw c.new-2.ensures.items (no_ids c.in_ok-new.field-0 c.in_ok-new.ensures) }
