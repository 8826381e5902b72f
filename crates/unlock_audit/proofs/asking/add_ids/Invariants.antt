use Rattle.std.proofs.Common.{◌≡◌, length}
use Rattle.unlock_audit.specs.Asking.{with_ids}
use Rattle.unlock_audit.proofs.asking.add_ids.Given as goal

-- those that are left are left to be added
abbrev pub invariant-loop-id : goal.invariant-loop-id
invariant-loop-id l = with_ids l.ids.items l.left ≡ with_ids l.fn.ids.items l.found.keys

abbrev pub decreases-loop-id : goal.decreases-loop-id
decreases-loop-id l = length l.left
