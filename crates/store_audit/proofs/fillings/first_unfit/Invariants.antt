use Rattle.std.proofs.Common.{◌≡◌, drop}
use Rattle.std.specs.Prelude.{find}
use Rattle.store_audit.specs.code.Fillings.{is_unfit}
use Rattle.store_audit.proofs.fillings.first_unfit.Given as goal

-- the first of the stores that are left is that of all
abbrev pub invariant-loop-filling : goal.invariant-loop-filling
invariant-loop-filling l = find is_unfit (drop l.filling-index l.fillings) ≡ find is_unfit l.fillings
