use Rattle.std.proofs.Common.{◌≡◌, ◌++◌, length}
use Rattle.script_audit.specs.Script.{without_returns}
use Rattle.script_audit.proofs.script.without_returns.Given as goal

-- the bytes so far, and those that are left
abbrev pub invariant-loop-rest : goal.invariant-loop-rest
invariant-loop-rest l = l.text.items ++ without_returns l.rest ≡ without_returns l.script

abbrev pub decreases-loop-rest : goal.decreases-loop-rest
decreases-loop-rest l = length l.rest
