use Rattle.std.proofs.Common.{◌≡◌, drop}
use Rattle.condition_text.specs.code.OpeningsLeft.{openings_left}
use Rattle.condition_text.proofs.openings.Openings.behind.Given as goal

abbrev pub invariant-loop : goal.invariant-loop
invariant-loop l = openings_left l.left ≡ drop l.counter (openings_left l.fn.self)
