use Rattle.std.proofs.Common.{◌≡◌, length}
use Rattle.browser_rules.specs.Strings.{characters}
use Rattle.sibt_strings.proofs.units.UnitCharsIterator.next.Given as goal

-- nothing is shown of the units before
abbrev pub invariant-loop-self : goal.invariant-loop-self
invariant-loop-self l = characters l.self.rest.now ≡ characters l.initial.self.rest.now

abbrev pub decreases-loop-self : goal.decreases-loop-self
decreases-loop-self l = length l.self.rest.now
