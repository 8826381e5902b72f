use Rattle.sibt_strings.proofs.TextLemmas.{more_units}
use Rattle.sibt_strings.proofs.front.has_four_units.Goals as goal

pub returns-then-has_two_units : goal.returns-then-has_two_units
returns-then-has_two_units c = λ more.
    more_units c.args.bytes.now 0 4 8 (c.has_two_units.ensures c.if-has_two_units.true) (c.has_two_units-then-has_two_units.ensures more)
