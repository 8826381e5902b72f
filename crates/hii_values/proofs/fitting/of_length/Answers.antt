use Rattle.std.proofs.Common.{refl}
use Rattle.hii_values.specs.code.ItemsLeft.{items_left}
use Rattle.hii_values.proofs.ListLemmas.{units_fit}
use Rattle.hii_values.proofs.fitting.of_length.Goals as goal

pub returns-in-Some : goal.returns-in-Some
returns-in-Some c =
    let fit = units_fit c.args.text.minimum c.args.text.maximum c.in-Some.count (items_left c.args.units) c.in-Some.ensures c.if-text-count.true in
    (fit.0, fit.1, refl)
