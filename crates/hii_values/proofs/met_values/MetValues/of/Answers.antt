use Rattle.std.proofs.Common.{◌==◌, take, sym}
use Rattle.std.proofs.lemmas.List.Sorted.{list_any-IsPermutation}
use Rattle.hii_values.specs.code.ItemsLeft.{items_left}
use Rattle.std.specs.List.{list_any}
use Rattle.hii_values.specs.code.MetValues.{first_from}
use Rattle.hii_values.proofs.MetLemmas.{none_met}
use Rattle.hii_values.proofs.met_values.MetValues.of.Goals as goal

pub returns-clause-sought : goal.returns-clause-sought
returns-clause-sought c v = sym (list_any-IsPermutation (λ item. item == v) (take 255 (items_left c.args.items)) c.rising_values-values.result.items c.rising_values-values.ensures.same)

pub returns-clause-none : goal.returns-clause-none
returns-clause-none c v = none_met (list_any (λ x. x == v) c.rising_values-values.result.items) 255 (first_from v c.rising_values-values.result.items)
