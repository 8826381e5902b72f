use Rattle.std.proofs.Common.{refl}
use Rattle.hii_values.specs.code.ChoiceViews.{choice_values}
use Rattle.hii_values.specs.code.ItemsLeft.{items_left}
use Rattle.hii_values.specs.code.TypeViews.{list_width}
use Rattle.hii_values.proofs.ListLemmas.{elements_fit}
use Rattle.hii_values.proofs.fitting.elements.Goals as goal

pub returns : goal.returns
returns c =
    let list = c.args.list in
    let fit = elements_fit (list_width list) list.most list.unique list.some (choice_values list.choices) (items_left c.args.items) c.in_ok-check_list.ensures.told c.in_ok-check_list.ensures.few in
    rw c.width.ensures.value (fit.0, fit.1, refl)
