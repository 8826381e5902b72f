use Rattle.std.proofs.Common.{◌≡◌, suc, ◌-◌, ap, ◌∙◌, arith, slice_get}
use Rattle.std.proofs.lemmas.Iterator.Consumers.{YieldsList-from_first, nth_from_yields_List}
use Rattle.hii_dumps.specs.Dumps.{nth_list, placed}
use Rattle.hii_dumps.specs.code.Lists.{entry_of}
use Rattle.hii_dumps.proofs.dump.Dump.list.Goals as goal

pub returns : goal.returns
returns c =
    let lists = c.args.self.now.lists in
    let number = c.args.number in
    let before = c.in_ok-before.ensures in
    let road = YieldsList-from_first entry_of (λ left. left) (placed 0 lists) c.lists.ensures in
    let counted : suc (number - 1) ≡ number = omega (arith, before.0) in
    nth_from_yields_List c.nth.result c.nth.new.self c.in_ok-before.before c.nth.ensures.ran road ∙ ap (slice_get (placed 0 lists)) before.1 ∙ ap (nth_list lists) counted
