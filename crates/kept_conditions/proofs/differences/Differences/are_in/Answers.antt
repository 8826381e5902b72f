use Rattle.std.proofs.Common.{ℕ, ap, sym, ◌∙◌}
use Rattle.kept_conditions.specs.Touching.{difference, has_one}
use Rattle.kept_conditions.proofs.FirstLemmas.{none_from, one_from}
use Rattle.kept_conditions.proofs.differences.Differences.are_in.Goals as goal

pub returns-in-Some-clause-differ : goal.returns-in-Some-clause-differ
returns-in-Some-clause-differ c =
    let bytes = difference c.args.self.now.one.now c.args.self.now.other.now in
    let f = c.args.field in
    one_from bytes f.store c.from-offset.result f.width c.in-Some.next c.in-Some.ensures.first
    ∙ ap (λ (n : ℕ). has_one bytes f.store n f.width) c.from-offset.ensures

pub returns-in-None-clause-differ : goal.returns-in-None-clause-differ
returns-in-None-clause-differ c =
    let bytes = difference c.args.self.now.one.now c.args.self.now.other.now in
    let f = c.args.field in
    sym (none_from bytes f.store c.from-offset.result f.width c.in-None.ensures.first)
    ∙ ap (λ (n : ℕ). has_one bytes f.store n f.width) c.from-offset.ensures
