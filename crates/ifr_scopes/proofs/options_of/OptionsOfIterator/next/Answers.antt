use Rattle.std.proofs.Common.{subst}
use Rattle.std.proofs.lemmas.List.Elements.{All-tail}
use Rattle.ifr_index.specs.code.Tables.{IsEntry, AreEntries}
use Rattle.ifr_scopes.proofs.options_of.OptionsOfIterator.next.Goals as goal

pub invariant_of-self : goal.invariant_of-self
invariant_of-self c =
    let it = c.args.self.now in
    let first = c.in_ok-first.first.now in
    record { checked = it.checked; entries = All-tail (λ one. IsEntry it.ifr.now one) first c.in_ok-first.kept.now (subst (AreEntries it.ifr.now) c.in_ok-first.ensures.cases.0 it.entries) }
