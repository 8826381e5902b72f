use Rattle.std.proofs.Common.{subst}
use Rattle.std.proofs.lemmas.List.Elements.{All-tail}
use Rattle.ifr_index.specs.code.Tables.{IsConditionEntry, AreConditionEntries}
use Rattle.ifr_scopes.proofs.conditions_in.ConditionsInIterator.next.Goals as goal

pub invariant_of-self : goal.invariant_of-self
invariant_of-self c =
    let it = c.args.self.now in
    let first = c.in_ok-first.first.now in
    record { checked = it.checked; conditions = All-tail (λ one. IsConditionEntry it.ifr.now one) first c.in_ok-first.kept.now (subst (AreConditionEntries it.ifr.now) c.in_ok-first.ensures.cases.0 it.conditions) }
