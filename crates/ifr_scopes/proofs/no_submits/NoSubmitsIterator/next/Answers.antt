use Rattle.std.proofs.Common.{sym, ap, subst, ◌∙◌}
use Rattle.std.specs.Prelude.{reverse}
use Rattle.std.proofs.lemmas.List.Elements.{All-head}
use Rattle.ifr_nodes.specs.code.Checked.{node_in}
use Rattle.ifr_nodes.specs.Guards.{guards}
use Rattle.ifr_index.specs.code.Tables.{IsConditionEntry, AreConditionEntries}
use Rattle.ifr_scopes.proofs.OutwardLemmas.{AreOutward, outward_at}
use Rattle.ifr_scopes.proofs.no_submits.NoSubmitsIterator.next.Goals as goal
use Rattle.ifr_scopes.proofs.no_submits.NoSubmitsIterator.next.Goals.{After-kept}

-- the guards from the number of the innermost on
guards_are : (c : After-kept) → AreOutward c.loop-first.self.ifr.now c.in-Some.first.now.guard (guards (node_in c.loop-first.self.ifr.now c.in-Some.first.now.place))
guards_are c =
    let it = c.loop-first.self in
    let first = c.in-Some.first.now in
    outward_at it.ifr.now first it.checked.spelled (All-head (IsConditionEntry it.ifr.now) first c.in-Some.kept.now (subst (AreConditionEntries it.ifr.now) c.in-Some.ensures.cases.0 it.conditions))

pub invariant_of-result : goal.invariant_of-result
invariant_of-result c =
    let it = c.loop-first.self in
    let are = guards_are (goal.at.invariant_of-result c).After-kept in
    record { checked = it.checked; table = it.table; few = are.few; numbered = are.numbered }

pub invariant_of-result-then-first-eq-NO_SUBMIT_IF : goal.invariant_of-result-then-first-eq-NO_SUBMIT_IF
invariant_of-result-then-first-eq-NO_SUBMIT_IF c =
    let are = guards_are (goal.at.invariant_of-result-then-first-eq-NO_SUBMIT_IF c).After-kept in
    record { around = ap reverse (are.guards ∙ ap guards (sym c.kept.ensures.node)) }
