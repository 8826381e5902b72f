use Rattle.guard_policy.specs.code.Views.{bytes_of, world}
use Rattle.guard_policy.specs.code.Worlds.{is_met_at}
use Rattle.kept_conditions.specs.Touching.{difference}
use Rattle.kept_conditions.proofs.DifferenceLemmas.{differing}
use Rattle.kept_conditions.proofs.RoundLemmas.{Begins, VisitsTouched, Ends, fresh_room, mid_ready, finished_count, finished_index, finished_values, told_by, values_by, values_for}
use Rattle.kept_conditions.proofs.invalidation.renew_within.Given.{Over}
use Rattle.kept_conditions.proofs.invalidation.renew_within.Goals.{After-next_round, After-visit_ranges-count, After-visit_pending}
use Rattle.kept_conditions.proofs.invalidation.renew_within.Goals as goal

begun : (g : Over) (c : After-next_round g) → Begins (bytes_of c.args.policy) c.args.dependents.now c.next_round.new.self c.args.index.now
begun g c = record { is = c.requires.index; before = c.next_round.ensures.before; same = c.next_round.ensures.same; pending = c.next_round.ensures.pending }

touching : (g : Over) (c : After-visit_ranges-count g) → VisitsTouched (is_met_at (world c.over-now.result.policy c.over-now.result.stores.now)) (difference c.args.old.now c.args.new.now) c.args.index.now c.next_round.new.self c.visit_ranges-count.new.dependents c.visit_ranges-count.result
touching g c = record { visited = record { visits = c.visit_ranges-count.ensures.visits; reaches = c.visit_ranges-count.ensures.reaches; follows = c.visit_ranges-count.ensures.follows } }

ending : (g : Over) (c : After-visit_pending g) → Ends (is_met_at (world c.over-now.result.policy c.over-now.result.stores.now)) c.args.index.now c.deref.result.now c.visit_ranges-count.new.dependents c.visit_pending.new.dependents c.visit_pending.result
ending g c = record { rule_uses_are = c.deref.ensures.value; visits = c.visit_pending.ensures.visits; idle = c.visit_pending.ensures.idle; follow = c.visit_pending.ensures.follow; sound = c.visit_pending.ensures.sound }

pub returns-clause-index : goal.returns-clause-index
returns-clause-index g c = let at = goal.at.returns-clause-index g c in finished_index (begun g at.After-next_round) (touching g at.After-visit_ranges-count) (ending g c)

pub returns-clause-values : goal.returns-clause-values
returns-clause-values g c =
    let at = goal.at.returns-clause-values g c in
    finished_values (begun g at.After-next_round) (touching g at.After-visit_ranges-count) (ending g c) c.args.old.now c.args.new.now (differing c.args.old.now c.args.new.now c.requires.shape)
    (told_by c.args.policy c.over-now.result.policy c.args.new.now c.over-now.result.stores.now c.over-now.ensures.policy c.over-now.ensures.stores c.over-now.ensures.tells)

pub returns-clause-count : goal.returns-clause-count
returns-clause-count g c = let at = goal.at.returns-clause-count g c in finished_count (begun g at.After-next_round) (touching g at.After-visit_ranges-count) (ending g c)

-- ---- at the calls

pub visit_ranges-count-requires-clause-room : goal.visit_ranges-count-requires-clause-room
visit_ranges-count-requires-clause-room g c = fresh_room (begun g (goal.at.visit_ranges-count-requires-clause-room g c).After-next_round)

pub visit_pending-requires : goal.visit_pending-requires
visit_pending-requires g c =
    let at = goal.at.visit_pending-requires g c in
    let ready = mid_ready (begun g at.After-next_round) (touching g at.After-visit_ranges-count) _ c.deref.ensures.value in
    record { sorted = ready.sorted; are_uses = ready.are_uses; room = ready.room; follow = ready.follow; kept = c.visit_ranges-count.ensures.kept }

pub visit_ranges-count-requires-clause-kept : goal.visit_ranges-count-requires-clause-kept
visit_ranges-count-requires-clause-kept g c = values_by c.args.policy c.over-now.result.policy c.args.new.now c.over-now.result.stores.now c.over-now.ensures.policy c.over-now.ensures.stores c.args.rules.now c.requires.kept

pub returns-clause-kept : goal.returns-clause-kept
returns-clause-kept g c = values_for c.args.policy c.over-now.result.policy c.args.new.now c.over-now.result.stores.now c.over-now.ensures.policy c.over-now.ensures.stores c.visit_pending.new.rules c.visit_pending.ensures.kept
