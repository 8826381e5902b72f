use Rattle.std.proofs.Common.{ℕ, List, sym, ap, ◌∙◌}
use Rattle.hii_questions.specs.code.Numbers.{first_of}
use Rattle.guard_policy.specs.code.Views.{bytes_of, world}
use Rattle.guard_policy.specs.code.Worlds.{is_met_at}
use Rattle.kept_conditions.specs.Touching.{range_of}
use Rattle.kept_conditions.specs.code.Index.{hits}
use Rattle.kept_conditions.specs.declared.index.Dependency.{Dependency}
use Rattle.kept_conditions.proofs.VisitsSomeLemmas.{AreVisited, same_ones}
use Rattle.kept_conditions.proofs.OverlapLemmas.{hits_range}
use Rattle.kept_conditions.proofs.RoundLemmas.{Begins, VisitsTouched, Ends, fresh_room, mid_ready, finished_count, finished_index, finished_values, told_by, values_by, values_for}
use Rattle.kept_conditions.proofs.invalidation.renew.Goals.{After-next_round, After-visit_overlapping-count, After-visit_pending}
use Rattle.kept_conditions.proofs.invalidation.renew.Goals as goal

begun : (c : After-next_round) → Begins (bytes_of c.args.policy) c.args.dependents.now c.next_round.new.self c.args.index.now
begun c = record { is = c.requires.index; before = c.next_round.ensures.before; same = c.next_round.ensures.same; pending = c.next_round.ensures.pending }

touching : (c : After-visit_overlapping-count) → VisitsTouched (is_met_at (world c.over-now.result.policy c.over-now.result.stores.now)) (range_of c.args.written.store c.args.written.offset c.args.written.width) c.args.index.now c.next_round.new.self c.visit_overlapping-count.new.dependents c.visit_overlapping-count.result
touching c =
    let rs = c.args.index.now.dependencies.items in
    let visited : AreVisited (is_met_at (world c.over-now.result.policy c.over-now.result.stores.now)) (hits c.first-from.result c.behind-end.result c.deref.result.now) c.next_round.new.self c.visit_overlapping-count.new.dependents c.visit_overlapping-count.result =
    record { visits = c.visit_overlapping-count.ensures.visits; reaches = c.visit_overlapping-count.ensures.reaches; follows = c.visit_overlapping-count.ensures.follows } in
    record {
      visited = same_ones visited (λ k less. sym
          (ap (λ (l : List Dependency). hits c.first-from.result c.behind-end.result l k) c.deref.ensures.value
          ∙ ap (λ (from : ℕ). hits from c.behind-end.result rs k) c.first-from.ensures.number
          ∙ ap (λ (behind : ℕ). hits (first_of c.args.written) behind rs k) c.behind-end.ensures
          ∙ hits_range rs c.args.written k c.first-from.ensures.small c.requires.index.small));
    }

ending : (c : After-visit_pending) → Ends (is_met_at (world c.over-now.result.policy c.over-now.result.stores.now)) c.args.index.now c.deref-3.result.now c.visit_overlapping-count.new.dependents c.visit_pending.new.dependents c.visit_pending.result
ending c = record { rule_uses_are = c.deref-3.ensures.value; visits = c.visit_pending.ensures.visits; idle = c.visit_pending.ensures.idle; follow = c.visit_pending.ensures.follow; sound = c.visit_pending.ensures.sound }

pub returns-clause-index : goal.returns-clause-index
returns-clause-index c = let at = goal.at.returns-clause-index c in finished_index (begun at.After-next_round) (touching at.After-visit_overlapping-count) (ending c)

pub returns-clause-values : goal.returns-clause-values
returns-clause-values c = λ old write.
    let at = goal.at.returns-clause-values c in
    finished_values (begun at.After-next_round) (touching at.After-visit_overlapping-count) (ending c) old c.args.stores.now write
    (told_by c.args.policy c.over-now.result.policy c.args.stores.now c.over-now.result.stores.now c.over-now.ensures.policy c.over-now.ensures.stores c.over-now.ensures.tells)

pub returns-clause-count : goal.returns-clause-count
returns-clause-count c = let at = goal.at.returns-clause-count c in finished_count (begun at.After-next_round) (touching at.After-visit_overlapping-count) (ending c)

-- ---- at the calls

pub visit_overlapping-count-requires-clause-room : goal.visit_overlapping-count-requires-clause-room
visit_overlapping-count-requires-clause-room c = fresh_room (begun (goal.at.visit_overlapping-count-requires-clause-room c).After-next_round)

pub visit_pending-requires : goal.visit_pending-requires
visit_pending-requires c =
    let at = goal.at.visit_pending-requires c in
    let ready = mid_ready (begun at.After-next_round) (touching at.After-visit_overlapping-count) _ c.deref-3.ensures.value in
    record { sorted = ready.sorted; are_uses = ready.are_uses; room = ready.room; follow = ready.follow; kept = c.visit_overlapping-count.ensures.kept }

pub visit_overlapping-count-requires-clause-kept : goal.visit_overlapping-count-requires-clause-kept
visit_overlapping-count-requires-clause-kept c = values_by c.args.policy c.over-now.result.policy c.args.stores.now c.over-now.result.stores.now c.over-now.ensures.policy c.over-now.ensures.stores c.args.rules.now c.requires.kept

pub returns-clause-kept : goal.returns-clause-kept
returns-clause-kept c = values_for c.args.policy c.over-now.result.policy c.args.stores.now c.over-now.result.stores.now c.over-now.ensures.policy c.over-now.ensures.stores c.visit_pending.new.rules c.visit_pending.ensures.kept
