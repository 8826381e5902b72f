use Rattle.std.proofs.Common.{◌+◌, ◌==◌, refl, subst, arith}
use Rattle.guard_policy.specs.code.Views.{world}
use Rattle.guard_policy.specs.code.Worlds.{is_met_at}
use Rattle.kept_conditions.specs.code.Dependents.{VisitsSome}
use Rattle.kept_conditions.specs.declared.dependents.Dependents.{Dependents}
use Rattle.kept_conditions.proofs.VisitsSomeLemmas.{visits_none, visits_then, rule_uses_kept, taken_visits, taken_follows, dependents_follow, dependents_sound}
use Rattle.kept_conditions.proofs.dependents.visit_pending.Goals as goal

pub loop-rule-init : goal.loop-rule-init
loop-rule-init c = record { visits = visits_none (is_met_at (world c.args.now.now.policy c.args.now.now.stores.now)) c.args.dependents.now; follow = c.requires.follow; sound = λ these closed sound. sound; kept = c.requires.kept }

pub visit_dependents-count-requires-clause-room : goal.visit_dependents-count-requires-clause-room
visit_dependents-count-requires-clause-room c =
    let before = c.loop-rule.dependents in
    let taken : Dependents = record { list = before.list; positions = before.positions; round = before.round; pending = c.pop.new.self } in
    (taken_visits (is_met_at (world c.args.now.now.policy c.args.now.now.stores.now)) before taken c.in-Some.rule refl refl c.in-Some.ensures.items c.in-Some.ensures.capacity).room (c.loop-rule.invariant.visits.room c.requires.room)

pub loop-rule-preserved : goal.loop-rule-preserved
loop-rule-preserved c =
    let holding = is_met_at (world c.args.now.now.policy c.args.now.now.stores.now) in
    let start = c.args.dependents.now in
    let before = c.loop-rule.dependents in
    let taken : Dependents = record { list = before.list; positions = before.positions; round = before.round; pending = c.pop.new.self } in
    let new = c.visit_dependents-count.new.dependents in
    let rule = c.in-Some.rule in
    let rule_uses = c.args.rule_uses.now in
    let so_far = c.loop-rule.invariant in
    let its_uses = c.visit_dependents-count.ensures in
    let take_visits = taken_visits holding before taken rule refl refl c.in-Some.ensures.items c.in-Some.ensures.capacity in
    let to_taken = visits_then holding start before c.loop-rule.count so_far.visits taken 0 take_visits in
    let are_uses = rule_uses_kept holding start before c.loop-rule.count so_far.visits rule_uses c.requires.are_uses in
    record {
      visits = subst (VisitsSome holding start new) (omega arith) (visits_then holding start taken (c.loop-rule.count + 0) to_taken new c.visit_dependents-count.result its_uses.visits);
      follow = dependents_follow holding before taken rule refl refl c.in-Some.ensures.items c.in-Some.ensures.capacity new rule_uses its_uses.reaches are_uses
          (its_uses.follows (λ k. rule == k) rule_uses are_uses (taken_follows holding before taken rule refl refl c.in-Some.ensures.items c.in-Some.ensures.capacity rule_uses so_far.follow));
      sound = λ these closed sound k less.
          dependents_sound holding before taken rule refl refl c.in-Some.ensures.items c.in-Some.ensures.capacity new rule_uses these its_uses.reaches (so_far.visits.room c.requires.room) closed
          (λ j inside. so_far.sound these closed sound j (omega (arith, inside, so_far.visits.size))) k (omega (arith, less, so_far.visits.size));
      kept = its_uses.kept;
    }
