use Rattle.std.proofs.Common.{Some, rules, sym, ap, ◌∙◌}
use Rattle.ifr_scopes.specs.code.AroundViews.{around_guards}
use Rattle.ifr_scopes.specs.code.Lists.{guard_node, outward_left}
use Rattle.guard_policy.specs.Policy.{hides, hiding}
use Rattle.guard_policy.specs.code.Views.{world_by}
use Rattle.guard_policy.specs.declared.denial.Denial.{Denial}
use Rattle.guard_policy.proofs.CoveringLemmas.{all_come, does, does_not, outermost}
use Rattle.guard_policy.proofs.policy.Policy.hidden.Goals as goal

pub loop-guard-init : goal.loop-guard-init
loop-guard-init g c =
    let w = world_by c.args.self.now (g.V.Verdicts.met c.args.verdicts.now) in
    record {
      can = search rules;
      ends = search rules;
      same = all_come hiding (hides w) (outward_left c.guards-guards.result) (around_guards c.args.around) c.guards-guards.ensures.guards;
    }

pub loop-guard-preserved-then-hides : goal.loop-guard-preserved-then-hides
loop-guard-preserved-then-hides g c =
    let w = world_by c.args.self.now (g.V.Verdicts.met c.args.verdicts.now) in
    let left = outward_left c.loop-guard.guards in
    let rest = outward_left c.next.new.self in
    let guard = guard_node c.in-Some.guard in
    record {
      can = search rules;
      ends = search rules;
      same = ap (λ (d : Denial). outermost hiding (hides w) rest (Some d)) c.hiding.ensures ∙ does hiding (hides w) left rest guard c.loop-guard.hidden c.in-Some.ensures.steps (sym c.hides.ensures ∙ c.if-hides.true) ∙ c.loop-guard.invariant.same;
    }

pub loop-guard-preserved : goal.loop-guard-preserved
loop-guard-preserved g c =
    let w = world_by c.args.self.now (g.V.Verdicts.met c.args.verdicts.now) in
    let left = outward_left c.loop-guard.guards in
    let rest = outward_left c.next.new.self in
    let guard = guard_node c.in-Some.guard in
    record {
      can = search rules;
      ends = search rules;
      same = does_not hiding (hides w) left rest guard c.loop-guard.hidden c.in-Some.ensures.steps (sym c.hides.ensures ∙ c.if-hides.false) ∙ c.loop-guard.invariant.same;
    }
