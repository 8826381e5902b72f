use Rattle.std.proofs.Common.{None, rules, sym, ◌∙◌}
use Rattle.hii_values.specs.declared.denial.DenialKind.TheVariants.{GrayOutIf}
use Rattle.ifr_scopes.specs.code.AroundViews.{around_guards}
use Rattle.ifr_scopes.specs.code.Lists.{guard_node, outward_left}
use Rattle.guard_policy.specs.Policy.{denied_by, grays_out, hides, hiding}
use Rattle.guard_policy.specs.code.Views.{world_by}
use Rattle.guard_policy.proofs.CoveringLemmas.{all_come, does_not}
use Rattle.guard_policy.proofs.policy.Policy.deny_nothing.Goals as goal

pub loop-guard-init : goal.loop-guard-init
loop-guard-init g c =
    let w = world_by c.args.self.now (g.V.Verdicts.met c.args.verdicts.now) in
    let left = outward_left c.guards-guards.result in
    record {
      can = search rules;
      ends = search rules;
      hiding = all_come hiding (hides w) left (around_guards c.args.around) c.guards-guards.ensures.guards;
      graying = all_come (denied_by GrayOutIf) (grays_out w) left (around_guards c.args.around) c.guards-guards.ensures.guards;
    }

pub loop-guard-preserved : goal.loop-guard-preserved
loop-guard-preserved g c =
    let w = world_by c.args.self.now (g.V.Verdicts.met c.args.verdicts.now) in
    let left = outward_left c.loop-guard.guards in
    let rest = outward_left c.next.new.self in
    let guard = guard_node c.in-Some.guard in
    record {
      can = search rules;
      ends = search rules;
      hiding = does_not hiding (hides w) left rest guard None c.in-Some.ensures.steps (sym c.hides.ensures ∙ c.if-hides.false) ∙ c.loop-guard.invariant.hiding;
      graying = does_not (denied_by GrayOutIf) (grays_out w) left rest guard None c.in-Some.ensures.steps (sym c.grays_out.ensures ∙ c.if-grays_out.false) ∙ c.loop-guard.invariant.graying;
    }
