use Rattle.std.proofs.Common.{◌≡◌, sym, ap, ◌∙◌}
use Rattle.ifr_nodes.specs.Nodes.{nodes_of}
use Rattle.ifr_scopes.specs.code.AroundViews.{around_innermost}
use Rattle.guard_policy.specs.code.Views.{world_by}
use Rattle.guard_policy.proofs.SurroundingLemmas.{effects_around, grays_out_around, hides_around, no_other}
use Rattle.guard_policy.proofs.policy.Policy.effects_beside.Goals as goal
use Rattle.guard_policy.proofs.policy.Policy.effects_beside.Goals.{Else-ne}

-- the guards that were asked last
same : (g : _) (c : Else-ne g) → c.args.last.now.guard ≡ around_innermost c.args.around
same g c = no_other c.innermost.result c.args.last.now.guard (sym c.ne.ensures ∙ c.if-ne.false) ∙ c.innermost.ensures

pub returns-else-ne-clause-hides : goal.returns-else-ne-clause-hides
returns-else-ne-clause-hides g c =
    let w = world_by c.args.self.now (g.V.Verdicts.met c.args.verdicts.now) in
    hides_around w c.args.around c.args.last.now (ap nodes_of (sym c.requires.package)) (same g c) c.requires.last

pub returns-else-ne-clause-grays_out : goal.returns-else-ne-clause-grays_out
returns-else-ne-clause-grays_out g c =
    let w = world_by c.args.self.now (g.V.Verdicts.met c.args.verdicts.now) in
    grays_out_around w c.args.around c.args.last.now (ap nodes_of (sym c.requires.package)) (same g c) c.requires.last

pub returns-then-ne-clause-last : goal.returns-then-ne-clause-last
returns-then-ne-clause-last g c =
    let w = world_by c.args.self.now (g.V.Verdicts.met c.args.verdicts.now) in
    effects_around w c.args.around c.effects_anew.result (ap nodes_of (sym c.requires.package)) c.effects_anew.ensures.guard c.effects_anew.ensures.hides c.effects_anew.ensures.grays_out
