use Rattle.std.proofs.Common.{◌≡◌, ◌&&◌, not, Bool, true, false, refl, sym, ap, ◌∙◌}
use Rattle.std.specs.List.{list_any}
use Rattle.std.proofs.lemmas.Bool.{and_right}
use Rattle.ifr_nodes.specs.Guards.{guards}
use Rattle.ifr_scopes.specs.code.NoSubmitsLeft.{no_submit_node}
use Rattle.guard_policy.specs.Policy.{is_removed}
use Rattle.guard_policy.specs.code.Views.{world_by}
use Rattle.guard_policy.proofs.policy.Policy.denies.Goals as goal

-- where the second of two holds, the first tells
first_tells : (a b : Bool) → b ≡ true → a ≡ a && b
first_tells true b e = sym e
first_tells false b e = refl

pub returns-then-is_met : goal.returns-then-is_met
returns-then-is_met g c =
    let n = no_submit_node c.args.nosubmit in
    let w = world_by c.args.self.now (g.V.Verdicts.met c.args.verdicts.now) in
    ap not c.is_removed.ensures ∙ first_tells (not (list_any (is_removed w.removed) (guards n))) (w.met n) (sym c.if-is_met.ensures)

pub returns-else-is_met : goal.returns-else-is_met
returns-else-is_met g c =
    let n = no_submit_node c.args.nosubmit in
    let w = world_by c.args.self.now (g.V.Verdicts.met c.args.verdicts.now) in
    c.if-is_met.false ∙ sym (and_right (not (list_any (is_removed w.removed) (guards n))) (w.met n) (sym c.if-is_met.ensures))
