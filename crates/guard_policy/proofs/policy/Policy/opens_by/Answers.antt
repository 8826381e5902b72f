use Rattle.std.proofs.Common.{sym}
use Rattle.ifr_scopes.specs.code.Lists.{form_node}
use Rattle.guard_policy.specs.declared.support.Decision.TheVariants.{Opens}
use Rattle.guard_policy.proofs.IndexedLemmas.{of_form}
use Rattle.guard_policy.proofs.KeptLemmas.{decided}
use Rattle.guard_policy.proofs.policy.Policy.opens_by.Goals as goal

pub returns : goal.returns
returns g c =
    let n = form_node c.args.form in
    decided c.args.self.now (g.C.Conditions.holding c.args.conditions.now) (Opens c.args.form) c.seen_at.result
    (c.seen_at.ensures n c.requires (of_form n c.args.form.form) (sym c.place.ensures))
