use Rattle.std.proofs.Common.{◌∙◌, ap, refl}
use Rattle.std.specs.Prelude.{is_none, is_ok}
use Rattle.ifr_scopes.specs.code.Lists.{statement_node}
use Rattle.guard_policy.specs.Policy.{fixed}
use Rattle.guard_policy.specs.code.Views.{world}
use Rattle.guard_policy.specs.declared.policy.Policy.{Policy}
use Rattle.guard_policy.specs.declared.support.Decision.TheVariants.{Changeable}
use Rattle.guard_policy.proofs.DenialLemmas.{allowed}
use Rattle.question_audit.proofs.KeptLemmas.{kept_told}
use Rattle.question_audit.proofs.reach.is_open.Goals as goal

pub returns : goal.returns
returns g c =
    let page = c.args.page in
    let stores = page.stores.now in
    let n = statement_node c.args.statement in
    let tells = kept_told page.policy c.policy.result stores (g.C.Conditions.holding c.conditions.result.now) (Changeable c.args.statement) c.policy.ensures c.conditions.ensures c.requires refl in
    c.is_ok.ensures.value ∙ ap is_ok (c.changeable_by.ensures stores tells) ∙ allowed (fixed (world c.policy.result stores) n) ∙ ap (λ (p : Policy). is_none (fixed (world p stores) n)) c.policy.ensures
