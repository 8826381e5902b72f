use Rattle.std.proofs.Common.{◌∙◌, ap, refl}
use Rattle.std.specs.Prelude.{is_ok}
use Rattle.ifr_scopes.specs.code.Lists.{statement_node}
use Rattle.guard_policy.specs.Policy.{hidden}
use Rattle.guard_policy.specs.code.Views.{bytes_of, world}
use Rattle.guard_policy.specs.declared.support.Decision.TheVariants.{Listed}
use Rattle.guard_policy.proofs.DenialLemmas.{allowed}
use Rattle.guard_policy.proofs.ToldLemmas.{decision_told}
use Rattle.form_page.proofs.decisions.is_listed.Goals as goal

pub returns-clause-listed : goal.returns-clause-listed
returns-clause-listed g c =
    let page = c.args.page in
    let stores = page.stores.now in
    let holding = g.C.Conditions.holding page.conditions.now in
    let tells = decision_told (bytes_of page.policy) page.policy.removed.now stores holding page.policy.accepted page.told (Listed c.args.statement) c.requires.node refl in
    c.is_ok.ensures.value ∙ ap is_ok (c.listed_beside_by.ensures.listed stores tells) ∙ allowed (hidden (world page.policy stores) (statement_node c.args.statement))
