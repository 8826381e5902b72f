use Rattle.std.proofs.Common.{◌∙◌, ap, refl}
use Rattle.std.specs.Prelude.{is_err, is_ok}
use Rattle.ifr_scopes.specs.code.Lists.{statement_node}
use Rattle.guard_policy.specs.Policy.{fixed, hidden}
use Rattle.guard_policy.specs.code.Views.{bytes_of, world}
use Rattle.guard_policy.specs.declared.support.Decision.TheVariants.{Changeable, Listed}
use Rattle.guard_policy.proofs.DenialLemmas.{allowed, denied}
use Rattle.guard_policy.proofs.ToldLemmas.{decision_told}
use Rattle.form_page.proofs.decisions.standing.Goals as goal

pub returns-clause-listed : goal.returns-clause-listed
returns-clause-listed g c =
    let page = c.args.page in
    let stores = page.stores.now in
    let holding = g.C.Conditions.holding page.conditions.now in
    let tells = decision_told (bytes_of page.policy) page.policy.removed.now stores holding page.policy.accepted page.told (Listed c.args.statement) c.requires.node refl in
    ap is_ok (c.standing_by.ensures.listed stores tells) ∙ allowed (hidden (world page.policy stores) (statement_node c.args.statement))

pub returns-clause-fixed : goal.returns-clause-fixed
returns-clause-fixed g c =
    let page = c.args.page in
    let stores = page.stores.now in
    let holding = g.C.Conditions.holding page.conditions.now in
    let tells = decision_told (bytes_of page.policy) page.policy.removed.now stores holding page.policy.accepted page.told (Changeable c.args.statement) c.requires.node refl in
    ap is_err (c.standing_by.ensures.changeable stores tells) ∙ denied (fixed (world page.policy stores) (statement_node c.args.statement))
