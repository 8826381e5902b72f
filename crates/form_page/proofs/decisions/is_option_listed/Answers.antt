use Rattle.std.proofs.Common.{◌≡◌, ◌∙◌, ap}
use Rattle.std.specs.Prelude.{is_ok}
use Rattle.ifr_opcodes.specs.Forest.{Node}
use Rattle.ifr_scopes.specs.code.Parts.{option_node}
use Rattle.guard_policy.specs.Policy.{hidden}
use Rattle.guard_policy.specs.laws.Support.{suppressing, graying_out}
use Rattle.guard_policy.specs.code.Views.{bytes_of, world}
use Rattle.guard_policy.specs.World.{is_met}
use Rattle.guard_policy.proofs.DenialLemmas.{allowed}
use Rattle.guard_policy.proofs.SupportLemmas.{front}
use Rattle.guard_policy.proofs.ToldLemmas.{around_told}
use Rattle.form_page.proofs.decisions.is_option_listed.Goals as goal

pub returns-clause-listed : goal.returns-clause-listed
returns-clause-listed g c =
    let page = c.args.page in
    let stores = page.stores.now in
    let w = world page.policy stores in
    let n = option_node c.args.option in
    let holding = g.C.Conditions.holding page.conditions.now in
    let around = around_told (bytes_of page.policy) page.policy.removed.now stores holding page.policy.accepted page.told n c.requires.node in
    let tells = front (λ (m : Node). holding m.place ≡ is_met w m) (suppressing n) (graying_out n) around in
    c.is_ok.ensures.value ∙ ap is_ok (c.option_listed_beside_by.ensures.listed stores tells) ∙ allowed (hidden w n)
