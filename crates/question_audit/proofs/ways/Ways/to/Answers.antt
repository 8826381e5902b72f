use Rattle.std.proofs.Common.{◌≡◌, Option, Some, None, refl, sym, ap, ◌∙◌}
use Rattle.hii_bytes.specs.code.NumberSets.{has_number}
use Rattle.ifr_opcodes.specs.Fields.{form_id}
use Rattle.ifr_scopes.specs.code.Lists.{form_node}
use Rattle.guard_policy.specs.Policy.{hidden}
use Rattle.guard_policy.specs.code.Answers.{unless}
use Rattle.guard_policy.specs.code.Views.{world}
use Rattle.guard_policy.specs.declared.denial.Denial.{Denial}
use Rattle.guard_policy.specs.declared.policy.Policy.{Policy}
use Rattle.guard_policy.specs.declared.support.Decision.TheVariants.{Opens}
use Rattle.form_page.specs.code.PageViews.{world_of}
use Rattle.question_audit.specs.Reach.{closing, is_named, reach_by}
use Rattle.question_audit.proofs.ClosingLemmas.{same_way}
use Rattle.question_audit.proofs.KeptLemmas.{kept_told}
use Rattle.question_audit.proofs.LineLemmas.{none_forbids, one_forbids}
use Rattle.question_audit.proofs.ways.Ways.to.Goals as goal
use Rattle.question_audit.proofs.ways.Ways.to.Goals.{After-opens_by}

-- whether it is hidden
seen : (g : _) (c : After-opens_by g) → c.opens_by.result ≡ unless (hidden (world_of c.args.page) (form_node c.args.form))
seen g c =
    let page = c.args.page in
    let stores = page.stores.now in
    let n = form_node c.args.form in
    let tells = kept_told page.policy c.policy.result stores (g.C.Conditions.holding c.conditions.result.now) (Opens c.args.form) c.policy.ensures c.conditions.ensures c.requires.node refl in
    c.opens_by.ensures stores tells ∙ ap (λ (p : Policy). unless (hidden (world p stores) n)) c.policy.ensures

pub returns-in-Err : goal.returns-in-Err
returns-in-Err g c =
    let w = world_of c.args.page in
    let n = form_node c.args.form in
    let r = has_number c.args.self.now.reached in
    let is = one_forbids c.in-Err.denial _ (sym c.in-Err.is ∙ seen g (goal.at.returns-in-Err g c).After-opens_by) in
    ap (λ (o : Option Denial). reach_by o (r (form_id n.op)) (closing w r (form_id n.op)) (is_named w.nodes (form_id n.op))) (sym is)

pub returns-in-Ok : goal.returns-in-Ok
returns-in-Ok g c =
    let w = world_of c.args.page in
    let n = form_node c.args.form in
    let r = has_number c.args.self.now.reached in
    let none = none_forbids _ _ (sym c.in-Ok.is ∙ seen g (goal.at.returns-in-Ok g c).After-opens_by) in
    c.to_seen.ensures ∙ same_way w c.args.self.now c.id.result c.requires.told ∙ ap (λ id. reach_by None (r id) (closing w r id) (is_named w.nodes id)) (c.id.ensures ∙ ap form_id c.op.ensures.bytes)
    ∙ ap (λ (o : Option Denial). reach_by o (r (form_id n.op)) (closing w r (form_id n.op)) (is_named w.nodes (form_id n.op))) (sym none)
