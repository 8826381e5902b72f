use Rattle.std.proofs.Common.{ℕ, List, ap, refl, sym, ◌∙◌, arith}
use Rattle.std.specs.Prelude.{filter}
use Rattle.std.proofs.lemmas.Option.{slice_get_within}
use Rattle.hii_bytes.specs.code.NumberSets.{has_number}
use Rattle.ifr_nodes.specs.Nodes.{is_form, nodes_of}
use Rattle.ifr_scopes.specs.code.Lists.{form_node, forms_left}
use Rattle.guard_policy.specs.code.Views.{bytes_of}
use Rattle.form_page.specs.code.PageViews.{world_of}
use Rattle.question_audit.specs.code.MetForms.{forms_met}
use Rattle.question_audit.proofs.FoundLemmas.{accepted_found}
use Rattle.question_audit.proofs.ReachLemmas.{first_met, follows, met_node, none_met, tells}
use Rattle.question_audit.proofs.reach.reached_forms.Goals as goal
use Rattle.question_audit.proofs.reach.reached_forms.Goals.{in-Some+in_ok-meet, in_default}

pub loop-form-init : goal.loop-form-init
loop-form-init g c =
    let w = world_of c.args.page in
    let all = sym (c.forms-2.ensures ∙ ap (λ (bytes : List ℕ). filter is_form (nodes_of bytes)) (c.forms.ensures ∙ ap bytes_of c.policy.ensures)) in
    elim c.match-next.branch [
      | in-Some+in_ok-meet b ↦ rw b.met-is (first_met w (forms_met c.in_ok-met.met) (forms_met b.meet.new.self) (form_node b.in-Some.first) (forms_left c.next.new.self) (all ∙ b.in-Some.ensures.steps) c.in_ok-met.ensures b.in_ok-meet.ensures)
      | in_default b ↦ rw b.met-is (none_met w (forms_met c.in_ok-met.met) (all ∙ b.in_default.ensures.steps.0) c.in_ok-met.ensures)
    ]

pub follow-requires : goal.follow-requires
follow-requires g c =
    let page = c.args.page in
    met_node (bytes_of page.policy) (world_of page) (forms_met c.loop-form.met) c.loop-form.followed c.loop-form.followed (form_node c.in-Some-form.form) refl page.policy.accepted.checked.spelled c.loop-form.invariant (sym c.in-Some-form.ensures.form)

pub overflow_add-followed : goal.overflow_add-followed
overflow_add-followed g c =
    omega (arith, c.form.ensures.few, slice_get_within (forms_met c.loop-form.met) c.loop-form.followed (form_node c.in-Some-form.form) (sym c.in-Some-form.ensures.form))

pub loop-form-smaller : goal.loop-form-smaller
loop-form-smaller g c =
    omega (arith, c.form.ensures.few, slice_get_within (forms_met c.loop-form.met) c.loop-form.followed (form_node c.in-Some-form.form) (sym c.in-Some-form.ensures.form))

pub loop-form-preserved : goal.loop-form-preserved
loop-form-preserved g c =
    rw c.in_ok-follow.ensures (follows (world_of c.args.page) (forms_met c.loop-form.met) c.loop-form.followed (form_node c.in-Some-form.form) c.loop-form.invariant (sym c.in-Some-form.ensures.form))

pub returns : goal.returns
returns g c =
    let page = c.args.page in
    tells (world_of page) (forms_met c.loop-form.met) c.loop-form.followed (has_number c.into_ids.result) c.loop-form.invariant (sym c.in_default-form.ensures.form) c.into_ids.ensures (accepted_found (bytes_of page.policy) page.policy.accepted)
