use Rattle.std.proofs.Common.{Option, Some, None, IfNone, IsSome, refl, sym, ap, ◌∙◌}
use Rattle.ifr_nodes.specs.Nodes.{nodes_of}
use Rattle.ifr_nodes.specs.code.Views.{nodes_left}
use Rattle.ifr_nodes.proofs.NodeFactLemmas.{first_is_form_set, some_nodes}
use Rattle.ifr_scopes.proofs.forms.Forms.formset.Goals as goal

is_there : {X : Type 0} (found : Option X) (P : Type 0) → IfNone found P → (P → ⊥) → IsSome found
is_there None P h none = absurd (none h)
is_there (Some x) P h none = refl

pub unwrap-node-requires : goal.unwrap-node-requires
unwrap-node-requires c = is_there c.step.result _ c.step.ensures.none (λ none. some_nodes c.self.inside.ifr.now c.self.invariant.accepted.checked (sym c.over.ensures.all ∙ none.0))

pub invariant_of-result : goal.invariant_of-result
invariant_of-result c =
    let met = rw c.unwrap-node.ensures at c.step.ensures.some in
    record { form_set = first_is_form_set c.self.inside.ifr.now _ _ c.self.invariant.accepted.checked (sym c.over.ensures.all ∙ met.0) }

pub returns : goal.returns
returns c =
    let met = rw c.unwrap-node.ensures at c.step.ensures.some in
    (nodes_left c.step.new.self, ap nodes_of (sym c.self.view_is) ∙ sym c.over.ensures.all ∙ met.0)
