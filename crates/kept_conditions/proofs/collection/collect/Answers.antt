use Rattle.std.proofs.Common.{◌≡◌, ℕ, List, length, sym, ap, ◌∙◌, subst, arith}
use Rattle.std.proofs.lemmas.List.{length-map}
use Rattle.ifr_opcodes.specs.Forest.{Node}
use Rattle.ifr_nodes.specs.Nodes.{nodes_of}
use Rattle.hii_varstore.specs.Stores.{StoreMap}
use Rattle.guard_policy.specs.code.Views.{world}
use Rattle.guard_policy.specs.code.Worlds.{is_met_at}
use Rattle.guard_policy.specs.declared.policy.Policy.{Policy}
use Rattle.kept_conditions.specs.code.Collection.{AreCollected, dependent_nodes}
use Rattle.kept_conditions.proofs.CollectionLemmas.{none_collected}
use Rattle.kept_conditions.proofs.DependentLemmas.{rule_dependents}
use Rattle.kept_conditions.proofs.RoundLemmas.{values_by, values_for}
use Rattle.kept_conditions.proofs.collection.collect.Goals as goal

pub loop-number-init : goal.loop-number-init
loop-number-init c = record {
  collected = none_collected _ (nodes_of c.forms-forms.result.now) _ c.in_ok-with_capacity.ensures.items c.new.ensures.items c.new-2.ensures.items;
  kept = values_by c.args.policy c.over-now.result.policy c.args.stores.now c.over-now.result.stores.now c.over-now.ensures.policy c.over-now.ensures.stores c.args.values.now c.requires.kept;
  left = c.rules-rules.ensures ∙ sym (rule_dependents (nodes_of c.forms-forms.result.now));
}

pub returns-clause-collected : goal.returns-clause-collected
returns-clause-collected c =
    let bytes = c.forms-forms.result.now in
    let long : length c.in_ok-places.places.items ≡ length (dependent_nodes (nodes_of bytes)) = ap (λ (l : List ℕ). length l) c.in_ok-places.ensures ∙ length-map (dependent_nodes (nodes_of bytes)) (λ (n : Node). n.place) in
    let size : c.loop-number.number ≡ length (dependent_nodes (nodes_of bytes)) =
    omega (arith, c.loop-number-test.false, c.loop-number.auto.number-end, c.len-number-end.ensures, c.in_ok-places.places.ok.0, long) in
    let all : AreCollected (nodes_of bytes) (λ place. is_met_at (world c.over-now.result.policy c.over-now.result.stores.now) place) c.loop-number.number c.loop-number.collected = c.loop-number.invariant.collected in
    subst (λ (b : List ℕ). AreCollected (nodes_of b) (is_met_at (world c.args.policy c.args.stores.now)) (length (dependent_nodes (nodes_of b))) c.loop-number.collected) c.forms-forms.ensures
    (subst (λ (n : ℕ). AreCollected (nodes_of bytes) (is_met_at (world c.args.policy c.args.stores.now)) n c.loop-number.collected) size
    (subst (λ (m : StoreMap). AreCollected (nodes_of bytes) (is_met_at (world c.args.policy m)) c.loop-number.number c.loop-number.collected) c.over-now.ensures.stores
    (subst (λ (p : Policy). AreCollected (nodes_of bytes) (is_met_at (world p c.over-now.result.stores.now)) c.loop-number.number c.loop-number.collected) c.over-now.ensures.policy all)))

pub returns-clause-kept : goal.returns-clause-kept
returns-clause-kept c = values_for c.args.policy c.over-now.result.policy c.args.stores.now c.over-now.result.stores.now c.over-now.ensures.policy c.over-now.ensures.stores c.loop-number.values c.loop-number.invariant.kept
