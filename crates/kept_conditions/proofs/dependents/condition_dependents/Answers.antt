use Rattle.std.proofs.Common.{◌≡◌, ℕ, List, ◌++◌, map, filter, sym, ap, ◌∙◌, subst}
use Rattle.std.proofs.lemmas.List.{append-nil}
use Rattle.hii_bytes.specs.code.FirstFaults.{Rise}
use Rattle.ifr_opcodes.specs.Forest.{Node}
use Rattle.ifr_index.specs.code.Tables.{is_question_condition}
use Rattle.ifr_nodes.specs.Nodes.{nodes_of}
use Rattle.ifr_scopes.specs.code.AllConditionsLeft.{all_conditions_left}
use Rattle.guard_policy.specs.code.Views.{bytes_of}
use Rattle.kept_conditions.proofs.LookupLemmas.{kind_rises, numbered_slice}
use Rattle.kept_conditions.proofs.dependents.condition_dependents.Goals.{After-deref_mut}
use Rattle.kept_conditions.proofs.dependents.condition_dependents.Goals as goal

pub loop-condition-init : goal.loop-condition-init
loop-condition-init c =
    ap (λ (l : List ℕ). l ++ map (λ (n : Node). n.place) (all_conditions_left c.conditions-conditions.result)) c.in_ok-numbers.ensures.items
    ∙ ap (map (λ (n : Node). n.place)) (c.conditions-conditions.ensures.conditions ∙ ap (λ (b : List ℕ). filter is_question_condition (nodes_of b)) c.forms-forms.ensures)

-- the places of all conditions of questions
places : (c : After-deref_mut) → c.deref_mut.result.now ≡ map (λ (n : Node). n.place) (filter is_question_condition (nodes_of (bytes_of c.args.policy)))
places c =
    let its = c.loop-condition.numbers.items in
    c.deref_mut.ensures.value ∙ sym (append-nil its) ∙ ap (λ (l : List Node). its ++ map (λ (n : Node). n.place) l) (sym c.in_default.ensures.steps.0) ∙ c.loop-condition.invariant

pub number_dependents-requires-clause-places : goal.number_dependents-requires-clause-places
number_dependents-requires-clause-places c = subst (Rise (λ (p : ℕ). p) 0) (sym (places c)) (kind_rises (bytes_of c.args.policy) is_question_condition c.args.policy.accepted)

pub returns : goal.returns
returns c =
    let at = (goal.at.returns c).After-deref_mut in
    numbered_slice c.args.dependents.now (filter is_question_condition (nodes_of (bytes_of c.args.policy))) c.loop-condition.numbers.len c.deref_mut.result.now c.number_dependents.new.places c.loop-condition.numbers.items c.deref_mut.ensures.len (places at) c.number_dependents.ensures
