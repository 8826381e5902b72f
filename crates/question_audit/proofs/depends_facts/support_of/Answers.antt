use Rattle.std.proofs.Common.{◌≡◌, ◌∷◌, ℕ, Bool, true, false, List, ap, subst, sym, ◌∙◌}
use Rattle.std.specs.Prelude.{◌||◌, filter}
use Rattle.std.specs.List.{flat_map, list_any}
use Rattle.std.proofs.lemmas.Bool.{cond-false, cond-true, false≢true}
use Rattle.ifr_opcodes.specs.Forest.{Node}
use Rattle.ifr_opcodes.specs.Rows.{is_among}
use Rattle.ifr_nodes.specs.Guards.{guards}
use Rattle.ifr_nodes.specs.Nodes.{nodes_of}
use Rattle.ifr_scopes.specs.code.Lists.{guard_node, guards_left, statement_node}
use Rattle.guard_policy.specs.code.Views.{bytes_of}
use Rattle.guard_policy.proofs.IndexedLemmas.{of_statement}
use Rattle.question_audit.proofs.AroundLemmas.{guards_found}
use Rattle.question_audit.specs.Dependences.{supports}
use Rattle.question_audit.specs.RuleFacts.{condition_references, names_rule}
use Rattle.question_audit.specs.Times.{counts_when}
use Rattle.question_audit.specs.code.Ids.{has_id}
use Rattle.question_audit.specs.code.NamedRules.{AreRulesAt, condition_own_ids, has_id_at}
use Rattle.question_audit.specs.code.Places.{has_place}
use Rattle.question_audit.proofs.DependLemmas.{ids_added, ids_passed}
use Rattle.question_audit.proofs.IdLemmas.{hits, keys_are}
use Rattle.question_audit.proofs.NamingLemmas.{all_named, condition_added, or_false}
use Rattle.question_audit.proofs.SupportLemmas.{are_rules, at_places, named_has, of_conditions}
use Rattle.question_audit.proofs.depends_facts.support_of.Goals as goal

pub loop-guard-init : goal.loop-guard-init
loop-guard-init c =
    let policy = c.args.policy in
    let n = statement_node c.args.statement in
    let ns = nodes_of (bytes_of policy) in
    let test = counts_when c.args.when in
    let found = guards_found policy n _ c.place.result _ c.requires (of_statement n c.args.statement.statement) (sym c.place.ensures) c.forms-forms.ensures c.guards_at-guards.ensures.guards in
    let none : (id : ℕ) → has_id c.new-ids.result id ≡ false = λ id. ap (list_any (hits id)) c.new-ids.ensures.empty in
    let nowhere : (place : ℕ) → has_place c.new-places.result place ≡ false = λ place. ap (list_any (hits place)) c.new-places.ensures.empty in
    record {
      named = λ id. ap (λ (b : Bool). b || is_among id (flat_map condition_own_ids (filter test (guards_left c.guards_at-guards.result)))) (none id)
          ∙ ap (λ (gs : List Node). is_among id (flat_map condition_own_ids (filter test gs))) found;
      are = record { ordered = c.new-ids.ensures.ordered; few = λ id ge. none id };
      rules = λ place. ap (λ (b : Bool). b || list_any (names_rule ns place) (flat_map (condition_references ns) (filter test (guards_left c.guards_at-guards.result)))) (nowhere place)
          ∙ ap (λ (gs : List Node). list_any (names_rule ns place) (flat_map (condition_references ns) (filter test gs))) found;
      closed = λ r n is there. absurd (false≢true (sym (nowhere n.place) ∙ there));
    }

pub loop-guard-preserved-in-Continue-branch-2 : goal.loop-guard-preserved-in-Continue-branch-2
loop-guard-preserved-in-Continue-branch-2 c =
    let ns = nodes_of (bytes_of c.args.policy) in
    let test = counts_when c.args.when in
    let g = guard_node c.in-Some.guard in
    let is : test g ≡ true = sym c.counts.ensures ∙ c.if-counts.true in
    let all = flat_map (condition_references ns) (filter test (guards (statement_node c.args.statement))) in
    let rest = filter test (guards_left c.next.new.self) in
    record {
      named = λ id. ids_added condition_own_ids test id _ _ g _ _ _ c.in-Some.ensures.steps is (rw (c.this.ensures, c.condition.ensures) at c.in_ok-add_own.ensures.named id) (c.loop-guard.invariant.named id);
      are = c.in_ok-add_own.ensures.are c.loop-guard.invariant.are;
      rules = condition_added ns (λ _. false) _ _ all _ rest g (ap (filter test) c.in-Some.ensures.steps ∙ cond-true (test g) (g ∷ rest) rest is)
          (rw (c.forms-forms.ensures, c.condition-then-counts.ensures) at c.in_ok-add_named.ensures.places) c.loop-guard.invariant.rules;
      closed = rw c.forms-forms.ensures at c.in_ok-add_named.ensures.closed;
    }

pub loop-guard-preserved : goal.loop-guard-preserved
loop-guard-preserved c =
    let ns = nodes_of (bytes_of c.args.policy) in
    let test = counts_when c.args.when in
    let g = guard_node c.in-Some.guard in
    let other : test g ≡ false = sym c.counts.ensures ∙ c.if-counts.false in
    let rest = filter test (guards_left c.next.new.self) in
    let same : filter test (guards_left c.loop-guard.guards) ≡ rest = ap (filter test) c.in-Some.ensures.steps ∙ cond-false (test g) (g ∷ rest) rest other in
    record {
      named = λ id. ids_passed condition_own_ids test id _ _ g _ _ c.in-Some.ensures.steps other (c.loop-guard.invariant.named id);
      are = c.loop-guard.invariant.are;
      rules = λ place. ap (λ (gs : List Node). has_place c.loop-guard.places place || list_any (names_rule ns place) (flat_map (condition_references ns) gs)) (sym same) ∙ c.loop-guard.invariant.rules place;
      closed = c.loop-guard.invariant.closed;
    }

pub add_of_rules-requires : goal.add_of_rules-requires
add_of_rules-requires c =
    let bytes = bytes_of c.args.policy in
    let ns = nodes_of bytes in
    let test = counts_when c.args.when in
    let all = flat_map (condition_references ns) (filter test (guards (statement_node c.args.statement))) in
    let named = all_named ns (λ _. false) (has_place c.loop-guard.places) all _ (ap (λ (gs : List Node). flat_map (condition_references ns) (filter test gs)) c.in_default.ensures.steps.0) c.loop-guard.invariant.rules in
    subst (λ (b : List ℕ). AreRulesAt b c.loop-guard.places.keys) (sym c.forms-forms.ensures) (are_rules bytes c.loop-guard.places.keys all c.args.policy.accepted.checked named)

pub returns : goal.returns
returns c =
    let bytes = bytes_of c.args.policy in
    let ns = nodes_of bytes in
    let test = counts_when c.args.when in
    let n = statement_node c.args.statement in
    let i = c.loop-guard.invariant in
    let gs = filter test (guards n) in
    let all = flat_map (condition_references ns) gs in
    let places = c.loop-guard.places.keys in
    let checked = c.args.policy.accepted.checked in
    let none = c.in_default.ensures.steps.0 in
    let named = all_named ns (λ _. false) (has_place c.loop-guard.places) all _ (ap (λ (l : List Node). flat_map (condition_references ns) (filter test l)) none) i.rules in
    let gone : (id : ℕ) → is_among id (flat_map condition_own_ids (filter test (guards_left c.loop-guard.guards))) ≡ false = λ id. ap (λ (l : List Node). is_among id (flat_map condition_own_ids (filter test l))) none in
    let owned : (id : ℕ) → has_id c.loop-guard.ids id ≡ is_among id (flat_map condition_own_ids gs) = λ id.
    sym (or_false (has_id c.loop-guard.ids id)) ∙ ap (λ (b : Bool). has_id c.loop-guard.ids id || b) (sym (gone id)) ∙ i.named id in
    keys_are (supports c.args.when ns n) c.add_of_rules.new.ids (c.in_ok-add_of_rules.ensures.are i.are) (λ id.
    c.in_ok-add_of_rules.ensures.named id
    ∙ ap (λ (b : List ℕ). has_id c.loop-guard.ids id || list_any (has_id_at b id) places) c.forms-forms.ensures
    ∙ ap (λ (b : Bool). has_id c.loop-guard.ids id || b) (at_places bytes id places all checked named)
    ∙ ap (λ (b : Bool). b || list_any (named_has ns id) all) (owned id)
    ∙ sym (of_conditions bytes id gs checked))
