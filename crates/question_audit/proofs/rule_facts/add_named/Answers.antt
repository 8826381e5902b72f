use Rattle.std.proofs.Common.{ℕ, ◌∷◌, [], List, length, arith, ap, ◌∙◌, sym, ◌≡◌}
use Rattle.std.specs.Prelude.{◌==◌, ◌||◌, true}
use Rattle.std.proofs.lemmas.Bool.{not-false}
use Rattle.std.proofs.lemmas.List.{length-append, nil_from_length}
use Rattle.ifr_expr.specs.References.{references}
use Rattle.ifr_expr.specs.code.Expressions.{tree_of}
use Rattle.ifr_expr.specs.declared.references.RuleReference.{RuleReference}
use Rattle.ifr_expr.specs.declared.references.RuleReferences.{RuleReferences}
use Rattle.ifr_nodes.specs.Nodes.{nodes_of}
use Rattle.ifr_nodes.specs.Rules.{rules_among}
use Rattle.ifr_scopes.specs.code.Lists.{rule_node}
use Rattle.question_audit.specs.code.Places.{has_place}
use Rattle.question_audit.proofs.ClosureLemmas.{comes_on_top, done, is_none, was_there}
use Rattle.question_audit.proofs.NamingLemmas.{entered, frames_left, named_left}
use Rattle.question_audit.proofs.rule_facts.add_named.Goals as goal

pub loop-references-smaller-in-Continue-branch-4 : goal.loop-references-smaller-in-Continue-branch-4
loop-references-smaller-in-Continue-branch-4 c =
    let bytes = c.args.forms.now in
    let old = c.loop-references.frames.items in
    let below = c.pop.new.self.items in
    let mid = c.push-in-Some.new.self.items in
    let new = c.push-then-branch.new.self.items in
    let it = c.in-Some.references in
    let next = c.next.new.self in
    let its = c.references-then-branch.result in
    let on = entered bytes old below mid new it next its c.in-Some-next.reference (rule_node c.in-Some-rule_named.rule) c.bytes.ensures.accepted.checked c.in-Some.ensures.items c.in_ok-push-2.ensures.items c.in_ok-push-3.ensures.items
    c.in-Some-next.ensures.steps c.in-Some-rule_named.ensures (c.references-then-branch.ensures ∙ ap references c.expression.ensures) in
    omega (
      arith,
      ap (λ (l : List RuleReference). length l) on.left,
      ap (λ (l : List RuleReferences). length l) c.in-Some.ensures.items,
      ap (λ (l : List RuleReferences). length l) c.in_ok-push-2.ensures.items,
      ap (λ (l : List RuleReferences). length l) c.in_ok-push-3.ensures.items,
      length-append below (it ∷ []),
      length-append below (next ∷ []),
      length-append mid (its ∷ []),
    )

-- a rule comes on top
pub loop-references-preserved-in-Continue-branch-4 : goal.loop-references-preserved-in-Continue-branch-4
loop-references-preserved-in-Continue-branch-4 c =
    comes_on_top c.args.forms.now (has_place c.args.places.now) (has_place c.loop-references.places) (has_place c.add_place.new.places) _ _ c.loop-references.frames.items c.pop.new.self.items c.push-in-Some.new.self.items c.push-then-branch.new.self.items
    c.in-Some.references c.next.new.self c.references-then-branch.result c.in-Some-next.reference (rule_node c.in-Some-rule_named.rule) c.bytes.ensures.accepted.checked c.in-Some.ensures.items c.in_ok-push-2.ensures.items c.in_ok-push-3.ensures.items
    c.in-Some-next.ensures.steps c.in-Some-rule_named.ensures (c.references-then-branch.ensures ∙ ap references c.expression.ensures)
    (λ place. c.in_ok-add_place.ensures.places place ∙ ap (λ (k : ℕ). k == place || has_place c.loop-references.places place) c.place.ensures) c.loop-references.invariant

-- it was there
pub loop-references-preserved-else-branch : goal.loop-references-preserved-else-branch
loop-references-preserved-else-branch c =
    let n = rule_node c.in-Some-rule_named.rule in
    let there : has_place c.loop-references.places n.place ≡ true = ap (has_place c.loop-references.places) (sym c.place.ensures) ∙ not-false _ (sym c.in_ok-add_place.ensures.new ∙ c.if-branch.false) in
    was_there (nodes_of c.args.forms.now) (has_place c.args.places.now) (has_place c.loop-references.places) (has_place c.add_place.new.places) _ _ c.loop-references.frames.items c.pop.new.self.items c.push-in-Some.new.self.items
    c.in-Some.references c.next.new.self c.in-Some-next.reference n c.in-Some.ensures.items c.in_ok-push-2.ensures.items c.in-Some-next.ensures.steps c.in-Some-rule_named.ensures there
    (λ place. c.in_ok-add_place.ensures.places place ∙ ap (λ (k : ℕ). k == place || has_place c.loop-references.places place) c.place.ensures) c.loop-references.invariant

-- no rule is named
pub loop-references-preserved : goal.loop-references-preserved
loop-references-preserved c =
    is_none (nodes_of c.args.forms.now) (has_place c.args.places.now) (has_place c.loop-references.places) _ _ c.loop-references.frames.items c.pop.new.self.items c.push-in-Some.new.self.items
    c.in-Some.references c.next.new.self c.in-Some-next.reference c.in-Some.ensures.items c.in_ok-push-2.ensures.items c.in-Some-next.ensures.steps c.in_default-rule_named.ensures c.loop-references.invariant

pub returns-clause-places : goal.returns-clause-places
returns-clause-places c =
    let empty = nil_from_length c.loop-references.frames.items (omega (arith, c.in_default.ensures.cases.0, c.loop-references.frames.ok.0)) in
    (done c.args.forms.now (has_place c.args.places.now) (has_place c.loop-references.places) (tree_of c.args.expression) _ _ c.bytes.ensures.accepted.checked
    (ap named_left empty) (ap (frames_left (rules_among (nodes_of c.args.forms.now))) empty) c.loop-references.invariant).places
