use Rattle.std.proofs.Common.{ℕ, ap, sym, ◌∙◌}
use Rattle.std.specs.Prelude.{◌==◌, ◌||◌}
use Rattle.std.specs.List.{list_any}
use Rattle.ifr_expr.specs.code.Names.{names_in}
use Rattle.ifr_expr.specs.Trees.{Tree}
use Rattle.ifr_nodes.specs.Nodes.{nodes_of}
use Rattle.ifr_scopes.specs.code.Lists.{rule_node, rules_left}
use Rattle.question_audit.specs.code.Leading.{leads}
use Rattle.question_audit.specs.code.Places.{has_place}
use Rattle.question_audit.proofs.IdLemmas.{hits}
use Rattle.question_audit.proofs.LeadingLemmas.{at_first, at_last, comes_in, next_depends, stays_out}
use Rattle.question_audit.proofs.decides_facts.leading_rules.Goals as goal

pub loop-rule-init : goal.loop-rule-init
loop-rule-init c =
    at_first c.args.forms.now c.args.id (has_place c.new-places.result) (rules_left c.rules-rules.result) c.bytes.ensures.accepted.checked c.rules-rules.ensures (λ place. ap (list_any (hits place)) c.new-places.ensures.empty)

pub loop-rule-preserved-in_ok-add_place : goal.loop-rule-preserved-in_ok-add_place
loop-rule-preserved-in_ok-add_place c =
    let bytes = c.args.forms.now in
    let has = has_place c.loop-rule.places in
    let n = rule_node c.in-Some.rule in
    let told = ap (λ (t : Tree). list_any (leads (nodes_of bytes) has 0 c.args.id) (names_in t)) c.expression.ensures in
    let is = sym (next_depends bytes c.args.id has _ _ n c.bytes.ensures.accepted.checked c.in-Some.ensures.steps c.loop-rule.invariant) ∙ sym told ∙ sym c.leads.ensures ∙ c.if-leads.true in
    comes_in bytes c.args.id has _ _ _ n c.in-Some.ensures.steps is (λ place. c.in_ok-add_place.ensures.places place ∙ ap (λ (k : ℕ). k == place || has place) c.place.ensures) c.loop-rule.invariant

pub loop-rule-preserved : goal.loop-rule-preserved
loop-rule-preserved c =
    let bytes = c.args.forms.now in
    let has = has_place c.loop-rule.places in
    let n = rule_node c.in-Some.rule in
    let told = ap (λ (t : Tree). list_any (leads (nodes_of bytes) has 0 c.args.id) (names_in t)) c.expression.ensures in
    let other = sym (next_depends bytes c.args.id has _ _ n c.bytes.ensures.accepted.checked c.in-Some.ensures.steps c.loop-rule.invariant) ∙ sym told ∙ sym c.leads.ensures ∙ c.if-leads.false in
    stays_out bytes c.args.id has _ _ n c.in-Some.ensures.steps other c.loop-rule.invariant

pub returns : goal.returns
returns c =
    at_last c.args.forms.now c.args.id (has_place c.loop-rule.places) _ c.bytes.ensures.accepted.checked c.in_default.ensures.steps.0 c.loop-rule.invariant
