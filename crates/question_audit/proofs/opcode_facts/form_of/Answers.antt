use Rattle.std.proofs.Common.{◌≡◌, ℕ, List, Some, sym, ap, subst, ◌∙◌}
use Rattle.std.specs.Prelude.{filter}
use Rattle.std.specs.List.{find}
use Rattle.std.proofs.lemmas.Bool.{cond-false}
use Rattle.std.proofs.lemmas.List.Elements.{All-filter}
use Rattle.ifr_nodes.specs.Nodes.{is_form, nodes_of}
use Rattle.ifr_nodes.specs.code.Checked.{AreNodesOf, IsNodeOf}
use Rattle.ifr_scopes.specs.code.Lists.{form_node, forms_left, statement_node}
use Rattle.ifr_nodes.proofs.ScopeLemmas.{all_nodes}
use Rattle.guard_policy.specs.code.Views.{bytes_of}
use Rattle.guard_policy.proofs.OptionLemmas.{first_of, rest_of}
use Rattle.question_audit.specs.QuestionFacts.{has_within}
use Rattle.question_audit.proofs.opcode_facts.form_of.Goals as goal

pub loop-form-init : goal.loop-form-init
loop-form-init c =
    let bytes = bytes_of c.args.policy in
    let n = statement_node c.args.statement in
    let same : c.forms-forms.result.now ≡ bytes = c.forms-forms.ensures in
    let all = c.forms-all.ensures ∙ ap (λ (b : List ℕ). filter is_form (nodes_of b)) same in
    record {
      found = ap (find (has_within n)) all;
      nodes = subst (AreNodesOf bytes) (sym all) (All-filter is_form (IsNodeOf bytes) (nodes_of bytes) (all_nodes bytes c.args.policy.accepted.checked.spelled));
      same = same;
    }

pub has_within-requires : goal.has_within-requires
has_within-requires c =
    let i = c.loop-form.invariant in
    subst (λ (b : List ℕ). IsNodeOf b (form_node c.in-Some.form)) (sym i.same) (first_of _ _ _ _ c.in-Some.ensures.steps i.nodes)

pub loop-form-preserved : goal.loop-form-preserved
loop-form-preserved c =
    let i = c.loop-form.invariant in
    let has = has_within (statement_node c.args.statement) in
    let form = form_node c.in-Some.form in
    let rest = forms_left c.next.new.self in
    record {
      found = sym (cond-false (has form) (Some form) (find has rest) (sym c.has_within.ensures ∙ c.if-has_within.false)) ∙ sym (ap (find has) c.in-Some.ensures.steps) ∙ i.found;
      nodes = rest_of _ _ _ _ c.in-Some.ensures.steps i.nodes;
      same = i.same;
    }

pub returns-then-has_within-clause-node : goal.returns-then-has_within-clause-node
returns-then-has_within-clause-node c = first_of _ _ _ _ c.in-Some.ensures.steps c.loop-form.invariant.nodes
