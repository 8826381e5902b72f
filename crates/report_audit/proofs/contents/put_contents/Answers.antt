use Rattle.std.proofs.Common.{ℕ, List, ◌++◌, ap, codes, subst, rules, sym, ◌∙◌}
use Rattle.std.specs.Prelude.{filter}
use Rattle.std.specs.List.{flat_map}
use Rattle.hii_bytes.specs.code.NumberSets.{has_number}
use Rattle.hii_bytes.proofs.WritingLemmas.{◌⨾◌, Stands-all, past_piece}
use Rattle.ifr_opcodes.specs.Forest.{Node}
use Rattle.ifr_nodes.specs.Nodes.{is_form, nodes_of}
use Rattle.ifr_nodes.specs.code.Checked.{AreNodesOf}
use Rattle.ifr_scopes.specs.code.Lists.{form_node, forms_left}
use Rattle.guard_policy.specs.code.Views.{bytes_of}
use Rattle.guard_policy.proofs.OptionLemmas.{first_of, rest_of}
use Rattle.question_audit.specs.code.Pages.{audited}
use Rattle.question_audit.proofs.QuestionsLemmas.{forms_are_nodes}
use Rattle.report_audit.specs.Contents.{form_item}
use Rattle.report_audit.proofs.contents.put_contents.Goals as goal

pub loop-form-init : goal.loop-form-init
loop-form-init g c =
    let page = c.args.page in
    let bytes = bytes_of page.policy in
    let told : Node → List ℕ = form_item (audited page) (has_number c.args.ways.now.reached) in
    let front : List ℕ = codes "<nav>\n<strong>Forms</strong>\n<ol>\n" in
    let all = c.forms-forms.ensures ∙ ap (λ (b : List ℕ). filter is_form (nodes_of b)) (c.forms.ensures ∙ ap bytes_of c.policy.ensures) in
    record {
      can = search rules;
      ends = search rules;
      nodes = subst (AreNodesOf bytes) (sym all) (forms_are_nodes bytes page.policy.accepted);
      text = record {
        front = front;
        parts = ap (λ (ns : List Node). front ++ flat_map told ns) (sym all);
        written = c.put.ensures;
      };
    }

pub put_form_item-requires-clause-node : goal.put_form_item-requires-clause-node
put_form_item-requires-clause-node g c =
    first_of (bytes_of c.args.page.policy) (forms_left c.loop-form.forms) (form_node c.in-Some.form) (forms_left c.next.new.self) c.in-Some.ensures.steps c.loop-form.invariant.nodes

pub loop-form-preserved : goal.loop-form-preserved
loop-form-preserved g c =
    let page = c.args.page in
    let left = forms_left c.loop-form.forms in
    let after = forms_left c.next.new.self in
    let n = form_node c.in-Some.form in
    let e = c.in-Some.ensures.steps in
    let told : Node → List ℕ = form_item (audited page) (has_number c.args.ways.now.reached) in
    record {
      can = search rules;
      ends = search rules;
      nodes = rest_of (bytes_of page.policy) left n after e c.loop-form.invariant.nodes;
      text = past_piece _ _ _ _ _ (told n) (flat_map told after) (ap (flat_map told) e) c.loop-form.invariant.text c.put_form_item.ensures;
    }

pub returns : goal.returns
returns g c =
    let told : Node → List ℕ = form_item (audited c.args.page) (has_number c.args.ways.now.reached) in
    Stands-all _ _ _ _ c.loop-form.invariant.text (ap (flat_map told) c.in_default.ensures.steps.0) ⨾ c.put-2.ensures
