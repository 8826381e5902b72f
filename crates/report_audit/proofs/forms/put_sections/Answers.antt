use Rattle.std.proofs.Common.{ℕ, List, [], ap, subst, rules, sym, ◌∙◌}
use Rattle.std.specs.Prelude.{filter}
use Rattle.std.specs.List.{flat_map}
use Rattle.hii_bytes.specs.code.NumberSets.{has_number}
use Rattle.hii_bytes.proofs.WritingLemmas.{writes_nil, past_piece}
use Rattle.ifr_opcodes.specs.Forest.{Node}
use Rattle.ifr_nodes.specs.Nodes.{is_form, nodes_of}
use Rattle.ifr_nodes.specs.code.Checked.{AreNodesOf}
use Rattle.ifr_scopes.specs.code.Lists.{form_node, forms_left}
use Rattle.guard_policy.specs.code.Views.{bytes_of}
use Rattle.guard_policy.proofs.OptionLemmas.{first_of, rest_of}
use Rattle.question_audit.specs.code.Pages.{audited}
use Rattle.question_audit.proofs.QuestionsLemmas.{forms_are_nodes}
use Rattle.question_audit.proofs.BeginningLemmas.{at_error, piece_begun}
use Rattle.report_audit.specs.Forms.{section}
use Rattle.report_audit.proofs.forms.put_sections.Goals as goal

pub loop-form-init : goal.loop-form-init
loop-form-init g c =
    let page = c.args.page in
    let bytes = bytes_of page.policy in
    let told : Node → List ℕ = section (audited page) (has_number c.args.ways.now.reached) in
    let all = c.forms-forms.ensures ∙ ap (λ (b : List ℕ). filter is_form (nodes_of b)) (c.forms.ensures ∙ ap bytes_of c.policy.ensures) in
    record {
      can = search rules;
      ends = search rules;
      nodes = subst (AreNodesOf bytes) (sym all) (forms_are_nodes bytes page.policy.accepted);
      same = c.requires.same;
      text = record {
        front = [];
        parts = ap (flat_map told) (sym all);
        written = writes_nil _;
      };
    }

pub put_section-requires-clause-node : goal.put_section-requires-clause-node
put_section-requires-clause-node g c =
    first_of (bytes_of c.args.page.policy) (forms_left c.loop-form.forms) (form_node c.in-Some.form) (forms_left c.next.new.self) c.in-Some.ensures.steps c.loop-form.invariant.nodes

pub loop-form-preserved : goal.loop-form-preserved
loop-form-preserved g c =
    let page = c.args.page in
    let left = forms_left c.loop-form.forms in
    let after = forms_left c.next.new.self in
    let n = form_node c.in-Some.form in
    let e = c.in-Some.ensures.steps in
    let told : Node → List ℕ = section (audited page) (has_number c.args.ways.now.reached) in
    record {
      can = search rules;
      ends = search rules;
      nodes = rest_of (bytes_of page.policy) left n after e c.loop-form.invariant.nodes;
      same = c.in_ok-put_section.ensures.same;
      text = past_piece _ _ _ _ _ (told n) (flat_map told after) (ap (flat_map told) e) c.loop-form.invariant.text c.in_ok-put_section.ensures.told;
    }

pub returns-in_err-put_section-clause-begun : goal.returns-in_err-put_section-clause-begun
returns-in_err-put_section-clause-begun g c =
    let told : Node → List ℕ = section (audited c.args.page) (has_number c.args.ways.now.reached) in
    at_error c.from_residual.result (piece_begun (flat_map told (forms_left c.next.new.self)) (ap (flat_map told) c.in-Some.ensures.steps) c.loop-form.invariant.text c.in_err-put_section.ensures.begun)
