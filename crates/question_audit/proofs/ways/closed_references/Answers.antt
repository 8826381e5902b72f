use Rattle.std.proofs.Common.{◌≡◌, ℕ, [], ◌++◌, List, rules, sym, ap, subst, append-nil, ◌∙◌}
use Rattle.std.specs.Prelude.{filter, option_and_then}
use Rattle.std.specs.List.{filter_map, flat_map}
use Rattle.std.proofs.lemmas.List.Sorted.{answers_always}
use Rattle.hii_bytes.specs.code.NumberSets.{has_number}
use Rattle.ifr_opcodes.specs.Fields.{form_id}
use Rattle.ifr_opcodes.specs.Forest.{Node}
use Rattle.ifr_nodes.specs.Nodes.{is_form, nodes_of}
use Rattle.ifr_nodes.specs.code.Checked.{AreNodesOf}
use Rattle.ifr_scopes.specs.code.Lists.{form_node, forms_left}
use Rattle.guard_policy.specs.code.Views.{bytes_of}
use Rattle.guard_policy.proofs.OptionLemmas.{first_of, rest_of}
use Rattle.form_page.specs.code.PageViews.{world_of}
use Rattle.question_audit.specs.Reach.{statements_reached}
use Rattle.question_audit.specs.code.Closings.{closed_reference, first_closing}
use Rattle.question_audit.specs.declared.ways.ClosedReference.{ClosedReference}
use Rattle.question_audit.proofs.ClosingLemmas.{first_closes, form_added, form_passed, of_forms}
use Rattle.question_audit.proofs.NameLemmas.{same_first}
use Rattle.question_audit.proofs.QuestionsLemmas.{forms_are_nodes}
use Rattle.question_audit.proofs.ways.closed_references.Goals as goal

pub loop-form-init : goal.loop-form-init
loop-form-init g c =
    let page = c.args.page in
    let bytes = bytes_of page.policy in
    let is_reached = has_number c.args.reached.now in
    let closing = closed_reference (world_of page) is_reached in
    let all = c.forms-forms.ensures ∙ ap (λ (b : List ℕ). filter is_form (nodes_of b)) (c.forms.ensures ∙ ap bytes_of c.policy.ensures) in
    record {
      nodes = subst (AreNodesOf bytes) (sym all) (forms_are_nodes bytes page.policy.accepted);
      added = ap (λ (l : List ClosedReference). l ++ of_forms closing is_reached (forms_left c.forms-forms.result)) c.new-closed.ensures.items ∙ ap (of_forms closing is_reached) all;
    }

pub add_closed-requires : goal.add_closed-requires
add_closed-requires g c = first_of (bytes_of c.args.page.policy) (forms_left c.loop-form.forms) (form_node c.in-Some.form) (forms_left c.next.new.self) c.in-Some.ensures.steps c.loop-form.invariant.nodes

pub loop-form-preserved-in-Continue-1 : goal.loop-form-preserved-in-Continue-1
loop-form-preserved-in-Continue-1 g c =
    let is_reached = has_number c.args.reached.now in
    let e = c.in-Some.ensures.steps in
    let reached = ap is_reached (sym (c.id.ensures ∙ ap (λ (op : List ℕ). form_id op) c.op.ensures.bytes)) ∙ sym c.contains.ensures ∙ c.if-contains.true in
    record {
      nodes = rest_of (bytes_of c.args.page.policy) _ _ _ e c.loop-form.invariant.nodes;
      added = form_added (closed_reference (world_of c.args.page) is_reached) is_reached _ _ _ _ _ _ e reached c.in_ok-add_closed.ensures c.loop-form.invariant.added;
    }

pub loop-form-preserved : goal.loop-form-preserved
loop-form-preserved g c =
    let is_reached = has_number c.args.reached.now in
    let e = c.in-Some.ensures.steps in
    let other = ap is_reached (sym (c.id.ensures ∙ ap (λ (op : List ℕ). form_id op) c.op.ensures.bytes)) ∙ sym c.contains.ensures ∙ c.if-contains.false in
    record {
      nodes = rest_of (bytes_of c.args.page.policy) _ _ _ e c.loop-form.invariant.nodes;
      added = form_passed (closed_reference (world_of c.args.page) is_reached) is_reached _ _ _ _ _ e other c.loop-form.invariant.added;
    }

pub returns-clause-sorted : goal.returns-clause-sorted
returns-clause-sorted g c = c.in_ok-sort_by_key.ensures.sorted (λ (r : ClosedReference). r.form) (answers_always _ _ _ (λ e a r g called. search rules))

pub returns-clause-first : goal.returns-clause-first
returns-clause-first g c = λ id free.
    let w = world_of c.args.page in
    let is_reached = has_number c.args.reached.now in
    let closing = closed_reference w is_reached in
    let before = c.loop-form.closed.items in
    let after = c.sort_by_key.new.self.items in
    let all : before ≡ filter_map closing (statements_reached w is_reached) =
    sym (append-nil before) ∙ ap (λ (forms : List Node). before ++ of_forms closing is_reached forms) (sym c.in_default.ensures.steps.0) ∙ c.loop-form.invariant.added in
    ap (option_and_then (λ (r : ClosedReference). r.denial)) (same_first (λ (r : ClosedReference). r.form) before after id (c.in_ok-sort_by_key.ensures.stable (λ (r : ClosedReference). r.form) (answers_always _ _ _ (λ e a r g called. search rules))))
    ∙ ap (λ (l : List ClosedReference). first_closing l id) all
    ∙ first_closes w is_reached (statements_reached w is_reached) id free
