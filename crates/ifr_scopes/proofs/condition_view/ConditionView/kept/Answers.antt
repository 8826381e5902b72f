use Rattle.std.proofs.Common.{◌≡◌, ℕ, List, sym, ap, ◌∙◌}
use Rattle.ifr_opcodes.specs.Opcode.{number}
use Rattle.ifr_opcodes.specs.Forest.{Node}
use Rattle.ifr_opcodes.specs.Rows.{is_condition_number}
use Rattle.ifr_nodes.specs.Nodes.{nodes_of, this_of}
use Rattle.ifr_nodes.specs.code.Ends.{expression_end}
use Rattle.ifr_index.specs.code.Tables.{conditions_before}
use Rattle.ifr_nodes.proofs.EndLemmas.{stands_there}
use Rattle.ifr_scopes.proofs.condition_view.ConditionView.kept.Goals as goal

pub invariant_of-result : goal.invariant_of-result
invariant_of-result c =
    let bytes = c.args.ifr.now in
    let kept = c.requires.kept in
    let view = c.node_at.result in
    let node = c.node_at.ensures.node in
    let place : view.op.place ≡ c.args.condition.place = sym view.stands.placed ∙ ap (λ (n : Node). n.place) node ∙ (stands_there bytes c.args.condition.place c.requires.checked.spelled kept.there).1 in
    record {
      condition = ap (λ (n : Node). is_condition_number (number n.op)) node ∙ ap is_condition_number (sym kept.code) ∙ kept.condition;
      within = kept.within ∙ ap this_of (sym node);
      ended = kept.ends ∙ ap expression_end (sym node);
      counted = kept.before ∙ ap (conditions_before (nodes_of bytes)) (sym place) ∙ ap (λ (b : List ℕ). conditions_before (nodes_of b) view.op.place) (sym c.node_at.ensures.kept);
    }
