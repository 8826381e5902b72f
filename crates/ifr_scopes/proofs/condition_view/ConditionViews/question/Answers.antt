use Rattle.std.proofs.Common.{◌≡◌, ◌==◌, true, sym, ap, subst, ◌∙◌}
use Rattle.std.proofs.lemmas.Bool.{false≢true}
use Rattle.ifr_opcodes.specs.Fields.{question_id}
use Rattle.ifr_opcodes.specs.Opcode.{number}
use Rattle.ifr_opcodes.specs.Rows.{is_condition_number}
use Rattle.ifr_nodes.specs.Nodes.{is_question}
use Rattle.ifr_nodes.specs.code.PartsLeft.{HaveThis}
use Rattle.ifr_nodes.specs.code.Views.{node_of}
use Rattle.ifr_nodes.proofs.NodeFactLemmas.{is_node}
use Rattle.ifr_scopes.proofs.ThisLemmas.{have_this}
use Rattle.ifr_scopes.proofs.condition_view.ConditionViews.question.Goals as goal
use Rattle.ifr_scopes.proofs.condition_view.ConditionViews.question.Goals.{then-is_question, else-is_question}

pub invariant_of-result : goal.invariant_of-result
invariant_of-result c =
    let view = c.args.node in
    let n = node_of view in
    let named : is_question n ≡ true → c.if-is_question.this ≡ question_id n.op = elim c.if-is_question.branch [
      | then-is_question w ↦ λ is. w.this-is ∙ w.id-this.ensures ∙ ap question_id w.question.ensures.bytes
      | else-is_question w ↦ λ is. absurd (false≢true (sym w.if-is_question.false ∙ c.is_question.ensures ∙ is))
    ] in
    record {
      coded = ap is_condition_number c.question-2.ensures.coded ∙ c.requires;
      within = subst (HaveThis c.if-is_question.this) (sym c.question-2.ensures.left)
          (have_this view.ifr.now n (λ m. number m.op == c.args.code) c.if-is_question.this view.checked (is_node view.ifr.now view.op.place _ view.checked view.stands) named);
    }
