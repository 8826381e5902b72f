use Rattle.std.proofs.Common.{ap, ◌∙◌}
use Rattle.ifr_opcodes.specs.code.Ops.{bytes_of, op_of}
use Rattle.ifr_opcodes.specs.code.Views.{leaf_operator}
use Rattle.ifr_opcodes.specs.declared.codes.TheConstants.{EQ_ID_ID, QUESTION_REF1, THIS}
use Rattle.ifr_opcodes.specs.declared.expressions.LeafOp.{LeafOp}
use Rattle.hii_questions.specs.code.Views.{question_view}
use Rattle.unlock_audit.specs.Constants.{mark_constants}
use Rattle.unlock_audit.proofs.OfferedLemmas.{ids_none, no_number, passes_over, reference_none, this_none}
use Rattle.unlock_audit.proofs.constants.Numeric.add_leaf.Goals as goal

pub returns-in-EqIdId : goal.returns-in-EqIdId
returns-in-EqIdId c =
    let h = c.in-EqIdId in
    passes_over (question_view c.args.self.question) c.args.values.now.keys _ (ap (λ (op : LeafOp). mark_constants (op_of (leaf_operator op))) h.is ∙ no_number (bytes_of h.field-0.op) EQ_ID_ID h.field-0.coded ids_none)

pub returns-in-QuestionRef : goal.returns-in-QuestionRef
returns-in-QuestionRef c =
    let h = c.in-QuestionRef in
    passes_over (question_view c.args.self.question) c.args.values.now.keys _ (ap (λ (op : LeafOp). mark_constants (op_of (leaf_operator op))) h.is ∙ no_number (bytes_of h.field-0.op) QUESTION_REF1 h.field-0.coded reference_none)

pub returns-in-This : goal.returns-in-This
returns-in-This c =
    let h = c.in-This in
    passes_over (question_view c.args.self.question) c.args.values.now.keys _ (ap (λ (op : LeafOp). mark_constants (op_of (leaf_operator op))) h.is ∙ no_number (bytes_of h.field-0.op) THIS h.field-0.coded this_none)
