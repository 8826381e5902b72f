use Rattle.std.proofs.Common.{ap, sym, ◌∙◌}
use Rattle.ifr_opcodes.specs.code.Codes.{binary_code, unary_code}
use Rattle.ifr_opcodes.specs.code.Ops.{bytes_of, op_of}
use Rattle.ifr_opcodes.specs.code.Views.{operator}
use Rattle.ifr_opcodes.specs.declared.codes.TheConstants.{RULE_REF}
use Rattle.ifr_opcodes.specs.declared.expressions.ExprOp.{ExprOp}
use Rattle.hii_questions.specs.code.Views.{question_view}
use Rattle.unlock_audit.specs.Constants.{mark_constants}
use Rattle.unlock_audit.proofs.OfferedLemmas.{binary_none, no_number, passes_over, rule_none, unary_none}
use Rattle.unlock_audit.proofs.constants.Numeric.add_operator.Goals as goal

pub returns-in-RuleRef : goal.returns-in-RuleRef
returns-in-RuleRef c =
    let h = c.in-RuleRef in
    passes_over (question_view c.args.self.question) c.args.values.now.keys _ (ap (λ (op : ExprOp). mark_constants (op_of (operator op))) h.is ∙ no_number (bytes_of h.field-0.op) RULE_REF h.field-0.coded rule_none)

pub returns-in-Unary : goal.returns-in-Unary
returns-in-Unary c =
    let h = c.in-Unary in
    passes_over (question_view c.args.self.question) c.args.values.now.keys _ (ap (λ (op : ExprOp). mark_constants (op_of (operator op))) h.is ∙ no_number (bytes_of h.field-0.op) (unary_code h.field-0.operator) (sym h.field-0.coded) (unary_none h.field-0.operator))

pub returns-in-Binary : goal.returns-in-Binary
returns-in-Binary c =
    let h = c.in-Binary in
    passes_over (question_view c.args.self.question) c.args.values.now.keys _ (ap (λ (op : ExprOp). mark_constants (op_of (operator op))) h.is ∙ no_number (bytes_of h.field-0.op) (binary_code h.field-0.operator) (sym h.field-0.coded) (binary_none h.field-0.operator))
