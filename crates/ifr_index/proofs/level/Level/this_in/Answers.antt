use Rattle.std.proofs.Common.{sym, ◌∙◌}
use Rattle.ifr_opcodes.specs.code.Ops.{bytes_of}
use Rattle.ifr_nodes.proofs.ScopeLemmas.{this-question, this-other}
use Rattle.ifr_index.proofs.LevelLemmas.{question_sized}
use Rattle.ifr_index.proofs.level.Level.this_in.Goals as goal

pub invariant_of-id : goal.invariant_of-id
invariant_of-id c =
    let asks = sym c.is_question.ensures ∙ c.if-is_question.true in
    record { coded = asks; sized = question_sized (bytes_of c.args.op) c.args.op.whole c.requires asks }

pub returns-then-is_question : goal.returns-then-is_question
returns-then-is_question c = λ path children same.
    c.id.ensures ∙ sym (this-question path (record { place = c.args.op.place; op = bytes_of c.args.op; children = children }) (sym c.is_question.ensures ∙ c.if-is_question.true))

pub returns-else-is_question : goal.returns-else-is_question
returns-else-is_question c = λ path children same.
    same ∙ sym (this-other path (record { place = c.args.op.place; op = bytes_of c.args.op; children = children }) (sym c.is_question.ensures ∙ c.if-is_question.false))
