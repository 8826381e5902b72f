use Rattle.std.proofs.Common.{sym, ◌∙◌}
use Rattle.ifr_opcodes.specs.code.Ops.{bytes_of}
use Rattle.ifr_index.specs.code.Levels.{node_with}
use Rattle.ifr_index.proofs.LevelLemmas.{question_sized}
use Rattle.ifr_index.proofs.ReferredLemmas.{nothing_met}
use Rattle.ifr_index.proofs.SoundLemmas.{alone}
use Rattle.ifr_index.proofs.references.References.meet_statement.Goals as goal

pub invariant_of-meet_question : goal.invariant_of-meet_question
invariant_of-meet_question c =
    let asks = sym c.is_question.ensures ∙ c.if-is_question.true in
    record { coded = asks; sized = question_sized (bytes_of c.args.op) c.args.op.whole c.requires.whole asks }

pub returns-else-is_question : goal.returns-else-is_question
returns-else-is_question c = λ path children.
    nothing_met (node_with c.args.op path children) c.args.self.now (alone c.args.op.code c.requires.statement).no_form (sym c.is_question.ensures ∙ c.if-is_question.false)
