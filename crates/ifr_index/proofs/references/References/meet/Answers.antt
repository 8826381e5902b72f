use Rattle.std.proofs.Common.{sym, ◌∙◌}
use Rattle.ifr_opcodes.specs.code.Ops.{bytes_of}
use Rattle.ifr_index.specs.code.Levels.{node_with}
use Rattle.ifr_index.proofs.LevelLemmas.{question_sized}
use Rattle.ifr_index.proofs.ReferredLemmas.{nothing_met}
use Rattle.std.proofs.lemmas.Bool.{ne_eqb}
use Rattle.ifr_opcodes.specs.declared.codes.TheConstants.{FORM}
use Rattle.ifr_index.proofs.FieldLemmas.{row_there}
use Rattle.ifr_index.proofs.references.References.meet.Goals as goal

pub invariant_of-meet_form : goal.invariant_of-meet_form
invariant_of-meet_form c =
    let code = c.if-op-eq-FORM.true in
    record { coded = code; sized = row_there (bytes_of c.args.op) FORM c.args.op.whole c.requires code }

pub invariant_of-meet_question : goal.invariant_of-meet_question
invariant_of-meet_question c =
    let asks = sym c.is_question.ensures ∙ c.if-is_question.true in
    record { coded = asks; sized = question_sized (bytes_of c.args.op) c.args.op.whole c.requires asks }

pub returns-else-is_question : goal.returns-else-is_question
returns-else-is_question c = λ path children.
    nothing_met (node_with c.args.op path children) c.args.self.now (ne_eqb c.args.op.code FORM c.if-op-eq-FORM.false) (sym c.is_question.ensures ∙ c.if-is_question.false)
