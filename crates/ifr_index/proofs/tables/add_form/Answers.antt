use Rattle.ifr_opcodes.specs.code.Ops.{bytes_of}
use Rattle.ifr_opcodes.specs.declared.codes.TheConstants.{FORM}
use Rattle.ifr_index.proofs.FieldLemmas.{row_there}
use Rattle.ifr_index.proofs.tables.add_form.Goals as goal

pub invariant_of-id : goal.invariant_of-id
invariant_of-id c =
    let code = c.if-op-eq-FORM.true in
    record { coded = code; sized = row_there (bytes_of c.args.op) FORM c.args.op.whole c.requires code }
