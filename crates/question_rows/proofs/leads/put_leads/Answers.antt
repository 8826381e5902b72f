use Rattle.std.proofs.Common.{◌≡◌, false, eqb, rules}
use Rattle.hii_bytes.proofs.WritingLemmas.{writes_nil}
use Rattle.ifr_opcodes.specs.Opcode.{number}
use Rattle.ifr_opcodes.specs.declared.codes.TheConstants.{REF}
use Rattle.ifr_scopes.specs.code.Lists.{statement_node}
use Rattle.question_rows.proofs.leads.put_leads.Goals as goal

pub returns-in_default : goal.returns-in_default
returns-in_default g c =
    let op = (statement_node c.args.statement).op in
    let other : eqb (number op) REF ≡ false = search rules in
    rw other (writes_nil _)
