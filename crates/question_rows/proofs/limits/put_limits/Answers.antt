use Rattle.std.proofs.Common.{◌≡◌, false, eqb, rules}
use Rattle.hii_bytes.proofs.WritingLemmas.{writes_nil}
use Rattle.ifr_opcodes.specs.Opcode.{number}
use Rattle.ifr_opcodes.specs.declared.codes.TheConstants.{NUMERIC, ORDERED_LIST, PASSWORD, STRING}
use Rattle.ifr_scopes.specs.code.Lists.{statement_node}
use Rattle.question_rows.proofs.limits.put_limits.Goals as goal

pub returns-in_default : goal.returns-in_default
returns-in_default g c =
    let op = (statement_node c.args.statement).op in
    let numeric : eqb (number op) NUMERIC ≡ false = search rules in
    let string : eqb (number op) STRING ≡ false = search rules in
    let password : eqb (number op) PASSWORD ≡ false = search rules in
    let list : eqb (number op) ORDERED_LIST ≡ false = search rules in
    rw (numeric, string, password, list) (writes_nil _)
