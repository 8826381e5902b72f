use Rattle.std.proofs.Common.{◌≡◌, ◌==◌, false, eqb, rules, subst, sym}
use Rattle.std.proofs.lemmas.Bool.{cond-false}
use Rattle.hii_bytes.specs.Watching.{Writes}
use Rattle.ifr_opcodes.specs.Opcode.{number}
use Rattle.ifr_opcodes.specs.declared.codes.TheConstants.{STRING}
use Rattle.ifr_scopes.specs.code.Lists.{statement_node}
use Rattle.script_audit.proofs.values.put_script.Goals as goal

pub returns-in_default : goal.returns-in_default
returns-in_default g c =
    let string : eqb (number (statement_node c.args.statement).op) STRING ≡ false = search rules in
    subst (Writes _ _) (sym (cond-false (number (statement_node c.args.statement).op == STRING) _ _ string)) c.put_script_value.ensures
