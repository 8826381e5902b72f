use Rattle.std.proofs.Common.{◌≡◌, ℕ, List, ap, ◌∙◌}
use Rattle.hii_bytes.proofs.WritingLemmas.{◌⨾◌}
use Rattle.ifr_opcodes.specs.Opcode.{number}
use Rattle.ifr_scopes.specs.code.Lists.{statement_node}
use Rattle.audit_text.specs.Words.{opcode_name}
use Rattle.script_audit.proofs.reasons.put_name.Goals as goal

pub returns : goal.returns
returns g c =
    let name : c.opcode_name.result.now ≡ opcode_name (number (statement_node c.args.statement).op) = c.opcode_name.ensures ∙ ap (λ (op : List ℕ). opcode_name (number op)) c.op.ensures.bytes in
    rw name at (c.put.ensures ⨾ c.put-2.ensures)
