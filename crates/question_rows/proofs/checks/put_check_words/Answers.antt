use Rattle.std.proofs.Common.{◌≡◌, ap, ◌∙◌}
use Rattle.hii_bytes.proofs.WritingLemmas.{◌⨾◌}
use Rattle.ifr_opcodes.specs.Opcode.{number}
use Rattle.ifr_nodes.specs.NodeExpressions.{message}
use Rattle.ifr_scopes.specs.code.Parts.{condition_node}
use Rattle.audit_text.specs.Words.{opcode_name}
use Rattle.question_rows.proofs.checks.put_check_words.Goals as goal

pub returns : goal.returns
returns g c = λ words.
    let name : c.opcode_name.result.now ≡ opcode_name (number (condition_node c.args.check).op) = c.opcode_name.ensures ∙ ap opcode_name (c.code_of.ensures ∙ ap number c.op.ensures.bytes) in
    let told = c.message.ensures ∙ ap message c.op-2.ensures.bytes in
    rw (name, words, c.chars.ensures, c.text.ensures, told) at (c.put.ensures ⨾ c.put_stated.ensures ⨾ c.put-2.ensures ⨾ c.put_isolated_shown.ensures)
