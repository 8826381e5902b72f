use Rattle.hii_bytes.proofs.WritingLemmas.{◌⨾◌}
use Rattle.check_audit.proofs.refusal.put_refusal.Goals as goal

pub returns : goal.returns
returns g c =
    let opcode = c.opcode_at-opcode.ensures in
    let seen = c.seen_before-seen.ensures in
    c.put_fault.ensures ⨾ c.put_byte.ensures ⨾ (rw opcode at c.put_opcode.ensures) ⨾ (rw seen at c.put_named.ensures) ⨾ (rw seen at c.put_named-2.ensures) ⨾ (rw (c.mostly_at.ensures, opcode) at c.put_mostly.ensures)
