use Rattle.std.proofs.Common.{drop, take, arith}
use Rattle.opcode_audit.proofs.LineLemmas.{opcode_size}
use Rattle.check_audit.proofs.SeenLemmas.{sees_all, sees_end, sees_more}
use Rattle.check_audit.proofs.behind.seen_before.Goals as goal

pub loop-opcode-init : goal.loop-opcode-init
loop-opcode-init c = sees_all (drop 4 (take c.args.place c.args.ifr.now)) _ c.opcodes_before-rest.ensures

pub with-seen-requires : goal.with-seen-requires
with-seen-requires c =
    let met = c.in-Some.ensures in
    (opcode_size c.loop-opcode.rest.now c.in-Some.opcode.now c.in-Some.behind.now met.0 met.1 met.2).0

pub loop-opcode-preserved : goal.loop-opcode-preserved
loop-opcode-preserved c =
    let met = c.in-Some.ensures in
    rw c.with-seen.ensures (sees_more c.loop-opcode.seen _ c.loop-opcode.rest.now c.in-Some.opcode.now c.in-Some.behind.now c.loop-opcode.invariant met.0 met.1 met.2)

pub loop-opcode-smaller : goal.loop-opcode-smaller
loop-opcode-smaller c =
    let met = c.in-Some.ensures in
    let size = opcode_size c.loop-opcode.rest.now c.in-Some.opcode.now c.in-Some.behind.now met.0 met.1 met.2 in
    omega (arith, size.0, size.1)

pub returns : goal.returns
returns c = sees_end c.loop-opcode.seen _ c.loop-opcode.rest.now c.loop-opcode.invariant c.in_default.ensures
