use Rattle.std.proofs.Common.{arith}
use Rattle.std.proofs.lemmas.List.{take_rest}
use Rattle.opcode_audit.specs.Lines.{Setting}
use Rattle.opcode_audit.proofs.LineLemmas.{begun_within, depth_less, opcode_size, scope_more, walk_begun, walk_end, walk_more}
use Rattle.opcode_audit.proofs.walk.put_opcodes.Goals as goal

pub loop-opcode-init : goal.loop-opcode-init
loop-opcode-init g c =
    let bytes = c.args.source.bytes.now in
    record { walks = walk_begun _ _ bytes _ (take_rest bytes 4); within = begun_within bytes _ (take_rest bytes 4) c.args.source.header; few = omega arith }

pub invariant_of-placed-clause-shallow : goal.invariant_of-placed-clause-shallow
invariant_of-placed-clause-shallow g c =
    let less = depth_less c.loop-opcode.scopes c.in-Some.opcode.now in
    omega (arith, less, c.depth_at.ensures, c.loop-opcode.invariant.few, c.loop-opcode.invariant.within, c.args.source.small)

pub invariant_of-placed-clause-headed : goal.invariant_of-placed-clause-headed
invariant_of-placed-clause-headed g c =
    let met = c.in-Some.ensures in
    (opcode_size c.loop-opcode.rest.now c.in-Some.opcode.now c.in-Some.behind.now met.0 met.1 met.2).0

pub overflow_add-place : goal.overflow_add-place
overflow_add-place g c =
    let met = c.in-Some.ensures in
    let size = opcode_size c.loop-opcode.rest.now c.in-Some.opcode.now c.in-Some.behind.now met.0 met.1 met.2 in
    omega (arith, size.1, c.loop-opcode.invariant.within, c.args.source.small)

pub scopes_behind-scopes-requires : goal.scopes_behind-scopes-requires
scopes_behind-scopes-requires g c = omega (arith, c.loop-opcode.invariant.few, c.loop-opcode.invariant.within, c.args.source.small)

pub loop-opcode-preserved : goal.loop-opcode-preserved
loop-opcode-preserved g c =
    let met = c.in-Some.ensures in
    let op = c.in-Some.opcode.now in
    let s : Setting = record { telling = c.args.telling; spoken = c.args.strings.now; base = c.args.base } in
    let size = opcode_size c.loop-opcode.rest.now op c.in-Some.behind.now met.0 met.1 met.2 in
    let more = scope_more c.loop-opcode.scopes op in
    let wrote = rw c.depth_at.ensures at c.put_opcode.ensures in
    record {
      walks = rw c.scopes_behind-scopes.ensures (walk_more s c.loop-opcode.place c.loop-opcode.scopes c.loop-opcode.rest.now op c.in-Some.behind.now c.loop-opcode.invariant.walks met.0 met.1 met.2 wrote);
      within = omega (arith, size.1, c.loop-opcode.invariant.within);
      few = omega (arith, more, size.0, c.scopes_behind-scopes.ensures, c.loop-opcode.invariant.few);
    }

pub loop-opcode-smaller : goal.loop-opcode-smaller
loop-opcode-smaller g c =
    let met = c.in-Some.ensures in
    let size = opcode_size c.loop-opcode.rest.now c.in-Some.opcode.now c.in-Some.behind.now met.0 met.1 met.2 in
    omega (arith, size.0, size.1)

pub put_opcode-requires : goal.put_opcode-requires
put_opcode-requires g c =
    let met = c.in-Some.ensures in
    let size = opcode_size c.loop-opcode.rest.now c.in-Some.opcode.now c.in-Some.behind.now met.0 met.1 met.2 in
    omega (arith, size.1, c.loop-opcode.invariant.within, c.requires)

pub returns : goal.returns
returns g c = λ start is.
    let s : Setting = record { telling = c.args.telling; spoken = c.args.strings.now; base = c.args.base } in
    rw (← is) (walk_end s c.loop-opcode.place c.loop-opcode.scopes c.loop-opcode.rest.now c.loop-opcode.invariant.walks c.in_default.ensures)
