use Rattle.std.proofs.Common.{ℕ, List, length, ap, arith, length-append}
use Rattle.ifr_opcodes.specs.code.Ops.{bytes_of}
use Rattle.ifr_expr.proofs.OpcodeSteps.{cut_off, none_left, ends_there, goes_on}
use Rattle.ifr_expr.proofs.opcodes.Opcodes.step.Goals as goal

pub returns-in_default : goal.returns-in_default
returns-in_default c =
    let it = c.args.self.now in
    let empty = none_left it.place it.rest.now it.opcodes c.in_default.ensures in
    (empty, empty)

pub returns-then-op-eq-END : goal.returns-then-op-eq-END
returns-then-op-eq-END c =
    let it = c.args.self.now in
    let op = c.in-Some.op in
    let empty = ends_there it.place it.rest.now (bytes_of op) c.in-Some.rest.now it.opcodes op.whole c.in-Some.ensures.1 c.if-op-eq-END.true in
    (empty, empty)

pub invariant_of-self : goal.invariant_of-self
invariant_of-self c =
    let it = c.args.self.now in
    let op = c.in-Some.op in
    record {
      opcodes = (cut_off it.rest.now (bytes_of op) c.in-Some.rest.now it.opcodes op.whole c.in-Some.ensures.1).1;
      small = omega (arith, it.small, c.len.ensures, length-append (bytes_of op) c.in-Some.rest.now, ap (λ (l : List ℕ). length l) c.in-Some.ensures.1);
    }

pub returns : goal.returns
returns c =
    let it = c.args.self.now in
    let op = c.in-Some.op in
    let goes = goes_on it.place it.rest.now (bytes_of op) c.in-Some.rest.now it.opcodes op.whole c.in-Some.ensures.1 c.if-op-eq-END.false in
    rw (c.in-Some.ensures.0, c.len.ensures) goes
