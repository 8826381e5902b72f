use Rattle.std.proofs.Common.{◌≡◌, ◌+◌, ◌<◌, ◌^◌, Ok, Err, length, slice_range, sym, subst, arith}
use Rattle.std.proofs.lemmas.List.{length-drop, length-take}
use Rattle.hii_bytes.specs.Faults.{IsLeast}
use Rattle.hii_bytes.specs.declared.cause.Cause.TheVariants.{ExprShape}
use Rattle.ifr_opcodes.specs.code.Ops.{op_of}
use Rattle.ifr_expr.specs.code.Checked.{marks}
use Rattle.ifr_expr.specs.code.OpcodesLeft.{opcodes_left}
use Rattle.ifr_expr.specs.Faults.{IsExpressionFault}
use Rattle.ifr_expr.specs.code.Bytes.{opcodes_of}
use Rattle.ifr_expr.proofs.CheckLemmas.{Done, are_opcodes, at_start, goes_on_counting, cause_told, done, checked, means_node, sound_node, several, least_all, least_opcode, not_meant, not_clear}
use Rattle.ifr_expr.proofs.expr.Expr.check.Goals as goal
use Rattle.ifr_expr.proofs.expr.Expr.check.Goals.{In-Some-cause_of, In-Ok, In-Err, In-Ok-eq1}

pub over-ops-requires-clause-opcodes : goal.over-ops-requires-clause-opcodes
over-ops-requires-clause-opcodes c = are_opcodes (slice_range c.args.ifr.now c.args.from c.args.to) c.requires.node

pub loop-op-init : goal.loop-op-init
loop-op-init c = record {
  stands = at_start c.args.from (slice_range c.args.ifr.now c.args.from c.args.to) (opcodes_left c.over-ops.result) c.requires.node c.over-ops.ensures;
  few = omega arith;
}

pub loop-op-preserved : goal.loop-op-preserved
loop-op-preserved c = record {
  stands = goes_on_counting c.args.from _ _ (opcodes_left c.loop-op.ops) (opcodes_left c.next.new.self) c.loop-op.values c.counted-values.result (op_of c.in-Some.op) c.loop-op.invariant.stands c.in-Some.ensures.steps (sym c.in_default-cause_of.ensures) c.counted-values.ensures.count;
  few = c.counted-values.ensures.few;
}

-- the least fault of an opcode by itself
told : (c : In-Some-cause_of) → IsLeast (IsExpressionFault c.args.from (opcodes_of c.args.from (slice_range c.args.ifr.now c.args.from c.args.to))) (record { cause = c.in-Some-cause_of.cause; place = c.in-Some.op.place })
told c =
    let bytes = slice_range c.args.ifr.now c.args.from c.args.to in
    least_opcode c.args.from (opcodes_of c.args.from bytes) _
    (cause_told c.args.from bytes _ (opcodes_left c.loop-op.ops) (opcodes_left c.next.new.self) c.loop-op.values (op_of c.in-Some.op) c.in-Some-cause_of.cause c.requires.node c.loop-op.invariant.stands c.in-Some.ensures.steps (sym c.in-Some-cause_of.ensures))

pub returns-in-Some-cause_of-clause-refused : goal.returns-in-Some-cause_of-clause-refused
returns-in-Some-cause_of-clause-refused c =
    rw c.fault.ensures (told (goal.at.returns-in-Some-cause_of-clause-refused c).In-Some-cause_of)

pub returns-in-Some-cause_of-clause-accepted : goal.returns-in-Some-cause_of-clause-accepted
returns-in-Some-cause_of-clause-accepted c = λ clear. absurd (not_clear c.args.from _ _ (told (goal.at.returns-in-Some-cause_of-clause-accepted c).In-Some-cause_of) clear)

pub returns-in-Some-cause_of-clause-meant : goal.returns-in-Some-cause_of-clause-meant
returns-in-Some-cause_of-clause-meant c = λ tree m few clear. absurd (not_meant c.args.from _ _ (told (goal.at.returns-in-Some-cause_of-clause-meant c).In-Some-cause_of) tree m few clear)

-- one value is left
ended : (c : In-Ok-eq1) → Done c.args.from (opcodes_of c.args.from (slice_range c.args.ifr.now c.args.from c.args.to)) (marks c.args.from (slice_range c.args.ifr.now c.args.from c.args.to)) (Ok 1)
ended c =
    let is : c.loop-op.values ≡ Ok 1 = cc in
    subst (Done c.args.from _ _) is (done c.args.from _ _ (opcodes_left c.loop-op.ops) c.loop-op.values c.loop-op.invariant.stands c.in_default.ensures.steps.0)

pub invariant_of-result : goal.invariant_of-result
invariant_of-result c =
    let bytes = slice_range c.args.ifr.now c.args.from c.args.to in
    let size : c.args.from + length bytes < 2 ^ 32 = simp (length-take, length-drop) (omega arith) in
    record { checked = checked c.args.from bytes size c.requires.node (ended (goal.at.invariant_of-result c).In-Ok-eq1) }

pub returns-in-Ok-eq1-clause-read : goal.returns-in-Ok-eq1-clause-read
returns-in-Ok-eq1-clause-read c =
    means_node c.args.from (slice_range c.args.ifr.now c.args.from c.args.to) (ended (goal.at.returns-in-Ok-eq1-clause-read c).In-Ok-eq1)

pub returns-in-Ok-eq1-clause-sound : goal.returns-in-Ok-eq1-clause-sound
returns-in-Ok-eq1-clause-sound c =
    sound_node c.args.from (slice_range c.args.ifr.now c.args.from c.args.to) (ended (goal.at.returns-in-Ok-eq1-clause-sound c).In-Ok-eq1)

-- several are left
many : (c : In-Ok) → IsLeast (IsExpressionFault c.args.from (opcodes_of c.args.from (slice_range c.args.ifr.now c.args.from c.args.to))) (record { cause = ExprShape; place = c.args.from })
many c =
    let bytes = slice_range c.args.ifr.now c.args.from c.args.to in
    let d : Done c.args.from (opcodes_of c.args.from bytes) (marks c.args.from bytes) (Ok c.in-Ok.field-0) = subst (Done c.args.from _ _) c.in-Ok.is (done c.args.from _ _ (opcodes_left c.loop-op.ops) c.loop-op.values c.loop-op.invariant.stands c.in_default.ensures.steps.0) in
    least_all c.args.from (opcodes_of c.args.from bytes) _ d.none (several c.args.from bytes (marks c.args.from bytes) c.in-Ok.field-0 d (λ one. omega arith))

pub returns-in-Ok-clause-refused : goal.returns-in-Ok-clause-refused
returns-in-Ok-clause-refused c = rw (c.at.ensures, c.from.ensures) (many (goal.at.returns-in-Ok-clause-refused c).In-Ok)

pub returns-in-Ok-clause-accepted : goal.returns-in-Ok-clause-accepted
returns-in-Ok-clause-accepted c = λ clear. absurd (not_clear c.args.from _ _ (many (goal.at.returns-in-Ok-clause-accepted c).In-Ok) clear)

pub returns-in-Ok-clause-meant : goal.returns-in-Ok-clause-meant
returns-in-Ok-clause-meant c = λ tree m few clear. absurd (not_meant c.args.from _ _ (many (goal.at.returns-in-Ok-clause-meant c).In-Ok) tree m few clear)

-- counting stopped
stopped : (c : In-Err) → IsLeast (IsExpressionFault c.args.from (opcodes_of c.args.from (slice_range c.args.ifr.now c.args.from c.args.to))) c.in-Err.fault
stopped c =
    let bytes = slice_range c.args.ifr.now c.args.from c.args.to in
    let d : Done c.args.from (opcodes_of c.args.from bytes) (marks c.args.from bytes) (Err c.in-Err.fault) = subst (Done c.args.from _ _) c.in-Err.is (done c.args.from _ _ (opcodes_left c.loop-op.ops) c.loop-op.values c.loop-op.invariant.stands c.in_default.ensures.steps.0) in
    least_all c.args.from (opcodes_of c.args.from bytes) c.in-Err.fault d.none d.told

pub returns-in-Err-clause-refused : goal.returns-in-Err-clause-refused
returns-in-Err-clause-refused c = stopped (goal.at.returns-in-Err-clause-refused c).In-Err

pub returns-in-Err-clause-accepted : goal.returns-in-Err-clause-accepted
returns-in-Err-clause-accepted c = λ clear. absurd (not_clear c.args.from _ _ (stopped (goal.at.returns-in-Err-clause-accepted c).In-Err) clear)

pub returns-in-Err-clause-meant : goal.returns-in-Err-clause-meant
returns-in-Err-clause-meant c = λ tree m few clear. absurd (not_meant c.args.from _ _ (stopped (goal.at.returns-in-Err-clause-meant c).In-Err) tree m few clear)
