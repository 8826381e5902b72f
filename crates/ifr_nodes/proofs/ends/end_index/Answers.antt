use Rattle.std.proofs.Common.{◌≡◌, ◌+◌, ℕ, Bool, true, false, cond, length, refl, sym, ap, subst, ◌∙◌, arith}
use Rattle.std.proofs.lemmas.List.{take_rest}
use Rattle.ifr_opcodes.specs.code.Ops.{bytes_of}
use Rattle.ifr_opcodes.proofs.OpcodeLemmas.{has_scope_spelled}
use Rattle.ifr_nodes.specs.code.Checked.{node_in}
use Rattle.ifr_nodes.specs.Nodes.{end_of}
use Rattle.ifr_nodes.proofs.EndLemmas.{Ends, ends_first, ends_past_end, ends_past_scoped, ends_past_plain, ends_at, ends_missing}
use Rattle.ifr_nodes.proofs.ViewLemmas.{stands_whole}
use Rattle.ifr_nodes.proofs.ends.end_index.Goals as goal

pub unwrap-first-requires : goal.unwrap-first-requires
unwrap-first-requires c = c.op_at.ensures.accepted (stands_whole c.args.bytes.now c.args.place c.requires.spelled c.requires.there)

as_number : (b : Bool) → cond b 1 0 ≡ mir.Val.bool_byte b
as_number true = refl
as_number false = refl

pub loop-depth-init : goal.loop-depth-init
loop-depth-init c =
    let bytes = c.args.bytes.now in
    let found = rw c.unwrap-first.ensures at c.op_at.ensures.found in
    let first = ends_first bytes c.args.place c.unwrap-first.result c.requires.spelled c.requires.there found in
    subst (λ (at : ℕ). Ends bytes at c.from-depth.result (end_of (node_in bytes c.args.place))) (ap (λ (n : ℕ). c.args.place + n) (sym c.len.ensures))
    (subst (λ (d : ℕ). Ends bytes (c.args.place + length (bytes_of c.unwrap-first.result)) d (end_of (node_in bytes c.args.place))) (as_number c.unwrap-first.result.scope ∙ sym c.from-depth.ensures) first)

pub loop-depth-preserved-then-op-eq-END : goal.loop-depth-preserved-then-op-eq-END
loop-depth-preserved-then-op-eq-END c =
    let bytes = c.args.bytes.now in
    let at = c.loop-depth.end in
    let op = c.in-Some.op in
    rw c.len-end.ensures (ends_past_end bytes at c.loop-depth.depth _ (bytes_of op) _ c.loop-depth.invariant (omega arith) op.whole (sym (take_rest bytes at) ∙ c.in-Some.ensures.1) c.if-op-eq-END.true)

pub loop-depth-preserved-then-op : goal.loop-depth-preserved-then-op
loop-depth-preserved-then-op c =
    let bytes = c.args.bytes.now in
    let at = c.loop-depth.end in
    let op = c.in-Some.op in
    rw c.len-end.ensures (ends_past_scoped bytes at c.loop-depth.depth _ (bytes_of op) _ c.loop-depth.invariant (omega arith) op.whole (sym (take_rest bytes at) ∙ c.in-Some.ensures.1) c.if-op-eq-END.false
    (has_scope_spelled op.code op.scope op.body.now op.whole ∙ c.if-op.true))

pub loop-depth-preserved : goal.loop-depth-preserved
loop-depth-preserved c =
    let bytes = c.args.bytes.now in
    let at = c.loop-depth.end in
    let op = c.in-Some.op in
    rw c.len-end.ensures (ends_past_plain bytes at c.loop-depth.depth _ (bytes_of op) _ c.loop-depth.invariant (omega arith) op.whole (sym (take_rest bytes at) ∙ c.in-Some.ensures.1) c.if-op-eq-END.false
    (has_scope_spelled op.code op.scope op.body.now op.whole ∙ c.if-op.false))

pub returns-after-loop-depth : goal.returns-after-loop-depth
returns-after-loop-depth c = ends_at c.args.bytes.now c.loop-depth.end c.loop-depth.depth _ c.loop-depth.invariant (omega arith)

pub returns-in_default : goal.returns-in_default
returns-in_default c =
    let bytes = c.args.bytes.now in
    ends_missing bytes c.loop-depth.end c.loop-depth.depth _ c.loop-depth.invariant (λ op more w e. c.in_default.ensures op more w (take_rest bytes c.loop-depth.end ∙ e))
