use Rattle.std.proofs.Common.{rules, ℕ, List, ◌++◌, ◌+◌, ◌≤◌, sym, ap, ◌∙◌, subst, length, ◌≡◌, arith}
use Rattle.std.proofs.lemmas.List.{nil_from_length, length-append}
use Rattle.std.proofs.lemmas.Bool.{eqb-true, eqb-false}
use Rattle.ifr_opcodes.specs.code.Ops.{bytes_of}
use Rattle.ifr_opcodes.proofs.OpcodeLemmas.{has_scope_spelled}
use Rattle.ifr_nodes.proofs.RunLemmas.{Stands, at_start, no_opcode, extra_end, too_deep, still_open, past_end, past_scope, past_plain, is_spelled}
use Rattle.ifr_nodes.proofs.framing.check_framing.Goals as goal

left_within : (op more rest : List ℕ) (n : ℕ) → rest ≡ op ++ more → length rest + 4 ≤ n → length more + 4 ≤ n
left_within op more rest n e le = omega (arith, ap length e, length-append op more)

pub loop-rest-init : goal.loop-rest-init
loop-rest-init c = record { stands = at_start c.args.bytes.now; fits = omega arith; within = search rules }

pub returns-in_default-clause-refused : goal.returns-in_default-clause-refused
returns-in_default-clause-refused c =
    let i = c.loop-rest.invariant in
    rw c.at.ensures (no_opcode _ _ _ c.from.result i.stands i.within c.from.ensures (λ e. eqb-false _ _ (sym c.is_empty.ensures ∙ c.loop-rest-test.true) (ap length e)) c.in_default.ensures)

pub returns-then-depth-eq0-clause-refused : goal.returns-then-depth-eq0-clause-refused
returns-then-depth-eq0-clause-refused c =
    let i = c.loop-rest.invariant in
    let parts = c.in-Some.ensures in
    rw c.fault.ensures (extra_end _ _ _ _ c.in-Some.op.place (subst (λ d. Stands c.args.bytes.now c.loop-rest.rest.now d) c.if-depth-eq0.true i.stands) i.within parts.0 c.in-Some.op.whole parts.1 c.if-op-eq-END.true)

pub returns-then-depth-eq-MAX_DEPTH-clause-refused : goal.returns-then-depth-eq-MAX_DEPTH-clause-refused
returns-then-depth-eq-MAX_DEPTH-clause-refused c =
    let i = c.loop-rest.invariant in
    let parts = c.in-Some.ensures in
    let op = c.in-Some.op in
    rw c.fault-then-depth-eq-MAX_DEPTH.ensures (too_deep _ _ _ _ op.place (subst (λ d. Stands c.args.bytes.now c.loop-rest.rest.now d) c.if-depth-eq-MAX_DEPTH.true i.stands) i.within parts.0 op.whole parts.1 c.if-op-eq-END.false (has_scope_spelled op.code op.scope op.body.now op.whole ∙ c.if-op.true))

pub loop-rest-preserved-else-depth-eq0 : goal.loop-rest-preserved-else-depth-eq0
loop-rest-preserved-else-depth-eq0 c =
    let i = c.loop-rest.invariant in
    let parts = c.in-Some.ensures in
    record { stands = past_end _ _ _ _ _ i.stands c.if-depth-eq0.false c.in-Some.op.whole parts.1 c.if-op-eq-END.true; fits = omega arith; within = left_within (bytes_of c.in-Some.op) _ _ _ parts.1 i.within }

pub loop-rest-preserved-else-depth-eq-MAX_DEPTH : goal.loop-rest-preserved-else-depth-eq-MAX_DEPTH
loop-rest-preserved-else-depth-eq-MAX_DEPTH c =
    let i = c.loop-rest.invariant in
    let parts = c.in-Some.ensures in
    let op = c.in-Some.op in
    record { stands = past_scope _ _ _ _ _ i.stands (omega arith) op.whole parts.1 c.if-op-eq-END.false (has_scope_spelled op.code op.scope op.body.now op.whole ∙ c.if-op.true); fits = omega arith; within = left_within (bytes_of c.in-Some.op) _ _ _ parts.1 i.within }

pub loop-rest-preserved : goal.loop-rest-preserved
loop-rest-preserved c =
    let i = c.loop-rest.invariant in
    let parts = c.in-Some.ensures in
    let op = c.in-Some.op in
    record { stands = past_plain _ _ _ _ _ i.stands op.whole parts.1 c.if-op-eq-END.false (has_scope_spelled op.code op.scope op.body.now op.whole ∙ c.if-op.false); fits = i.fits; within = left_within (bytes_of c.in-Some.op) _ _ _ parts.1 i.within }

pub returns-then-depth-ne0-clause-refused : goal.returns-then-depth-ne0-clause-refused
returns-then-depth-ne0-clause-refused c =
    let i = c.loop-rest.invariant in
    rw c.at-then-depth-ne0.ensures (still_open _ _ _ i.stands i.within (nil_from_length _ (eqb-true _ _ (sym c.is_empty.ensures ∙ c.loop-rest-test.false))) c.if-depth-ne0.true)

pub returns-clause-spelled : goal.returns-clause-spelled
returns-clause-spelled c =
    let i = c.loop-rest.invariant in
    is_spelled _ _ _ i.stands (nil_from_length _ (eqb-true _ _ (sym c.is_empty.ensures ∙ c.loop-rest-test.false))) c.if-depth-ne0.false
