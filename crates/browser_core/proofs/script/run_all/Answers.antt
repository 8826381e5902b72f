use Rattle.std.proofs.Common.{◌≡◌, refl, inl, inr, ◌+◌, ◌-◌, ◌≤◌, ◌<◌, ◌∙◌, min, not, length, arith, ap, rules}
use Rattle.browser_rules.specs.Script.{SCRIPT_LIMIT}
use Rattle.browser_core.specs.Run.{PIECE}
use Rattle.browser_core.proofs.RunLemmas.{stands_passing, stops_passing, overflows_at_once, reads_none, consumes_none, reads_within, reads_more, breaks_off, finishes, overflows_last, overflows_piece, finishes_past, overflows_past}
use Rattle.session_steps.proofs.FlushLemmas.{writes_flushed}
use Rattle.browser_core.proofs.script.run_all.Goals as goal

pub returns-then-not-passes_on-clause-run : goal.returns-then-not-passes_on-clause-run
returns-then-not-passes_on-clause-run g c = overflows_at_once c.args.core.now _ _ _ c.passes_on.ensures.flushes (c.passes_on.ensures.fault ∙ ap not c.if-not-passes_on.true)

pub loop-count-init : goal.loop-count-init
loop-count-init g c = (
  reads_none c.args.core.now _ _ _ c.clear.new.self c.clear.ensures c.passes_on.ensures.flushes (c.passes_on.ensures.fault ∙ ap not c.if-not-passes_on.false),
  inl refl,
  c.passes_on.ensures.passed_on c.if-not-passes_on.false,
)

pub loop-count-preserved : goal.loop-count-preserved
loop-count-preserved g c =
    let so_far = c.loop-count.invariant.0 in
    let within : c.loop-count.count ≤ SCRIPT_LIMIT = omega (arith, c.loop-count-test.true) in
    let room : c.in-Ok.n ≤ length c.read_piece.new.buf = c.in-Ok.ensures.bound.0 in
    let long : length c.read_piece.new.buf ≡ c.min-room.result = search rules in
    let few : c.loop-count.count + c.in-Ok.n ≤ (SCRIPT_LIMIT + 1) = omega (arith, room, long, c.min-room.ensures, within) in
    let least : c.min-within.result ≡ min c.in-Ok.n (SCRIPT_LIMIT - c.loop-count.count) = c.min-within.ensures in (
      reads_more _ _ _ _ _ _ _ _ _ c.loop-count.count c.in-Ok.n c.min-within.result c.read_piece.new.buf _ _ so_far within room few least c.in-Ok.ensures.bytes.0
          (stands_passing _ _ _ _ _ _ _ (c.run_piece.ensures.stands _ _ so_far.bytes (reads_within _ _ _ _ _ _ _ _ so_far within)) c.passes_on-in-loop-count.ensures.flushes
          (c.passes_on-in-loop-count.ensures.fault ∙ ap not c.if-not-passes_on-2.false)),
      inr c.in-Ok.ensures.fault,
      c.passes_on-in-loop-count.ensures.passed_on c.if-not-passes_on-2.false,
    )

pub returns-in_default-clause-run : goal.returns-in_default-clause-run
returns-in_default-clause-run g c =
    let so_far = c.loop-count.invariant.0 in
    let within : c.loop-count.count ≤ SCRIPT_LIMIT = omega (arith, c.loop-count-test.true) in
    breaks_off _ _ _ _ _ _ _ so_far.bytes _ so_far.consumed (omega (arith, so_far.counted)) (reads_within _ _ _ _ _ _ _ _ so_far within) c.in_default.ensures.bytes

pub returns-else-passes_on-clause-run : goal.returns-else-passes_on-clause-run
returns-else-passes_on-clause-run g c =
    let so_far = c.loop-count.invariant.0 in
    let within : c.loop-count.count ≤ SCRIPT_LIMIT = omega (arith, c.loop-count-test.true) in
    let stands = reads_within _ _ _ _ _ _ _ _ so_far within in
    let consumed = consumes_none _ _ _ so_far.bytes c.read_piece.new.buf c.in-Ok.n so_far.consumed c.in-Ok.ensures.bytes.0 c.if-n-eq0.true in
    let long : length c.read_piece.new.buf ≡ c.min-room.result = search rules in
    let some : 0 < length c.read_piece.new.buf = omega (arith, long, c.min-room.ensures, within) in
    overflows_last _ _ _ _ _ _ _ _ _ so_far.bytes _ consumed (omega (arith, so_far.counted, within)) (c.in-Ok.ensures.bytes.1 c.if-n-eq0.true some) stands (c.run_line.ensures.shown _ stands.line_is) (c.run_line.ensures.text _ stands.line_is)
    c.passes_on-then-n-eq0.ensures.flushes (c.passes_on-then-n-eq0.ensures.fault ∙ ap not c.if-passes_on.false)

pub returns-then-passes_on-clause-run : goal.returns-then-passes_on-clause-run
returns-then-passes_on-clause-run g c =
    let so_far = c.loop-count.invariant.0 in
    let within : c.loop-count.count ≤ SCRIPT_LIMIT = omega (arith, c.loop-count-test.true) in
    let stands = reads_within _ _ _ _ _ _ _ _ so_far within in
    let consumed = consumes_none _ _ _ so_far.bytes c.read_piece.new.buf c.in-Ok.n so_far.consumed c.in-Ok.ensures.bytes.0 c.if-n-eq0.true in
    let long : length c.read_piece.new.buf ≡ c.min-room.result = search rules in
    let some : 0 < length c.read_piece.new.buf = omega (arith, long, c.min-room.ensures, within) in
    let sound = c.passes_on-then-n-eq0.ensures.fault ∙ ap not c.if-passes_on.true in
    finishes _ _ _ _ _ _ _ _ so_far.bytes _ consumed (omega (arith, so_far.counted, within)) (c.in-Ok.ensures.bytes.1 c.if-n-eq0.true some) stands
    (c.run_line.ensures.shown _ stands.line_is) (writes_flushed (c.run_line.ensures.text _ stands.line_is) c.passes_on-then-n-eq0.ensures.flushes sound) sound

pub returns-then-not-passes_on-2-clause-run : goal.returns-then-not-passes_on-2-clause-run
returns-then-not-passes_on-2-clause-run g c =
    let so_far = c.loop-count.invariant.0 in
    let within : c.loop-count.count ≤ SCRIPT_LIMIT = omega (arith, c.loop-count-test.true) in
    let room : c.in-Ok.n ≤ length c.read_piece.new.buf = c.in-Ok.ensures.bound.0 in
    let long : length c.read_piece.new.buf ≡ c.min-room.result = search rules in
    let few : c.loop-count.count + c.in-Ok.n ≤ (SCRIPT_LIMIT + 1) = omega (arith, room, long, c.min-room.ensures, within) in
    let one : c.in-Ok.n ≤ PIECE = omega (arith, room, long, c.min-room.ensures) in
    let least : c.min-within.result ≡ min c.in-Ok.n (SCRIPT_LIMIT - c.loop-count.count) = c.min-within.ensures in
    let stands = reads_within _ _ _ _ _ _ _ _ so_far within in
    overflows_piece _ _ _ _ _ _ _ _ _ c.loop-count.count c.in-Ok.n c.min-within.result c.read_piece.new.buf _ so_far within room few one least c.in-Ok.ensures.bytes.0
    (stops_passing _ _ _ _ _ so_far.bytes _ _ (c.run_piece.ensures.stands _ _ so_far.bytes stands) (c.run_piece.ensures.stops _ _ so_far.bytes stands)
    c.passes_on-in-loop-count.ensures.flushes (c.passes_on-in-loop-count.ensures.fault ∙ ap not c.if-not-passes_on-2.true))

pub returns-else-passes_on-2-clause-run : goal.returns-else-passes_on-2-clause-run
returns-else-passes_on-2-clause-run g c = overflows_past _ _ _ _ _ _ _ _ c.loop-count.count _ c.loop-count.invariant.0 (omega arith) c.put_refusal.ensures
    c.passes_on-2.ensures.flushes (c.passes_on-2.ensures.fault ∙ ap not c.if-passes_on-2.false)

pub returns-then-passes_on-2-clause-run : goal.returns-then-passes_on-2-clause-run
returns-then-passes_on-2-clause-run g c =
    let sound = c.passes_on-2.ensures.fault ∙ ap not c.if-passes_on-2.true in
    finishes_past _ _ _ _ _ _ _ c.loop-count.count _ c.loop-count.invariant.0 (omega arith) (writes_flushed c.put_refusal.ensures c.passes_on-2.ensures.flushes sound) sound

pub returns-then-passes_on-2-clause-sound : goal.returns-then-passes_on-2-clause-sound
returns-then-passes_on-2-clause-sound g c = elim c.loop-count.invariant.1 [
  | inl none ↦ absurd (omega (arith, none))
  | inr sound ↦ sound
]
