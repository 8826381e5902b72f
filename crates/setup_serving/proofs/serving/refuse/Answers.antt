use Rattle.std.proofs.Common.{◌≢◌, rules, refl, inl}
use Rattle.std.specs.Io.Buffered.{writer_contents}
use Rattle.hii_bytes.specs.Watching.{Flushes, pen_of}
use Rattle.hii_bytes.specs.declared.cause.Cause.TheVariants.{OutOfMemory}
use Rattle.session_steps.proofs.FlushLemmas.{breaks_flushed}
use Rattle.setup_serving.proofs.serving.refuse.Goals as goal

pub returns-in-Err-pass_on-clause-told : goal.returns-in-Err-pass_on-clause-told
returns-in-Err-pass_on-clause-told g c =
    let other : c.args.fault.cause ≢ OutOfMemory = search rules in
    let flushed : Flushes (pen_of (writer_contents g.A.Write.contents) c.put_refusal_at.new.out) (pen_of (writer_contents g.A.Write.contents) c.pass_on-else-eq.new.self) = record {
      kept = c.in-Err-pass_on.ensures.bytes;
      counted = c.in-Err-pass_on.ensures.counted;
      after_fault = λ _. c.in-Err-pass_on.ensures.fault;
    } in
    inl (other, (breaks_flushed _ c.put_refusal_at.ensures flushed c.in-Err-pass_on.ensures.fault refl).0)
