use Rattle.std.proofs.Common.{◌≡◌, true, false, refl, subst, ◌∙◌, inr, Ok, Err}
use Rattle.hii_bytes.specs.Watching.{Flushes}
use Rattle.browser_core.specs.Run.{Runs}
use Rattle.session_steps.specs.declared.reply.End.TheVariants.{Done, TooLong}
use Rattle.session_steps.specs.declared.reply.RunFault.TheVariants.{Read}
use Rattle.setup_serving.specs.Serving.{Finished, ends_of, with_held}
use Rattle.setup_serving.specs.code.Endings.{IsImageTold, all_told}
use Rattle.setup_serving.proofs.ServingLemmas.{broken_serves, image_is, image_serves, passed}
use Rattle.setup_serving.proofs.serving.run.Goals as goal

pub returns-in_default-clause-serves : goal.returns-in_default-clause-serves
returns-in_default-clause-serves g c = λ given starts.
    let ran = c.run_script-ran in
    let at = ends_of g.R.Read.remaining g.A.Write.contents g.O.Write.contents in
    let before = all_told (at c.args.script.now c.args.answers.now c.args.out.now) in
    let mid = at ran.new.script ran.new.out c.args.out.now in
    let after = at ran.new.script c.pass_on.new.self c.args.out.now in
    let flushed : Flushes (with_held mid) (with_held after) = record {
      kept = c.in_default.ensures.bytes;
      counted = c.in_default.ensures.counted;
      after_fault = λ _. c.in_default.ensures.fault;
    } in
    broken_serves given c.args.session.now ran.new.self before mid after ran.result starts refl ran.ensures.run flushed c.in_default.ensures.fault

pub returns-in-Ok-Done-clause-serves : goal.returns-in-Ok-Done-clause-serves
returns-in-Ok-Done-clause-serves g c = λ given starts.
    let ran = c.run_script-ran in
    let at = ends_of g.R.Read.remaining g.A.Write.contents g.O.Write.contents in
    let before = all_told (at c.args.script.now c.args.answers.now c.args.out.now) in
    let mid = at ran.new.script ran.new.out c.args.out.now in
    let after = at ran.new.script c.pass_on.new.self c.write_image.new.out in
    let flushed : Flushes (with_held mid) (with_held after) = record {
      kept = c.in-Ok.ensures.bytes;
      counted = c.in-Ok.ensures.counted;
      after_fault = λ broken. let bad : false ≡ true = c.in-Ok.ensures.stays broken in (cc);
    } in
    let is : c.in-Ok-Done.field-0 ≡ Done = rw c.in-Ok-Done.is at c.in-Ok-Done.field-0-is in
    let runs = passed c.args.session.now ran.new.self before mid after ran.result c.in-Ok.ensures.empty ran.ensures.run flushed c.in-Ok.ensures.fault in
    let finished : Finished given before Done after = record {
      start = c.args.session.now;
      starts = starts;
      now = ran.new.self;
      finishes = subst (λ e. Runs c.args.session.now before.answers before.script (Ok e) ran.new.self after.answers after.script) is
          (subst (λ r. Runs c.args.session.now before.answers before.script r ran.new.self after.answers after.script) c.in-Ok-Done.is runs);
    } in
    image_serves given before after c.write_image.result finished
    (subst (λ image. IsImageTold image before.out c.write_image.result after.out) (c.committed.ensures.image ∙ image_is given before after Done finished) c.write_image.ensures.told)

pub returns-in-Ok-TooLong-clause-serves : goal.returns-in-Ok-TooLong-clause-serves
returns-in-Ok-TooLong-clause-serves g c = λ given starts.
    let ran = c.run_script-ran in
    let at = ends_of g.R.Read.remaining g.A.Write.contents g.O.Write.contents in
    let before = all_told (at c.args.script.now c.args.answers.now c.args.out.now) in
    let mid = at ran.new.script ran.new.out c.args.out.now in
    let after = at ran.new.script c.pass_on.new.self c.args.out.now in
    let flushed : Flushes (with_held mid) (with_held after) = record {
      kept = c.in-Ok.ensures.bytes;
      counted = c.in-Ok.ensures.counted;
      after_fault = λ broken. let bad : false ≡ true = c.in-Ok.ensures.stays broken in (cc);
    } in
    let is : c.in-Ok-TooLong.field-0 ≡ TooLong = rw c.in-Ok-TooLong.is at c.in-Ok-TooLong.field-0-is in
    let runs = passed c.args.session.now ran.new.self before mid after ran.result c.in-Ok.ensures.empty ran.ensures.run flushed c.in-Ok.ensures.fault in (
      refl,
      inr (record {
        start = c.args.session.now;
        starts = starts;
        now = ran.new.self;
        finishes = subst (λ e. Runs c.args.session.now before.answers before.script (Ok e) ran.new.self after.answers after.script) is
            (subst (λ r. Runs c.args.session.now before.answers before.script r ran.new.self after.answers after.script) c.in-Ok-TooLong.is runs);
      }),
    )

pub returns-in-Err-Read-clause-serves : goal.returns-in-Err-Read-clause-serves
returns-in-Err-Read-clause-serves g c = λ given starts.
    let ran = c.run_script-ran in
    let at = ends_of g.R.Read.remaining g.A.Write.contents g.O.Write.contents in
    let before = all_told (at c.args.script.now c.args.answers.now c.args.out.now) in
    let mid = at ran.new.script ran.new.out c.args.out.now in
    let after = at ran.new.script c.pass_on.new.self c.args.out.now in
    let flushed : Flushes (with_held mid) (with_held after) = record {
      kept = c.in-Ok.ensures.bytes;
      counted = c.in-Ok.ensures.counted;
      after_fault = λ broken. let bad : false ≡ true = c.in-Ok.ensures.stays broken in (cc);
    } in
    let is : c.in-Err-Read.field-0 ≡ Read = rw c.in-Err-Read.is at c.in-Err-Read.field-0-is in
    let runs = passed c.args.session.now ran.new.self before mid after ran.result c.in-Ok.ensures.empty ran.ensures.run flushed c.in-Ok.ensures.fault in (
      refl,
      c.args.session.now,
      ran.new.self,
      starts,
      subst (λ e. Runs c.args.session.now before.answers before.script (Err e) ran.new.self after.answers after.script) is
          (subst (λ r. Runs c.args.session.now before.answers before.script r ran.new.self after.answers after.script) c.in-Err-Read.is runs),
    )
