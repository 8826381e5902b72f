use Rattle.std.proofs.Common.{◌≡◌, ◌∙◌, eqb, false}
use Rattle.std.proofs.lemmas.Bool.{ne_eqb}
use Rattle.hii_bytes.proofs.WritingLemmas.{◌⨾◌}
use Rattle.ifr_opcodes.specs.Fields.{numeric_step}
use Rattle.ifr_opcodes.specs.code.Ops.{bytes_of}
use Rattle.question_objects.proofs.limits.put_step.Goals as goal

pub returns : goal.returns
returns g c =
    let some : eqb (numeric_step (bytes_of c.args.op.op)) 0 ≡ false = ne_eqb _ _ (λ none. c.if-step-eq0.false (c.step.ensures ∙ none)) in
    rw some (c.put_member.ensures ⨾ (c.put.ensures ⨾ c.put_shown_step.ensures ⨾ c.put-2.ensures))
