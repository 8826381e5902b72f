use Rattle.std.proofs.Common.{sym, ◌∙◌, inl, inr}
use Rattle.question_audit.proofs.limits_facts.put_shown_step.Goals as goal

pub returns-in-Hexadecimal : goal.returns-in-Hexadecimal
returns-in-Hexadecimal g c = rw (sym c.display.ensures ∙ c.in-Hexadecimal.is, sym c.step-step.ensures) c.put_shown_number.ensures

pub returns-in-Signed : goal.returns-in-Signed
returns-in-Signed g c =
    elim c.in-Signed.is [
      | inl signed ↦ rw (sym c.display.ensures ∙ signed, sym c.step-step.ensures) c.put_decimal.ensures
      | inr unsigned ↦ rw (sym c.display.ensures ∙ unsigned, sym c.step-step.ensures) c.put_decimal.ensures
    ]
