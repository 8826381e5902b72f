use Rattle.std.proofs.Common.{◌≡◌, ◌==◌, ℕ, true, false, ap, subst, sym, ◌∙◌}
use Rattle.std.proofs.lemmas.Bool.{cond-false, cond-true, ne_eqb}
use Rattle.hii_bytes.specs.Cause.{number_of}
use Rattle.hii_bytes.specs.Watching.{Writes}
use Rattle.hii_bytes.specs.declared.cause.Cause.TheVariants.{BadCommand, LineTooLong}
use Rattle.script_audit.proofs.reasons.put_cause.Goals as goal

pub returns-then-number-2 : goal.returns-then-number-2
returns-then-number-2 g c =
    let bad : number_of c.args.cause == number_of BadCommand ≡ false = ne_eqb _ _ (λ e. c.if-number.false (c.number.ensures ∙ e ∙ sym c.number-2.ensures)) in
    let long : number_of c.args.cause == number_of LineTooLong ≡ true =
    ap (λ (n : ℕ). n == number_of LineTooLong) (sym c.number-else-number.ensures ∙ c.if-number-2.true ∙ c.number-else-number-2.ensures) in
    subst (Writes _ _) (sym (cond-false _ _ _ bad ∙ cond-true _ _ _ long)) c.put.ensures

pub returns-else-number-2 : goal.returns-else-number-2
returns-else-number-2 g c =
    let bad : number_of c.args.cause == number_of BadCommand ≡ false = ne_eqb _ _ (λ e. c.if-number.false (c.number.ensures ∙ e ∙ sym c.number-2.ensures)) in
    let long : number_of c.args.cause == number_of LineTooLong ≡ false = ne_eqb _ _ (λ e. c.if-number-2.false (c.number-else-number.ensures ∙ e ∙ sym c.number-else-number-2.ensures)) in
    subst (Writes _ _) (sym (cond-false _ _ _ bad ∙ cond-false _ _ _ long)) c.put-else-number-2.ensures
