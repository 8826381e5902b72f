use Rattle.std.proofs.Common.{◌≡◌, ◌+◌, ◌*◌, length, ◌++◌, ◌∷◌, get_or, drop, ap, sym, ◌∙◌, arith}
use Rattle.std.proofs.lemmas.List.{take_rest}
use Rattle.browser_rules.specs.Strings.{shown_unit, characters}
use Rattle.sibt_strings.proofs.UnitLemmas.{chars_more, chars_none}
use Rattle.sibt_strings.proofs.units.UnitCharsIterator.next.Goals as goal

pub returns-in-Some-clause-steps : goal.returns-in-Some-clause-steps
returns-in-Some-clause-steps c =
    let rest = c.loop-self.self.rest.now in
    let unit : get_or rest 0 0 + 256 * get_or rest 1 0 ≡ c.from_le_bytes.result = omega arith in
    sym c.loop-self.invariant ∙ chars_more rest c.in-len2-up.len_at_least
    ∙ ap (λ s. s ++ characters (drop 2 rest)) (ap shown_unit unit ∙ sym c.in-Some.ensures)
    ∙ ap (λ b. c.in-Some.c ∷ characters b) (sym (take_rest rest 2))

pub returns-in-Some-clause-goes : goal.returns-in-Some-clause-goes
returns-in-Some-clause-goes c =
    let steps = returns-in-Some-clause-steps c in
    record { on = λ finite. (tt, tt, omega (arith, ap length steps)); keeps = tt; rests = λ finite. tt }

pub loop-self-preserved : goal.loop-self-preserved
loop-self-preserved c =
    let rest = c.loop-self.self.rest.now in
    let unit : get_or rest 0 0 + 256 * get_or rest 1 0 ≡ c.from_le_bytes.result = omega arith in
    rw (take_rest rest 2)
    (sym (chars_more rest c.in-len2-up.len_at_least ∙ ap (λ s. s ++ characters (drop 2 rest)) (ap shown_unit unit ∙ sym c.in_default-char_of.ensures))
    ∙ c.loop-self.invariant)

pub returns-clause-steps : goal.returns-clause-steps
returns-clause-steps c =
    let none = chars_none c.loop-self.self.rest.now c.in_default.len_below in
    (sym c.loop-self.invariant ∙ none, none)
