use Rattle.std.proofs.Common.{◌∙◌, ap, sym, length, refl}
use Rattle.std.proofs.lemmas.Bool.{ltb-true, ltb-false}
use Rattle.std.proofs.lemmas.List.{take_all}
use Rattle.hii_commands.specs.code.Held.{Held}
use Rattle.hii_commands.proofs.line.LineBuffer.line.Goals as goal

pub returns-then-self : goal.returns-then-self
returns-then-self c = λ line h.
    (ltb-true 4096 (length line) (sym (ap (λ (w : Held). w.more) (c.self.view_is ∙ h)) ∙ c.if-self.true), refl)

pub returns-else-self : goal.returns-else-self
returns-else-self c = λ line h.
    let is = c.self.view_is ∙ h in
    let short = ltb-false 4096 (length line) (sym (ap (λ (w : Held). w.more) is) ∙ c.if-self.false) in
    (short, c.as_slice.ensures.value ∙ ap (λ (w : Held). w.front) is ∙ take_all 4096 line short)
