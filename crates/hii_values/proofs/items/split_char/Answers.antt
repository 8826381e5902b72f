use Rattle.std.proofs.Common.{◌∷◌, List, ℕ, chars, sym, ap, ◌∙◌}
use Rattle.std.proofs.lemmas.Str.{chars_past_char}
use Rattle.hii_values.proofs.items.split_char.Goals as goal

pub returns : goal.returns
returns c =
    let first = c.in_ok-first.first in
    let rest = c.next.new.self.rest.now in
    chars_past_char c.args.text.now rest first c.utf8.text (sym c.chars-left.ensures.rest ∙ c.in_ok-first.ensures.steps.0)
    ∙ ap (λ (n : ℕ). n ∷ chars rest) (sym c.from.ensures) ∙ ap (λ (l : List ℕ). c.from.result ∷ chars l) (sym c.as_str.ensures)
