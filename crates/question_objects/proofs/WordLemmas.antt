-- What the expression of a condition says.
use Rattle.std.proofs.Common.{◌≡◌, ℕ, List, ap, ◌∙◌}
use Rattle.ifr_expr.specs.Trees.{Tree}
use Rattle.condition_text.specs.Senses.{sense}
use Rattle.condition_text.specs.Texts.{text}

-- these are the words of an expression that is that of a condition
pub words_over : {words : List ℕ} {asked tree : Tree} → words ≡ text (sense asked) → asked ≡ tree → words ≡ text (sense tree)
words_over said same = said ∙ ap (λ (t : Tree). text (sense t)) same
