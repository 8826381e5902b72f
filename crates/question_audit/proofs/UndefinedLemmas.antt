-- The guards whose conditions are undefined.
use Rattle.std.proofs.Common.{◌≡◌, ℕ, List, ◌∷◌, ◌++◌, sym, subst}
use Rattle.std.specs.Prelude.{codes}
use Rattle.hii_bytes.specs.Watching.{Pen, Writes}
use Rattle.hii_bytes.specs.Texts.{place_text}
use Rattle.ifr_opcodes.specs.Forest.{Node}
use Rattle.question_audit.specs.QuestionLines.{places_behind, undefined_text}

-- the text of a place
pub place_told : {a b : Pen} (n place : ℕ) → n ≡ place → Writes a b (place_text n) → Writes a b (place_text place)
place_told {a} {b} n place same written = subst (λ (p : ℕ). Writes a b (place_text p)) same written

-- the first of them, and those behind it
pub some_undefined : {a b : Pen} (gs later : List Node) (first : Node) → gs ≡ first ∷ later → Writes a b ((codes " undefined " ++ place_text first.place) ++ places_behind later) → Writes a b (undefined_text gs)
some_undefined {a} {b} gs later first e written = subst (λ (l : List Node). Writes a b (undefined_text l)) (sym e) written
