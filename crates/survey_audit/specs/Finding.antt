-- Questions that are found by a text of theirs (own rule).
use Rattle.std.specs.Prelude.{ℕ, Bool, ◌==◌, ◌||◌, List, [], ◌∷◌, map}
use Rattle.std.specs.Char.{to_ascii_lowercase}
use Rattle.std.specs.List.{starts_with}
use Rattle.ifr_opcodes.specs.Fields.{statement_help, statement_prompt}
use Rattle.ifr_opcodes.specs.Forest.{Node}
use Rattle.question_audit.specs.Audited.{Audited}

-- a text with small letters of ASCII for its great ones
abbrev pub small : List ℕ → List ℕ
small text = map to_ascii_lowercase text

-- whether letters stand within others
abbrev pub has_within : List ℕ → List ℕ → Bool
has_within [] letters = starts_with ◌==◌ [] letters
has_within (c ∷ text) letters = starts_with ◌==◌ (c ∷ text) letters || has_within text letters

-- whether these small letters stand in the prompt or the help of a question, whose letters may be great ones
abbrev pub is_found : Audited → List ℕ → Node → Bool
is_found a letters n =
    has_within (small (a.texts (statement_prompt n.op))) letters
    || has_within (small (a.texts (statement_help n.op))) letters
