-- What is kept of the string packages of a list.
use Rattle.std.specs.Prelude.{ℕ, ◌==◌, if◌then◌else◌, Option, None, Some, option_map, unwrap_or, List, [], ◌∷◌, map, slice_get, decimal}
use Rattle.browser_rules.specs.Strings.{Spoken, text_at, characters}

-- the languages of the string packages, in order, and what the first says
pub record Heard : Type 0 where
  pub languages : List (List ℕ)
  pub first : Option Spoken

abbrev pub heard_of : List Spoken → Heard
heard_of spoken = record {
  languages = map (λ s. s.language) spoken;
  first = slice_get spoken 0;
}

-- the text of a string id in the first string package, if there is one
abbrev pub text_in_first : Option Spoken → ℕ → Option (List ℕ)
text_in_first None id = None
text_in_first (Some spoken) id = text_at spoken.texts id

-- the characters that are shown of a string id by it
abbrev pub shown_in_first : Option Spoken → ℕ → List ℕ
shown_in_first first id =
    if id == 0 then [] else unwrap_or (option_map characters (text_in_first first id)) (35 ∷ decimal id)
