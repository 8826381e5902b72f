-- How a script is cut into lines, from any pieces (own rule).
use Rattle.std.specs.Prelude.{◌≡◌, ◌≢◌, ℕ, List, [], ◌∷◌, ◌++◌, map}
use Rattle.std.specs.List.{AllByRecursion, concat}
use Rattle.browser_rules.specs.Script.{cut_lines}

-- none of the bytes is this one
abbrev pub Lacks : ℕ → List ℕ → Type 0
Lacks byte bytes = AllByRecursion (λ b. b ≢ byte) bytes

-- no byte ends a line
abbrev pub IsWithinLine : List ℕ → Type 0
IsWithinLine bytes = Lacks 10 bytes

-- The bytes are these lines, each with an LF behind it, and a rest without one.
pub record AreLines (bytes : List ℕ) (lines : List (List ℕ)) (rest : List ℕ) : Type 0 where
  pub each : AllByRecursion IsWithinLine lines
  pub last : IsWithinLine rest
  pub whole : bytes ≡ concat (map (λ line. line ++ 10 ∷ []) lines) ++ rest

-- what two pieces are cut into, of which the second goes on where the first ends
abbrev pub joined : List (List ℕ) × List ℕ → List (List ℕ) × List ℕ → List (List ℕ) × List ℕ
joined (lines, rest) ([], last) = (lines, rest ++ last)
joined (lines, rest) (line ∷ others, last) = (lines ++ (rest ++ line) ∷ others, last)

-- what pieces are cut into, each by itself and then joined
abbrev pub cut_pieces : List (List ℕ) → List (List ℕ) × List ℕ
cut_pieces [] = ([], [])
cut_pieces (piece ∷ pieces) = joined (cut_lines piece) (cut_pieces pieces)
