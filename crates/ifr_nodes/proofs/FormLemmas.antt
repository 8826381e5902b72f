-- The innermost form on a path.
use Rattle.std.proofs.Common.{◌≡◌, ℕ, eqb, Option, Some, None, List, [], ◌∷◌, refl, inl, inr}
use Rattle.std.specs.Prelude.{option_map, ◌==◌, if◌then◌else◌}
use Rattle.std.specs.List.{last_or}
use Rattle.std.proofs.lemmas.Bool.{cases_Bool}
use Rattle.ifr_opcodes.specs.declared.codes.TheConstants.{FORM}
use Rattle.ifr_opcodes.specs.Opcode.{number}
use Rattle.ifr_opcodes.specs.Forest.{Ancestor}
use Rattle.ifr_nodes.specs.Rules.{forms_among}

-- the place of the innermost form, or of one before
abbrev pub innermost : Option ℕ → List Ancestor → Option ℕ
innermost found [] = found
innermost found (a ∷ path) = innermost (if number a.op == FORM then Some a.place else found) path

abbrev place_of : Ancestor → ℕ
place_of a = a.place

innermost_last : (found : Option Ancestor) (path : List Ancestor) → innermost (option_map place_of found) path ≡ option_map place_of (last_or found (forms_among path))
innermost_last found [] = refl
innermost_last found (a ∷ path) = elim (cases_Bool (eqb (number a.op) FORM)) [
  | inl form ↦ rw form (innermost_last (Some a) path)
  | inr other ↦ rw other (innermost_last found path)
]

pub innermost_form : (path : List Ancestor) → innermost None path ≡ option_map (λ a. a.place) (last_or None (forms_among path))
innermost_form path = innermost_last None path
