-- Some worked cases, computed from the definitions: questions by their fields, and passwords with a byte of a field.
use Rattle.std.proofs.Common.{◌≡◌, ℕ, Some, None, Option, List, [], ◌∷◌, refl}
use Rattle.std.specs.Prelude.{filter}
use Rattle.std.specs.List.{find}
use Rattle.ifr_opcodes.specs.Forest.{none}
use Rattle.ifr_opcodes.specs.declared.codes.TheConstants.{PASSWORD, STRING}
use Rattle.hii_questions.specs.Fields.{Field, Asked, has_field, is_password_in}

abbrev field : ℕ → ℕ → ℕ → Field
field store offset width = record { store = store; offset = offset; width = width }

-- a question of an opcode at a place
abbrev asked : ℕ → ℕ → Option Field → Asked
asked code place f = record { node = record { place = place; op = code ∷ []; path = []; children = none }; field = f }

-- Two texts have one field, and others meet it.
abbrev first : Asked
first = asked STRING 4 (Some (field 1 8 4))

abbrev second : Asked
second = asked STRING 60 (Some (field 1 8 4))

abbrev early : Asked
early = asked PASSWORD 20 (Some (field 1 6 4))

abbrev late : Asked
late = asked PASSWORD 40 (Some (field 1 10 4))

-- a password without bytes
abbrev empty : Asked
empty = asked PASSWORD 10 (Some (field 1 9 0))

abbrev all : List Asked
all = empty ∷ first ∷ early ∷ asked STRING 30 (Some (field 1 8 2)) ∷ asked STRING 35 (Some (field 2 8 4)) ∷ late ∷ asked PASSWORD 50 None ∷ second ∷ []

-- A field that is only met is no question's.
exact : (filter (has_field (field 1 8 4)) all ≡ first ∷ second ∷ []) × (filter (has_field (field 1 6 4)) all ≡ early ∷ []) × (filter (has_field (field 1 8 3)) all ≡ []) × (filter (has_field (field 1 9 1)) all ≡ [])
exact = (refl, refl, refl, refl)

-- The first password by place is met, also where it begins before the field; one that ends where the field begins is not, nor is
-- one without bytes.
met : (find (is_password_in (field 1 8 4)) all ≡ Some early) × (find (is_password_in (field 1 9 1)) all ≡ Some early) × (find (is_password_in (field 1 10 1)) all ≡ Some late)
    × (find (is_password_in (field 1 4 2)) all ≡ None) × (find (is_password_in (field 1 14 2)) all ≡ None) × (find (is_password_in (field 2 8 4)) all ≡ None)
met = (refl, refl, refl, refl, refl, refl)
