-- The forms of a package by their ids.
use Rattle.std.proofs.Common.{◌≡◌, ℕ, eqb, Option, Some, None, List, [], ◌∷◌, map, refl, inl, inr}
use Rattle.std.specs.Prelude.{is_some, option_map, filter}
use Rattle.std.specs.List.{list_any}
use Rattle.std.proofs.lemmas.Bool.{cases_Bool}
use Rattle.hii_bytes.specs.code.IdTables.{number_with}
use Rattle.ifr_opcodes.specs.Fields.{form_id}
use Rattle.ifr_opcodes.specs.Forest.{Node}
use Rattle.ifr_nodes.specs.Nodes.{is_form}
use Rattle.ifr_nodes.specs.ReferenceFaults.{form_with, has_form_id}
use Rattle.ifr_nodes.specs.code.FormIds.{form_place_with, form_entry}

-- the place that is kept with an id is that of the first form of it
pub place_with : (ns : List Node) (id : ℕ) → number_with (map form_entry (filter is_form ns)) id ≡ form_place_with ns id
place_with [] id = refl
place_with (n ∷ ns) id = elim (cases_Bool (is_form n)) [
  | inl is ↦ elim (cases_Bool (eqb (form_id n.op) id)) [
    | inl here ↦ rw (is, here) refl
    | inr other ↦ rw (is, other) (place_with ns id)
  ]
  | inr other ↦ rw other (place_with ns id)
]

-- none of an id has no place
pub none_with : (ns : List Node) (id : ℕ) → ◌≡◌ {A = Option ℕ} None (form_place_with ns id) → ◌≡◌ {A = Option Node} None (form_with ns id)
none_with ns id e = go (form_with ns id) e
  where
    go : (o : Option Node) → ◌≡◌ {A = Option ℕ} None (option_map (λ (n : Node). n.place) o) → ◌≡◌ {A = Option Node} None o
    go None e = refl
    go (Some n) e = absurd cc

-- a form of an id has a place
pub some_with : (ns : List Node) (id : ℕ) → is_some (form_place_with ns id) ≡ list_any (has_form_id id) ns
some_with [] id = refl
some_with (n ∷ ns) id = elim (cases_Bool (has_form_id id n)) [ inl is ↦ rw is refl | inr other ↦ rw other (some_with ns id) ]
