-- The places of a package's forms by their ids.
use Rattle.std.specs.Prelude.{◌≡◌, ℕ, Option, option_map, List}
use Rattle.hii_bytes.specs.code.IdTables.{number_with}
use Rattle.hii_bytes.specs.declared.id_table.IdEntry.{IdEntry}
use Rattle.ifr_opcodes.specs.Fields.{form_id}
use Rattle.ifr_opcodes.specs.Forest.{Node}
use Rattle.ifr_nodes.specs.ReferenceFaults.{form_with}

-- the place of the form of an id
abbrev pub form_place_with : List Node → ℕ → Option ℕ
form_place_with ns id = option_map (λ n. n.place) (form_with ns id)

-- a form with its place
abbrev pub form_entry : Node → IdEntry
form_entry n = record { id = form_id n.op; number = n.place }

-- these are the places of the forms of a package by their ids
abbrev pub AreFormEntries : List Node → List IdEntry → Type 0
AreFormEntries ns forms = (id : ℕ) → number_with forms id ≡ form_place_with ns id
