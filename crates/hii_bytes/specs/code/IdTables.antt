-- What is found by ids of 16 bits.
use Rattle.std.specs.Prelude.{ℕ, ◌==◌, List, Option, option_map}
use Rattle.std.specs.List.{find}
use Rattle.hii_bytes.specs.declared.id_table.IdEntry.{IdEntry}

-- the number that the first entry of an id has
abbrev pub number_with : List IdEntry → ℕ → Option ℕ
number_with entries id = option_map (λ e. e.number) (find (λ e. e.id == id) entries)
