-- The buffer stores of a form set by place, found by their ids (own rule).
use Rattle.std.specs.Prelude.{◌≡◌, ℕ, ◌<◌, ◌^◌, ◌==◌, nat_eq, List, ◌∷◌, map, Option}
use Rattle.std.specs.List.{AllByRecursion, IsDistinct, position_from}
use Rattle.hii_bytes.specs.code.IdTables.{number_with}
use Rattle.hii_bytes.specs.declared.id_table.IdEntry.{IdEntry}
use Rattle.hii_varstore.specs.declared.buffer.Buffer.{Buffer}
use Rattle.hii_varstore.specs.Stores.{Store, buffer_of}

-- Ids and sizes have two bytes; no two stores have the same id, and none has the id 0 (UEFI 2.8, 33.3.8.3,
-- EFI_IFR_VARSTORE and EFI_IFR_VARSTORE_EFI).
pub record AreBuffers (buffers : List Buffer) : Type 0 where
  pub fit : AllByRecursion (λ b. (b.id < 2 ^ 16) × (b.size < 2 ^ 16)) buffers
  pub apart : IsDistinct nat_eq (0 ∷ map (λ b. b.id) buffers)

-- the place among the stores of the one of an id
abbrev pub place_of : List Buffer → ℕ → Option ℕ
place_of buffers id = position_from (λ b. b.id == id) 0 buffers

-- the places by id are those of the stores
pub record IsTable (buffers : List Buffer) (places : List IdEntry) : Type 0 where
  pub indexed : (id : ℕ) → number_with places id ≡ place_of buffers id
  pub sound : AreBuffers buffers

-- the stores of a table
pub record AreStores (buffers : List Buffer) (stores : List Store) : Type 0 where
  pub sound : AreBuffers buffers
  pub laid : map buffer_of stores ≡ buffers
