-- Which buffer stores a form set has (UEFI 2.8, 33.3.8.3, EFI_IFR_VARSTORE and EFI_IFR_VARSTORE_EFI).
use Rattle.std.specs.Prelude.{ℕ, ◌==◌, List, Option, option_map}
use Rattle.std.specs.List.{find}
use Rattle.hii_varstore.specs.declared.buffer.Buffer.{Buffer}

-- the form set's GUID, and its buffer stores by place
pub record Shape : Type 0 where
  pub guid : List ℕ
  pub buffers : List Buffer

-- how many bytes the store of an id holds
abbrev pub size_of : Shape → ℕ → Option ℕ
size_of shape id = option_map (λ b. b.size) (find (λ b. b.id == id) shape.buffers)
