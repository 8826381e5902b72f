-- The fields of stores and of classes of defaults (UEFI 2.8, 33.3.8.3 Opcode Reference, under the name of each).
use Rattle.std.specs.Prelude.{ℕ, Bool, ◌==◌, List}
use Rattle.browser_rules.specs.Opcodes.{field, bytes_in, name_behind, row, DEFAULTSTORE, VARSTORE, VARSTORE_EFI, VARSTORE_NAME_VALUE}

abbrev pub is_nul : ℕ → Bool
is_nul byte = byte == 0

-- EFI_IFR_VARSTORE; its name ends with a NUL
abbrev pub varstore_guid : List ℕ → List ℕ
varstore_guid op = bytes_in (row VARSTORE).layout "Guid" op

abbrev pub varstore_id : List ℕ → ℕ
varstore_id op = field VARSTORE "VarStoreId" op

abbrev pub varstore_size : List ℕ → ℕ
varstore_size op = field VARSTORE "Size" op

abbrev pub varstore_name : List ℕ → List ℕ
varstore_name op = name_behind (row VARSTORE).layout op

-- EFI_IFR_VARSTORE_EFI; its name ends with a NUL
abbrev pub varstore_efi_id : List ℕ → ℕ
varstore_efi_id op = field VARSTORE_EFI "VarStoreId" op

abbrev pub varstore_efi_guid : List ℕ → List ℕ
varstore_efi_guid op = bytes_in (row VARSTORE_EFI).layout "Guid" op

abbrev pub varstore_efi_attributes : List ℕ → ℕ
varstore_efi_attributes op = field VARSTORE_EFI "Attributes" op

abbrev pub varstore_efi_size : List ℕ → ℕ
varstore_efi_size op = field VARSTORE_EFI "Size" op

abbrev pub varstore_efi_name : List ℕ → List ℕ
varstore_efi_name op = name_behind (row VARSTORE_EFI).layout op

-- EFI_IFR_VARSTORE_NAME_VALUE
abbrev pub name_value_id : List ℕ → ℕ
name_value_id op = field VARSTORE_NAME_VALUE "VarStoreId" op

abbrev pub name_value_guid : List ℕ → List ℕ
name_value_guid op = bytes_in (row VARSTORE_NAME_VALUE).layout "Guid" op

-- EFI_IFR_DEFAULTSTORE
abbrev pub defaultstore_name : List ℕ → ℕ
defaultstore_name op = field DEFAULTSTORE "DefaultName" op

abbrev pub defaultstore_id : List ℕ → ℕ
defaultstore_id op = field DEFAULTSTORE "DefaultId" op
