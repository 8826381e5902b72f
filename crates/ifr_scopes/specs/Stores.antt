-- What a form set's stores say of themselves (UEFI 2.8, 33.3.8.3, EFI_IFR_VARSTORE, EFI_IFR_VARSTORE_EFI and
-- EFI_IFR_VARSTORE_NAME_VALUE).
use Rattle.std.specs.Prelude.{ℕ, ◌==◌, if◌then◌else◌, Option, Some, None, List, []}
use Rattle.ifr_opcodes.specs.Opcode.{number}
use Rattle.ifr_opcodes.specs.Fields.{varstore_guid, varstore_id, varstore_size, varstore_name, varstore_efi_id, varstore_efi_guid, varstore_efi_size, varstore_efi_name, name_value_id, name_value_guid}
use Rattle.ifr_opcodes.specs.declared.codes.TheConstants.{VARSTORE, VARSTORE_EFI}

-- the id of a store
abbrev pub store_id : List ℕ → ℕ
store_id op =
    if number op == VARSTORE then varstore_id op
    else if number op == VARSTORE_EFI then varstore_efi_id op
    else name_value_id op

-- how many bytes a store holds; a store of names and values holds none
abbrev pub store_size : List ℕ → Option ℕ
store_size op =
    if number op == VARSTORE then Some (varstore_size op)
    else if number op == VARSTORE_EFI then Some (varstore_efi_size op)
    else None

-- its GUID
abbrev pub store_guid : List ℕ → List ℕ
store_guid op =
    if number op == VARSTORE then varstore_guid op
    else if number op == VARSTORE_EFI then varstore_efi_guid op
    else name_value_guid op

-- its name; a store of names and values has none
abbrev pub store_name : List ℕ → List ℕ
store_name op =
    if number op == VARSTORE then varstore_name op
    else if number op == VARSTORE_EFI then varstore_efi_name op
    else []
