-- What the opcode of a store says of its attributes (UEFI 2.8, 33.3.8.3, EFI_IFR_VARSTORE_EFI).
use Rattle.std.specs.Prelude.{ℕ, ◌==◌, if◌then◌else◌, List, codes}
use Rattle.ifr_opcodes.specs.Fields.{varstore_efi_attributes}
use Rattle.ifr_opcodes.specs.Opcode.{number}
use Rattle.ifr_opcodes.specs.declared.codes.TheConstants.{VARSTORE_EFI}
use Rattle.audit_text.specs.Words.{attributes_text}

-- the attributes of a variable, which only an EFI_IFR_VARSTORE_EFI has
abbrev pub store_attributes : List ℕ → List ℕ
store_attributes op =
    if number op == VARSTORE_EFI then attributes_text (varstore_efi_attributes op)
    else codes "-"
