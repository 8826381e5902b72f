-- The fields of options and defaults (UEFI 2.8, 33.3.8.3 Opcode Reference, under the name of each).
use Rattle.std.specs.Prelude.{ℕ, Bool, ◌==◌, if◌then◌else◌, List, take, drop}
use Rattle.browser_rules.specs.Opcodes.{field, type_width, DEFAULT, ONE_OF_OPTION}
use Rattle.hii_bytes.specs.Numbers.{number_in}
use Rattle.ifr_opcodes.specs.QuestionFields.{has_flag}
use Rattle.ifr_opcodes.specs.declared.kinds.TheConstants.{TYPE_BUFFER}

-- EFI_IFR_ONE_OF_OPTION; its Type tells how many bytes its value has
abbrev pub option_text : List ℕ → ℕ
option_text op = field ONE_OF_OPTION "Option" op

abbrev pub option_flags : List ℕ → ℕ
option_flags op = field ONE_OF_OPTION "Flags" op

abbrev pub option_kind : List ℕ → ℕ
option_kind op = field ONE_OF_OPTION "Type" op

abbrev pub option_value : List ℕ → ℕ
option_value op = number_in op 6 (type_width (option_kind op))

-- EFI_IFR_OPTION_DEFAULT
abbrev pub is_default_option : List ℕ → Bool
is_default_option op = has_flag (option_flags op) 0x10

-- EFI_IFR_OPTION_DEFAULT_MFG
abbrev pub is_manufacturing_option : List ℕ → Bool
is_manufacturing_option op = has_flag (option_flags op) 0x20

-- EFI_IFR_DEFAULT; its Type tells how many bytes its value has
abbrev pub default_id : List ℕ → ℕ
default_id op = field DEFAULT "DefaultId" op

abbrev pub default_kind : List ℕ → ℕ
default_kind op = field DEFAULT "Type" op

abbrev pub default_value : List ℕ → List ℕ
default_value op =
    if default_kind op == TYPE_BUFFER then drop 5 op
    else take (type_width (default_kind op)) (drop 5 op)
