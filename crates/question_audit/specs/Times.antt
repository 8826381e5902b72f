-- When conditions decide (own rule; a DISABLE_IF is decided when the form set is opened, UEFI 2.8, 33.3.8.3, EFI_IFR_DISABLE_IF).
use Rattle.std.specs.Prelude.{◌==◌, not, Bool}
use Rattle.ifr_opcodes.specs.Forest.{Node}
use Rattle.ifr_opcodes.specs.Opcode.{number}
use Rattle.ifr_opcodes.specs.declared.codes.TheConstants.{DISABLE_IF}
use Rattle.question_audit.specs.declared.when.When.{When}
use Rattle.question_audit.specs.declared.when.When.TheVariants.{AtCommands, AtOpening}

-- whether the condition of a guard decides then
abbrev pub counts_when : When → Node → Bool
counts_when AtCommands g = not (number g.op == DISABLE_IF)
counts_when AtOpening g = number g.op == DISABLE_IF
