-- How opcodes are told.
use Rattle.opcode_audit.specs.Lines as lines
use Rattle.opcode_audit.specs.declared.line.Setting.{Setting}

abbrev pub setting_of : Setting → lines.Setting
setting_of s = record { telling = s.telling; spoken = s.strings.now; base = s.base }
