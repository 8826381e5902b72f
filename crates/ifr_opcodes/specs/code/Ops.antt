-- An opcode as the code holds it, seen as its place and its bytes.
use Rattle.std.specs.Prelude.{ℕ, List}
use Rattle.ifr_opcodes.specs.code.Props.{spelled}
use Rattle.ifr_opcodes.specs.Forest.{Mark}
use Rattle.ifr_opcodes.specs.declared.op.Op.{Op}

abbrev pub bytes_of : Op → List ℕ
bytes_of op = spelled op.code op.scope op.body.now

abbrev pub op_of : Op → Mark
op_of op = record { place = op.place; op = bytes_of op }
