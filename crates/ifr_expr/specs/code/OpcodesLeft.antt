-- The opcodes that are left of an expression.
use Rattle.std.specs.Prelude.{List}
use Rattle.ifr_opcodes.specs.Forest.{Mark}
use Rattle.ifr_opcodes.specs.Reading.{opcodes_in}
use Rattle.ifr_expr.specs.code.Bytes.{to_end}
use Rattle.ifr_expr.specs.declared.opcodes.Opcodes.{Opcodes}

abbrev pub opcodes_left : Opcodes → List Mark
opcodes_left it = to_end it.place (opcodes_in it.rest.now)
