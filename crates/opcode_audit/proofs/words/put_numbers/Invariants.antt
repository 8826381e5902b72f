use Rattle.std.proofs.Common.{length}
use Rattle.std.specs.List.{flat_map}
use Rattle.browser_rules.specs.Opcodes.{two_byte_numbers}
use Rattle.hii_bytes.specs.Watching.{pen_of}
use Rattle.hii_bytes.specs.code.Writing.{Stands}
use Rattle.opcode_audit.specs.Words.{behind_comma, numbers_text}
use Rattle.opcode_audit.proofs.words.put_numbers.Given as goal

-- the numbers before the rest are written
abbrev pub invariant-loop-rest : goal.invariant-loop-rest
invariant-loop-rest g l = Stands (pen_of g.W.Write.contents l.fn.out) (pen_of g.W.Write.contents l.out) (numbers_text (two_byte_numbers l.bytes)) (flat_map behind_comma (two_byte_numbers l.rest))

abbrev pub decreases-loop-rest : goal.decreases-loop-rest
decreases-loop-rest g l = length l.rest
