use Rattle.std.proofs.Common.{take}
use Rattle.std.specs.List.{flat_map}
use Rattle.hii_bytes.specs.Watching.{pen_of, Writes}
use Rattle.hii_bytes.specs.Texts.{hex_of}
use Rattle.config_text.specs.code.PartReading.{group_numbers}
use Rattle.config_text.proofs.put_digits.put_pairs.Given as goal

-- the numbers so far were written
abbrev pub invariant-loop-place : goal.invariant-loop-place
invariant-loop-place g l = Writes (pen_of g.W.Write.contents l.fn.out) (pen_of g.W.Write.contents l.out) (flat_map hex_of (take l.place (group_numbers 2 l.digits)))
