use Rattle.std.proofs.Common.{take}
use Rattle.std.specs.List.{flat_map}
use Rattle.hii_bytes.specs.Texts.{hex_of}
use Rattle.hii_bytes.specs.Watching.{Writes, pen_of}
use Rattle.store_audit.proofs.header_lines.put_digits.Given as goal

-- the bytes so far are written
abbrev pub invariant-loop-byte : goal.invariant-loop-byte
invariant-loop-byte g l =
    Writes (pen_of g.W.Write.contents l.fn.out) (pen_of g.W.Write.contents l.out) (flat_map hex_of (take l.byte-index l.bytes))
