use Rattle.std.proofs.Common.{arith}
use Rattle.hii_bytes.specs.Texts.{hex_of}
use Rattle.config_text.proofs.WriteLemmas.{one_more}
use Rattle.store_audit.proofs.header_lines.put_digits.Goals as goal

pub loop-byte-preserved : goal.loop-byte-preserved
loop-byte-preserved g c =
    one_more hex_of c.args.bytes.now c.loop-byte.byte-index (omega arith) c.loop-byte.invariant c.put_hex.ensures
