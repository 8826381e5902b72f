use Rattle.std.proofs.Common.{arith}
use Rattle.browser_rules.specs.Configuration.{four_digits}
use Rattle.config_text.proofs.WriteLemmas.{one_more}
use Rattle.store_audit.proofs.header_lines.put_characters.Goals as goal

pub loop-byte-preserved : goal.loop-byte-preserved
loop-byte-preserved g c =
    one_more four_digits c.args.name.now c.loop-byte.byte-index (omega arith) c.loop-byte.invariant c.put_character.ensures
