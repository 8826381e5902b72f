use Rattle.std.proofs.Common.{arith, subst, sym}
use Rattle.hii_bytes.specs.Watching.{Writes}
use Rattle.hii_bytes.proofs.WritingLemmas.{◌⨾◌}
use Rattle.store_audit.proofs.HeaderLemmas.{character_is}
use Rattle.store_audit.proofs.header_lines.put_character.Goals as goal

pub returns : goal.returns
returns g c = subst (Writes _ _) (sym (character_is c.args.byte (omega arith))) (c.put_hex.ensures ⨾ c.put_hex-2.ensures)
