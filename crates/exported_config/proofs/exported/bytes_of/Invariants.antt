use Rattle.std.proofs.Common.{◌≡◌, take, map}
use Rattle.exported_config.specs.Giving.{byte_of}
use Rattle.exported_config.proofs.exported.bytes_of.Given as goal

-- the characters so far
abbrev pub invariant-loop-character : goal.invariant-loop-character
invariant-loop-character l = l.bytes.items ≡ map byte_of (take l.character-index l.name)
