use Rattle.std.proofs.Common.{◌≡◌, take, drop}
use Rattle.browser_rules.specs.Strings.{language_in}
use Rattle.sibt_strings.proofs.BlockLemmas.{language_behind}
use Rattle.sibt_strings.proofs.blocks.language_at.Given as goal

abbrev pub invariant-loop-i : goal.invariant-loop-i
invariant-loop-i l = language_behind (take l.i l.bytes) (language_in (drop l.i l.bytes)) ≡ language_in l.bytes
