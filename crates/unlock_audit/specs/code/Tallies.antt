-- Tries as they are counted.
use Rattle.std.specs.Prelude.{option_map}
use Rattle.unlock_audit.specs.Tries as spec
use Rattle.unlock_audit.specs.code.Counting.{Tally}
use Rattle.unlock_audit.specs.declared.tries.Tally as code
use Rattle.unlock_audit.specs.declared.tries.Try.{Try}
use Rattle.unlock_audit.specs.declared.tries.Try.TheVariants.{Commands, Write}

abbrev pub try_meant : Try → spec.Try
try_meant (Commands list) = spec.commands list.items
try_meant (Write each) = spec.write each

abbrev pub tally_meant : code.Tally → Tally spec.Try
tally_meant t = record { left = t.left; tried = t.tried; found = option_map try_meant t.found }
