use Rattle.std.proofs.Common.{map}
use Rattle.hii_packages.specs.Packages.{packages_of}
use Rattle.dump_audit.proofs.ContentLemmas.{Gathers}
use Rattle.dump_audit.proofs.strings.ListStrings.read.Given as goal

-- what the string packages so far say is gathered
abbrev pub invariant-loop-source : goal.invariant-loop-source
invariant-loop-source l = Gathers (packages_of l.list) l.source-iterator (map (λ language. language.now) l.languages.items) l.first
