use Rattle.hii_packages.specs.Packages.{packages_of}
use Rattle.hii_languages.proofs.SpokenLemmas.{IsRead}
use Rattle.hii_languages.proofs.languages.Languages.read.Given as goal

-- the string packages so far say what the tables hold
abbrev pub invariant-loop-source : goal.invariant-loop-source
invariant-loop-source l = IsRead (packages_of l.list) l.tables.items l.source-iterator
