use Rattle.std.proofs.Common.{◌≡◌, ℕ, List, length, take}
use Rattle.hii_languages.specs.code.Names.{number_of, with_subtag}
use Rattle.hii_languages.proofs.languages.subtags_of.Given as goal

-- the string packages so far have names
abbrev pub invariant-loop-table : goal.invariant-loop-table
invariant-loop-table l = (length l.names.items ≡ l.table-index)
    × ((text : List ℕ) → number_of l.names.items text ≡ with_subtag (take l.table-index l.tables) text)
