-- What nodes add to the tables.
use Rattle.std.proofs.Common.{◌≡◌, Bool, false, List, [], ◌∷◌, ◌++◌, append-nil, map, sym}
use Rattle.std.specs.Prelude.{filter}
use Rattle.ifr_opcodes.specs.Forest.{Node}

-- a node that is not of a kind adds nothing to its table
pub nothing_added : {X : Type 0} (is : Node → Bool) (f : Node → X) (n : Node) (old : List X) → is n ≡ false → old ≡ old ++ map f (filter is (n ∷ []))
nothing_added is f n old other = rw other (sym (append-nil old))
