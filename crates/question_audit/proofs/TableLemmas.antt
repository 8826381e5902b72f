-- What is kept of the guards of a package.
use Rattle.std.proofs.Common.{◌≡◌, ℕ, Bool, List, length, map, sym, ap, ◌∙◌}
use Rattle.std.proofs.lemmas.List.{length-map}
use Rattle.ifr_opcodes.specs.Forest.{Node}
use Rattle.ifr_nodes.specs.Guards.{guards_among}
use Rattle.ifr_nodes.specs.Nodes.{nodes_of}

-- flags of all guards are those of the guards of the same package
pub flags_there : (flag : Node → Bool) (bytes own : List ℕ) (flags : List Bool) → flags ≡ map flag (guards_among (nodes_of bytes)) → own ≡ bytes → flags ≡ map flag (guards_among (nodes_of own))
flags_there flag bytes own flags e same = e ∙ ap (λ (b : List ℕ). map flag (guards_among (nodes_of b))) (sym same)

pub flags_all : (flag : Node → Bool) (bytes own : List ℕ) (flags : List Bool) → flags ≡ map flag (guards_among (nodes_of bytes)) → own ≡ bytes → length flags ≡ length (guards_among (nodes_of own))
flags_all flag bytes own flags e same =
    ap (λ (l : List Bool). length l) (flags_there flag bytes own flags e same) ∙ length-map (guards_among (nodes_of own)) flag
