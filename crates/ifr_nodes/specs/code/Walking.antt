-- Where a walk through the nodes of a package stands, and which are before it.
use Rattle.std.specs.Prelude.{All, ◌≡◌, ℕ, ◌+◌, ◌-◌, ◌≤◌, ◌<◌, ◌^◌, Bool, true, nat_lt, ◌==◌, ◌&&◌, if◌then◌else◌, List, [], ◌∷◌, ◌++◌, length, take, drop, map}
use Rattle.std.specs.List.{concat, AllByRecursion, AllByRecursion-prop}
use Rattle.std.proofs.Props.{props}
use Rattle.ifr_opcodes.specs.Opcode.{has_scope, is_end, IsWhole}
use Rattle.ifr_opcodes.specs.code.Props.{IsWhole-prop}
use Rattle.ifr_opcodes.specs.Forest.{Ancestor, Node}
use Rattle.ifr_opcodes.specs.Reading.{opcodes_in}
use Rattle.ifr_opcodes.specs.code.Marks.{inside, mark_at, ancestor_at}

-- the nodes that stand first in these opcodes, inside of path, up to the END of the scope around them all
unfoldable pub scan : ℕ → List Ancestor → List (List ℕ) → List Node
scan at path [] = []
scan at path (op ∷ ops) =
    if is_end op then (if length path == 0 then []
    else scan (at + length op) (take (length path - 1) path) ops)
    else record { place = at; op = op; path = path; children = inside op ops }
    ∷ scan (at + length op) (if has_scope op
    then path ++ record { place = at; op = op; children = inside op ops } ∷ [] else path) ops

-- whether at most 64 scopes are open at once in them, where so many are around them
unfoldable pub is_shallow : ℕ → List (List ℕ) → Bool
is_shallow depth [] = true
is_shallow depth (op ∷ ops) =
    if is_end op then (if depth == 0 then true else is_shallow (depth - 1) ops)
    else (if has_scope op then nat_lt depth 64 && is_shallow (depth + 1) ops
    else is_shallow depth ops)

-- the nodes from a place on, inside of the scopes of the nodes at these places
abbrev pub nodes_left : List ℕ → ℕ → List ℕ → List Node
nodes_left bytes at around = scan at (map (ancestor_at bytes) around) (opcodes_in (drop at bytes))

-- From a place on there are whole opcodes, which open few scopes more than those around it.
pub record IsWalking (bytes : List ℕ) (at : ℕ) (around : List ℕ) : Type 0 where
  pub small : length bytes < 2 ^ 32
  pub within : at ≤ length bytes
  pub whole : AllByRecursion IsWhole (opcodes_in (drop at bytes))
  pub joined : concat (opcodes_in (drop at bytes)) ≡ drop at bytes
  pub opened : All (λ place. IsWhole (mark_at bytes place).op) around
  pub shallow : is_shallow (length around) (opcodes_in (drop at bytes)) ≡ true

all_whole_prop : (ops : List (List ℕ)) → IsProp (AllByRecursion IsWhole ops)
all_whole_prop ops = AllByRecursion-prop IsWhole IsWhole-prop ops

pub IsWalking-prop : (bytes : List ℕ) (at : ℕ) (around : List ℕ)
    → IsProp (IsWalking bytes at around)
IsWalking-prop bytes at around = hlevel (props, all_whole_prop, IsWhole-prop)
