-- What is kept of the conditions of a package (own rule).
use Rattle.std.specs.Prelude.{ℕ, ◌+◌, ◌-◌, ◌^◌, ◌==◌, min, Bool, false, Option, Some, None, List, map, filter}
use Rattle.std.specs.List.{find}
use Rattle.ifr_opcodes.specs.Forest.{Node}
use Rattle.ifr_nodes.specs.Nodes.{nodes_of}
use Rattle.hii_varstore.specs.Stores.{StoreMap}
use Rattle.guard_policy.specs.Conditions.{is_kept}
use Rattle.guard_policy.specs.World.{is_met_over}
use Rattle.kept_conditions.specs.Touching.{difference, renewals}

-- the conditions that are kept: those of SUPPRESS_IFs, GRAY_OUT_IFs and NO_SUBMIT_IFs, by place
abbrev pub kept_nodes : List Node → List Node
kept_nodes ns = filter is_kept ns

-- what is kept of a condition: the place of its opcode, and whether it holds
pub record Told : Type 0 where
  pub place : ℕ
  pub holds : Bool

-- what is kept of the condition at a place; nothing holds where none is kept
abbrev pub holds_if : Option Told → Bool
holds_if None = false
holds_if (Some t) = t.holds

abbrev pub held : List Told → ℕ → Bool
held values place = holds_if (find (λ (t : Told). t.place == place) values)

-- the bytes of a package, and what is kept of its conditions
pub record KeptValues : Type 0 where
  pub ifr : List ℕ
  pub values : List Told

-- what is kept over some stores
abbrev pub told : List Node → StoreMap → Node → Told
told ns stores c = record { place = c.place; holds = is_met_over ns stores c }

abbrev pub told_over : List ℕ → StoreMap → List Told
told_over ifr stores = map (told (nodes_of ifr) stores) (kept_nodes (nodes_of ifr))

abbrev pub kept_over : List ℕ → StoreMap → KeptValues
kept_over ifr stores = record { ifr = ifr; values = told_over ifr stores }

-- the bytes of a package, stores over which its conditions are kept, and how many of them were evaluated anew since counting began
pub record KeptMap : Type 0 where
  pub ifr : List ℕ
  pub stores : StoreMap
  pub renewed : ℕ

-- ---- writes

-- so many more, at most 2^64 - 1
abbrev pub counted : ℕ → ℕ → ℕ
counted count more = min (count + more) (2 ^ 64 - 1)

-- the stores after a write of some bytes, where the conditions are counted that it touches
abbrev pub written : KeptMap → (ℕ → ℕ → Bool) → StoreMap → KeptMap
written it bytes stores =
    record {
      ifr = it.ifr;
      stores = stores;
      renewed = counted it.renewed (renewals (nodes_of it.ifr) bytes);
    }

-- other stores are a write of the bytes in which they differ
abbrev pub changed_to : KeptMap → StoreMap → KeptMap
changed_to it others = written it (difference it.stores others) others
