-- What a policy decides over.
use Rattle.std.specs.Prelude.{ℕ, Bool, List}
use Rattle.ifr_opcodes.specs.Forest.{Node}
use Rattle.ifr_nodes.specs.Nodes.{nodes_of}
use Rattle.hii_varstore.specs.Stores.{StoreMap}
use Rattle.guard_policy.specs.World.{World, world_over}
use Rattle.guard_policy.specs.declared.policy.Policy.{Policy}

-- the bytes of the package
abbrev pub bytes_of : Policy → List ℕ
bytes_of policy = policy.forms.now

-- the nodes of its form set, what was removed from it, and stores
abbrev pub world : Policy → StoreMap → World
world policy stores = world_over (nodes_of policy.forms.now) policy.removed.now stores

-- the nodes of its form set and what was removed from it, where these conditions hold
abbrev pub world_by : Policy → (Node → Bool) → World
world_by policy met =
    record { nodes = nodes_of policy.forms.now; removed = policy.removed.now; met = met }
