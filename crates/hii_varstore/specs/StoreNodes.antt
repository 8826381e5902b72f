-- The stores that a form set declares (UEFI 2.8, 33.3.8.3, EFI_IFR_VARSTORE, EFI_IFR_VARSTORE_EFI and
-- EFI_IFR_VARSTORE_NAME_VALUE).
use Rattle.std.specs.Prelude.{ℕ, Bool, false, ◌==◌, ◌||◌, List, [], ◌∷◌, filter, Option, option_map}
use Rattle.std.specs.List.{filter_map, list_any}
use Rattle.hii_bytes.specs.Faults.{IsFaultOf}
use Rattle.hii_bytes.specs.declared.cause.Cause.{Cause}
use Rattle.hii_bytes.specs.declared.cause.Cause.TheVariants.{DuplicateVarstore}
use Rattle.ifr_opcodes.specs.Fields.{form_set_guid}
use Rattle.ifr_opcodes.specs.Forest.{Node}
use Rattle.ifr_nodes.specs.Nodes.{is_store}
use Rattle.ifr_nodes.specs.ReferenceFaults.{Ranked, ranked}
use Rattle.ifr_scopes.specs.Stores.{store_id, store_size}
use Rattle.hii_varstore.specs.declared.buffer.Buffer.{Buffer}
use Rattle.hii_varstore.specs.Layout.{Shape}

abbrev pub guid_of : List Node → List ℕ
guid_of [] = []
guid_of (form_set ∷ ns) = form_set_guid form_set.op

-- the buffer store that a store is; a store of names and values, which holds no bytes, is none
abbrev pub declared_buffer : Node → Option Buffer
declared_buffer n =
    option_map (λ size. record { id = store_id n.op; size = size }) (store_size n.op)

-- the GUID of the form set, which is the first node, and the buffer stores by place
abbrev pub layout_of : List Node → Shape
layout_of ns =
    record { guid = guid_of ns; buffers = filter_map declared_buffer (filter is_store ns) }

-- the id is 0, or one of these stores, of any kind, has it
abbrev pub is_taken : ℕ → List Node → Bool
is_taken id stores = id == 0 || list_any (λ n. store_id n.op == id) stores

-- A store of any kind has the id 0, or that of a store of any kind before it.
abbrev pub repeats_store : Ranked → Cause → Bool
repeats_store r DuplicateVarstore = is_taken (store_id r.node.op) r.before
repeats_store r _ = false

-- the faults of some stores by place (own rule)
abbrev pub IsRepeatedStore : List Node → Cause → ℕ → Type 0
IsRepeatedStore stores = IsFaultOf (λ (r : Ranked). r.node.place) repeats_store (ranked [] stores)

abbrev pub IsStoreFault : List Node → Cause → ℕ → Type 0
IsStoreFault ns = IsRepeatedStore (filter is_store ns)
