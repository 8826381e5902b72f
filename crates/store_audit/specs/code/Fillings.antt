-- How a store is seen that is filled.
use Rattle.std.specs.Prelude.{ℕ, Bool, not, List, [], map}
use Rattle.ifr_opcodes.specs.Forest.{Node}
use Rattle.ifr_scopes.specs.Stores.{store_id}
use Rattle.ifr_scopes.specs.code.Lists.{store_node}
use Rattle.hii_varstore.specs.Stores.{Store, StoreMap, with_bytes}
use Rattle.hii_varstore.specs.declared.buffer.Buffer.{Buffer}
use Rattle.store_audit.specs.Fillings.{wanted_of, are_fit, bytes_given, store_from, filled_told, unfit_told}
use Rattle.audit_json.specs.declared.telling.Telling.{Telling}
use Rattle.store_audit.specs.declared.fillings.Filling.{Filling}
use Rattle.store_audit.specs.declared.fillings.Source.{Source}
use Rattle.store_audit.specs.declared.fillings.Source.TheVariants.{File, Config}

abbrev pub filling_node : Filling → Node
filling_node f = store_node f.store

-- how many bytes the store holds
abbrev pub wanted : Filling → ℕ
wanted f = wanted_of (filling_node f)

abbrev pub buffer_in : Node → Buffer
buffer_in n = record { id = store_id n.op; size = wanted_of n }

abbrev pub filling_buffer : Filling → Buffer
filling_buffer f = buffer_in (filling_node f)

abbrev pub filling_id : Filling → ℕ
filling_id f = store_id (filling_node f).op

-- the bytes that it is given
abbrev pub filling_bytes : Filling → List ℕ
filling_bytes f = bytes_given (filling_node f) f.source

abbrev pub is_fit : Filling → Bool
is_fit f = are_fit (wanted f) f.source

abbrev pub is_unfit : Filling → Bool
is_unfit f = not (is_fit f)

-- the bytes of a file
abbrev pub file_bytes : Source → List ℕ
file_bytes (File path bytes is_variable) = bytes.items
file_bytes (Config given) = given.bytes.items
file_bytes _ = []

abbrev pub filled_from : Source → ℕ → StoreMap → StoreMap
filled_from (File path bytes is_variable) id m = with_bytes m id 0 bytes.items
filled_from (Config given) id m = with_bytes m id 0 given.bytes.items
filled_from _ id m = m

-- the stores, with the bytes of a file in one of them
abbrev pub filled_with : Filling → StoreMap → StoreMap
filled_with f m = filled_from f.source (filling_id f) m

abbrev pub filled_store : Filling → Store
filled_store f = store_from (filling_node f) f.source

-- the stores of a form set with this GUID
abbrev pub stores_of : List ℕ → List Filling → StoreMap
stores_of guid fillings = record { guid = guid; stores = map filled_store fillings }

-- what is told of a store that is filled, and of one that is not
abbrev pub filling_told : Telling → Filling → List ℕ
filling_told telling f = filled_told telling (filling_node f) f.source

abbrev pub refused_filling : Telling → Filling → List ℕ
refused_filling telling f = unfit_told telling (filling_node f) f.source
