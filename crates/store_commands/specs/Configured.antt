-- The configuration text of `--config` (own rule).
use Rattle.std.specs.Prelude.{◌≡◌, ℕ, Option, Some, None, List, [], ◌++◌, Result, codes, decimal, map, filter}
use Rattle.ifr_opcodes.specs.Forest.{Node}
use Rattle.ifr_nodes.specs.Nodes.{is_store, nodes_of}
use Rattle.ifr_scopes.specs.Stores.{store_guid, store_name}
use Rattle.exported_config.specs.Giving.{Exported, Named, exported}
use Rattle.exported_config.specs.declared.unread.BadResponse.{BadResponse}
use Rattle.exported_config.specs.declared.unread.Part.{Part}
use Rattle.exported_config.specs.declared.unread.Part.TheVariants.{Guid, Name, Offset, Width, Value, NoGuid, NoValue}
use Rattle.audit_json.specs.declared.telling.Telling.{Telling}
use Rattle.store_commands.specs.Saying.{said_as}
use Rattle.store_commands.specs.Files.{IsRead, Known}

-- the bytes of the file, or none where there is no such option
abbrev pub IsText : (List ℕ → Known) → Option (List ℕ) → List ℕ → Type 0
IsText known None text = text ≡ []
IsText known (Some path) text = IsRead (known path) text

-- the stores of a forms package by GUID and name
abbrev pub named_of : Node → Named
named_of n = record { guid = store_guid n.op; name = store_name n.op }

abbrev pub names_of : List Node → List Named
names_of ns = map named_of (filter is_store ns)

-- what the text gives to the stores of a forms package
abbrev pub config_in : List ℕ → List ℕ → Result Exported BadResponse
config_in ifr text = exported (names_of (nodes_of ifr)) text

-- what is bad in a response
abbrev pub part_word : Part → List ℕ
part_word Guid = codes "GUID"
part_word Name = codes "NAME"
part_word Offset = codes "OFFSET"
part_word Width = codes "WIDTH"
part_word Value = codes "VALUE"
part_word NoGuid = codes "no GUID"
part_word NoValue = codes "no value"

abbrev pub bad_response : BadResponse → List ℕ
bad_response bad = codes "config response " ++ decimal bad.number ++ codes ": " ++ part_word bad.part

abbrev pub bad_response_told : Telling → BadResponse → List ℕ
bad_response_told telling bad = said_as telling (bad_response bad)
