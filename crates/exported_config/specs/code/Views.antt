-- Texts that were read, as they are seen.
use Rattle.std.specs.Prelude.{◌≡◌, ℕ, if◌then◌else◌, List, [], length, take, drop, bytes_eq, map, Option, Some, None, option_map, Result, Err}
use Rattle.browser_rules.specs.Configuration.{Block}
use Rattle.std.specs.List.{slice_split}
use Rattle.exported_config.specs.Exported.{Response, Reading, is_separator}
use Rattle.exported_config.specs.Giving.{Named, Exported}
use Rattle.exported_config.specs.declared.block.Block as code_block
use Rattle.exported_config.specs.declared.exported.ExportedConfig.{ExportedConfig}
use Rattle.exported_config.specs.declared.exported.StoreName.{StoreName}
use Rattle.exported_config.specs.declared.reading.Reading as code_reading
use Rattle.exported_config.specs.declared.response.Response as code_response
use Rattle.exported_config.specs.declared.unread.BadResponse.{BadResponse}
use Rattle.exported_config.specs.declared.unread.Unread.{Unread}
use Rattle.exported_config.specs.declared.unread.Unread.TheVariants.{Bad, NoMemory}

abbrev pub block_view : code_block.Block → Block
block_view b = record { offset = b.offset; width = b.width; digits = b.digits.now }

abbrev pub response_view : code_response.Response → Response
response_view r = record {
  guid = r.guid.items;
  name = option_map (λ name. name.items) r.name;
  blocks = map block_view r.blocks.items;
  is_alternative = r.is_alternative;
}

abbrev pub responses_view : List code_response.Response → List Response
responses_view rs = map response_view rs

abbrev pub reading_view : code_reading.Reading → Reading
reading_view r =
    record { before = responses_view r.before.items; current = option_map response_view r.current; wanted = r.wanted }

abbrev pub exported_view : ExportedConfig → Exported
exported_view e = record { own = responses_view e.own.items; others = responses_view e.others.items }

abbrev pub named_view : StoreName → Named
named_view s = record { guid = s.guid.now; name = s.name.now }

-- a text was not read: by its fault, or since an allocation failed
abbrev pub IsUnread : {X : Type 0} → Unread → Result X BadResponse → Type 0
IsUnread (Bad fault) read = read ≡ Err fault
IsUnread NoMemory read = Unit

-- what stands behind the bytes of a key, where an element begins with them
abbrev pub behind : List ℕ → List ℕ → Option (List ℕ)
behind key element = if bytes_eq (take (length key) element) key then Some (drop (length key) element) else None

-- the elements of what stands behind a separator, if there is one
abbrev pub elements_behind : Option (List ℕ) → List (List ℕ)
elements_behind None = []
elements_behind (Some rest) = slice_split is_separator rest
