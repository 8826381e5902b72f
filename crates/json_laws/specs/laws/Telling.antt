-- Texts that tell facts, and lines that are read back.
use Rattle.std.specs.Prelude.{◌≡◌, ℕ, true, List, Some}
use Rattle.std.specs.Str.{all_scalars}
use Rattle.audit_json.specs.Json.{escaped}
use Rattle.json_laws.specs.Reading.{Facts, Items, Value, decoded}
use Rattle.json_laws.specs.laws.Written.{CanBeTold, EachCanBeTold, FactsCanBeTold, each_written, line_of, said_by, told, written}

-- members, a value, and values one behind the other
pub record TellsFacts (text : List ℕ) : Type 0 where
  pub facts : Facts
  pub good : FactsCanBeTold facts
  pub same : text ≡ told facts

pub record TellsValue (text : List ℕ) : Type 0 where
  pub value : Value
  pub good : CanBeTold value
  pub same : text ≡ written value

pub record TellValues (texts : List (List ℕ)) : Type 0 where
  pub values : Items
  pub good : EachCanBeTold values
  pub same : texts ≡ each_written values

-- what stands between quotation marks
pub record SpellsText (spelled : List ℕ) : Type 0 where
  pub characters : List ℕ
  pub good : all_scalars characters ≡ true
  pub same : spelled ≡ escaped characters

-- A line tells facts of a kind, and is read as them.
pub record IsReadBack (kind line : List ℕ) : Type 0 where
  pub facts : Facts
  pub good : FactsCanBeTold facts
  pub same : line ≡ line_of kind facts
  pub read : decoded line ≡ Some (said_by kind facts)
