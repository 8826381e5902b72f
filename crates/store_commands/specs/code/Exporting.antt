-- What is said of a store of some stores, as `export` holds them.
use Rattle.audit_json.specs.declared.telling.Telling.{Telling}
use Rattle.std.specs.Prelude.{◌≡◌, ℕ, List, None, Some}
use Rattle.ifr_opcodes.specs.Forest.{Node}
use Rattle.hii_varstore.specs.Stores.{StoreMap, bytes_of}
use Rattle.image_audit.specs.Export.{store_told}
use Rattle.store_commands.specs.Saying.{no_store_told}
use Rattle.audit_answers.specs.declared.ended.Ended.{Ended}
use Rattle.audit_answers.specs.declared.ended.Ended.TheVariants.{Done, Refused, WriteOut}

-- The stores hold these bytes, and the text is their line.
abbrev pub HoldsStore : Telling → List Node → StoreMap → ℕ → List ℕ → List ℕ → Type 0
HoldsStore telling ns stores id bytes text =
    (bytes_of stores id ≡ Some bytes) × (text ≡ store_told telling ns id bytes)

abbrev pub SaysStore : Telling → List Node → StoreMap → ℕ → List ℕ → Ended → List ℕ → Type 0
SaysStore telling ns stores id bytes Done text = HoldsStore telling ns stores id bytes text
SaysStore telling ns stores id bytes WriteOut text = HoldsStore telling ns stores id bytes text
SaysStore telling ns stores id bytes Refused text =
    (bytes_of stores id ≡ None) × (text ≡ no_store_told telling id)
SaysStore telling ns stores id bytes _ text = ⊥
