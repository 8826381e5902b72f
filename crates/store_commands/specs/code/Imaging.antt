-- What is said of stores that are filled, as `image` holds them.
use Rattle.std.specs.Prelude.{◌≡◌, ℕ, List, Option, None, Some, ◌++◌}
use Rattle.std.specs.List.{find, flat_map}
use Rattle.hii_bytes.specs.declared.cause.Cause.TheVariants.{OutOfMemory}
use Rattle.ifr_nodes.specs.Nodes.{nodes_of}
use Rattle.hii_varstore.specs.Image.{image_of}
use Rattle.hii_varstore.specs.StoreNodes.{layout_of}
use Rattle.hii_varstore.specs.Stores.{StoreMap}
use Rattle.audit_json.specs.declared.telling.Telling.{Telling}
use Rattle.audit_answers.specs.Endings.{refused_told}
use Rattle.store_audit.specs.Defaulted.{Defaults, defaults_told, left_by}
use Rattle.store_audit.specs.code.Fillings.{filling_told, is_unfit, refused_filling, stores_of}
use Rattle.store_audit.specs.declared.fillings.Filling.{Filling}
use Rattle.audit_answers.specs.declared.ended.Ended.{Ended}
use Rattle.audit_answers.specs.declared.ended.Ended.TheVariants.{Done, Refused, WriteOut, NoMemory}

-- the stores, each with what it is given
abbrev pub stores_in : List ℕ → List Filling → StoreMap
stores_in ifr fillings = stores_of (layout_of (nodes_of ifr)).guid fillings

-- All of them are fit, and the bytes are their image, with the defaults over it.
abbrev pub AreFit : Telling → List ℕ → Option Defaults → List Filling → List ℕ → List ℕ → Type 0
AreFit telling ifr defaults fillings bytes text =
    (find is_unfit fillings ≡ None)
    × (text ≡ flat_map (filling_told telling) fillings ++ defaults_told telling ifr defaults (stores_in ifr fillings))
    × (bytes ≡ image_of (left_by ifr defaults (stores_in ifr fillings)))

abbrev pub SaysFillings : Telling → List ℕ → Option Defaults → List Filling → List ℕ → Ended → List ℕ → Type 0
SaysFillings telling ifr defaults fillings bytes Done text = AreFit telling ifr defaults fillings bytes text
SaysFillings telling ifr defaults fillings bytes WriteOut text = AreFit telling ifr defaults fillings bytes text
SaysFillings telling ifr defaults fillings bytes Refused text =
    (unfit : Filling) × (find is_unfit fillings ≡ Some unfit) × (text ≡ refused_filling telling unfit)
SaysFillings telling ifr defaults fillings bytes NoMemory text = text ≡ refused_told telling OutOfMemory
SaysFillings telling ifr defaults fillings bytes _ text = ⊥
