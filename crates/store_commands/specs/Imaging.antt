-- What `image` says, and the image that it makes (own rule).
use Rattle.std.specs.Prelude.{◌≡◌, ◌⊎◌, ℕ, Bool, is_none, not, Ok, Err, option_map, Option, Some, None, List, ◌++◌, map}
use Rattle.std.specs.List.{AllByRecursion, find, flat_map}
use Rattle.hii_bytes.specs.declared.cause.Cause.TheVariants.{OutOfMemory}
use Rattle.ifr_opcodes.specs.Forest.{Node}
use Rattle.ifr_nodes.specs.Nodes.{nodes_of}
use Rattle.hii_varstore.specs.Image.{image_of}
use Rattle.hii_varstore.specs.Layout.{Shape, size_of}
use Rattle.hii_varstore.specs.StoreNodes.{layout_of}
use Rattle.audit_options.specs.declared.tasks.ImageOptions.{ImageOptions}
use Rattle.audit_options.specs.declared.tasks.Sources.{Sources}
use Rattle.audit_options.specs.declared.tasks.StoreFile.{StoreFile}
use Rattle.hii_varstore.specs.Stores.{StoreMap}
use Rattle.store_audit.specs.Defaulted.{defaults_told, left_by}
use Rattle.store_audit.specs.Fillings.{are_fit, buffer_stores, filled_told, store_from, unfit_told, wanted_of}
use Rattle.store_audit.specs.declared.fillings.Source.{Source}
use Rattle.exported_config.specs.Giving.{Exported}
use Rattle.exported_config.specs.declared.unread.BadResponse.{BadResponse}
use Rattle.store_commands.specs.Configured.{IsText, bad_response_told, config_in}
use Rattle.audit_answers.specs.Endings.{IsRefusal, refused_told}
use Rattle.audit_json.specs.Telling.{asked}
use Rattle.store_commands.specs.Saying.{no_store_told}
use Rattle.store_commands.specs.Files.{Known}
use Rattle.store_commands.specs.Sources.{IsSource}
use Rattle.store_commands.specs.Defaulting.{IsMadeFault, IsMadeOf, defaults_asked}
use Rattle.audit_answers.specs.declared.ended.Ended.{Ended}
use Rattle.audit_answers.specs.declared.ended.Ended.TheVariants.{Done, Refused, WriteOut, NoMemory}

-- the first file that is given to a store which is not there, or which holds no bytes
abbrev pub unknown_file : Shape → List StoreFile → Option StoreFile
unknown_file layout files = find (λ file. is_none (size_of layout file.id)) files

-- a store, and where its bytes come from
pub record Supply : Type 0 where
  pub node : Node
  pub source : Source

abbrev pub is_unfit : Supply → Bool
is_unfit s = not (are_fit (wanted_of s.node) s.source)

-- Each store of a forms package that holds bytes has a source, by place, over a configuration text that has no fault.
pub record AreSupplied (known : List ℕ → Known) (from : Sources) (text ifr : List ℕ) (supplies : List Supply) : Type 0 where
  pub config : Exported
  pub read : config_in ifr text ≡ Ok config
  pub stores : map (λ s. s.node) supplies ≡ buffer_stores (nodes_of ifr)
  pub sources : AllByRecursion (λ s. IsSource known from config s.node s.source) supplies

-- They have, over the text of the file, and no file is given to another store.
pub record AreSupplies (known : List ℕ → Known) (from : Sources) (ifr : List ℕ) (supplies : List Supply) : Type 0 where
  pub none_unknown : unknown_file (layout_of (nodes_of ifr)) from.files.items ≡ None
  pub text : List ℕ
  pub is_text : IsText known (option_map (λ path. path.now) from.config) text
  pub supplied : AreSupplied known from text ifr supplies

-- the stores, each with the bytes that it is given
abbrev pub stores_given : List ℕ → List Supply → StoreMap
stores_given ifr supplies = record {
  guid = (layout_of (nodes_of ifr)).guid;
  stores = map (λ s. store_from s.node s.source) supplies;
}

-- Each store is given what it holds, over which defaults are laid, if they are asked for; the text has a line for each store, and one
-- for the defaults, and the bytes are the image.
pub record IsFilled (known : List ℕ → Known) (options : ImageOptions) (list ifr bytes text : List ℕ) : Type 0 where
  pub supplies : List Supply
  pub given : AreSupplies known options.sources ifr supplies
  pub fit : find is_unfit supplies ≡ None
  pub lines : text ≡ flat_map (λ s. filled_told (asked options.json) s.node s.source) supplies
      ++ defaults_told (asked options.json) ifr (defaults_asked options list) (stores_given ifr supplies)
  pub image : bytes ≡ image_of (left_by ifr (defaults_asked options list) (stores_given ifr supplies))

-- The text tells of the first file that is given to no store, else of the first fault of a configuration text, else of the first store
-- that is not given what it holds.
abbrev pub IsUnfilled : (List ℕ → Known) → ImageOptions → List ℕ → List ℕ → Type 0
IsUnfilled known options ifr text =
    ((file : StoreFile) × (unknown_file (layout_of (nodes_of ifr)) options.sources.files.items ≡ Some file)
    × (text ≡ no_store_told (asked options.json) file.id))
    ⊎ (((bytes : List ℕ) × IsText known (option_map (λ path. path.now) options.sources.config) bytes
    × (bad : BadResponse) × (config_in ifr bytes ≡ Err bad) × (text ≡ bad_response_told (asked options.json) bad))
    ⊎ ((supplies : List Supply) × AreSupplies known options.sources ifr supplies
    × (unfit : Supply) × (find is_unfit supplies ≡ Some unfit)
    × (text ≡ unfit_told (asked options.json) unfit.node unfit.source)))

-- a line for each store, and the image; or why it is refused
abbrev pub SaysImage : (List ℕ → Known) → ImageOptions → List ℕ → List ℕ → Ended → List ℕ → Type 0
SaysImage known options list bytes Done text =
    (ifr : List ℕ) × IsMadeOf options list ifr × IsFilled known options list ifr bytes text
SaysImage known options list bytes WriteOut text =
    (ifr : List ℕ) × IsMadeOf options list ifr × IsFilled known options list ifr bytes text
SaysImage known options list bytes Refused text =
    IsRefusal (asked options.json) (IsMadeFault options list) text
    ⊎ ((ifr : List ℕ) × IsMadeOf options list ifr
    × IsUnfilled known options ifr text)
SaysImage known options list bytes NoMemory text = text ≡ refused_told (asked options.json) OutOfMemory
SaysImage known options list bytes _ text = ⊥
