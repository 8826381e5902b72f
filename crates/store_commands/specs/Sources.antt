-- Where the bytes of a store come from (own rule).
use Rattle.std.specs.Prelude.{◌≡◌, ◌⊎◌, ◌==◌, ◌&&◌, not, ℕ, Bool, true, false, if◌then◌else◌, Option, Some, None, option_and_then, List, ◌++◌, codes}
use Rattle.std.specs.List.{list_any}
use Rattle.std.specs.Str.{is_utf8}
use Rattle.ifr_opcodes.specs.Forest.{Node}
use Rattle.ifr_scopes.specs.Stores.{store_guid, store_id, store_name}
use Rattle.audit_text.specs.Texts.{guid_text}
use Rattle.audit_options.specs.declared.tasks.Sources.{Sources}
use Rattle.audit_options.specs.declared.tasks.StoreFile.{StoreFile}
use Rattle.audit_answers.specs.GivenFiles.{last_given}
use Rattle.store_audit.specs.declared.fillings.Source.{Source}
use Rattle.store_audit.specs.declared.fillings.Source.TheVariants.{Config, Missing, Zeros}
use Rattle.exported_config.specs.Giving as Exported
use Rattle.exported_config.specs.declared.giving.Given.{Given}
use Rattle.store_audit.specs.Fillings.{wanted_of}
use Rattle.store_commands.specs.Files.{IsFile, IsThere, Known}

abbrev pub is_slash : ℕ → Bool
is_slash c = c == 47

-- the path of the file of a store's variable in a folder, unless its name is no text or has a slash
abbrev pub variable_path : List ℕ → Node → Option (List ℕ)
variable_path folder n =
    if is_utf8 (store_name n.op) && not (list_any is_slash (store_name n.op))
    then Some (folder ++ codes "/" ++ store_name n.op ++ codes "-" ++ guid_text false (store_guid n.op))
    else None

-- zeros, where they are asked for
abbrev pub filler : Bool → Source
filler true = Zeros
filler false = Missing

-- what a configuration text gives, else zeros or nothing
abbrev pub IsConfig : Exported.Given → Source → Type 0
IsConfig given source = (text : Given) × (source ≡ Config text) × (Exported.given_view text ≡ given)

abbrev pub IsFallback : Option Exported.Given → Bool → Source → Type 0
IsFallback None zero source = source ≡ filler zero
IsFallback (Some given) zero source = IsConfig given source

-- the file of a variable without its attributes, where there is one, and else what is left
abbrev pub IsVariable : (List ℕ → Known) → Option (List ℕ) → (Source → Type 0) → Source → Type 0
IsVariable known None IsElse source = IsElse source
IsVariable known (Some path) IsElse source =
    (IsThere (known path) true × IsFile known path true source)
    ⊎ (IsThere (known path) false × IsElse source)

-- the last file that is given to the store, else that of its variable
abbrev pub IsGiven : (List ℕ → Known) → Option StoreFile → Option (List ℕ) → (Source → Type 0) → Source → Type 0
IsGiven known (Some file) variable IsElse source = IsFile known file.path.now false source
IsGiven known None variable IsElse source = IsVariable known variable IsElse source

-- what a configuration text gives to a store
abbrev pub given_of : Exported.Exported → Node → Option Exported.Given
given_of config n = Exported.given_to config (store_guid n.op) (store_name n.op) (wanted_of n)

abbrev pub IsSource : (List ℕ → Known) → Sources → Exported.Exported → Node → Source → Type 0
IsSource known sources config n =
    IsGiven known (last_given sources.files.items (store_id n.op))
    (option_and_then (λ folder. variable_path folder.now n) sources.efivars)
    (IsFallback (given_of config n) sources.zero)
