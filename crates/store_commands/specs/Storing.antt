-- What `stores` says of a list (own rule).
use Rattle.std.specs.Prelude.{◌≡◌, ℕ, Bool, true, false, List}
use Rattle.browser_rules.specs.Packages.{Package, device_path}
use Rattle.hii_bytes.specs.declared.cause.Cause.TheVariants.{OutOfMemory}
use Rattle.hii_bytes.specs.Faults.{HasNone}
use Rattle.ifr_nodes.specs.Nodes.{nodes_of}
use Rattle.ifr_opcodes.specs.Forest.{Node}
use Rattle.session_steps.specs.Opening.{HasSource}
use Rattle.store_audit.specs.Declaring.{IsDeclaredFault}
use Rattle.store_audit.specs.HeaderLines.{headers_text}
use Rattle.store_audit.specs.StoreLines.{stores_text}
use Rattle.audit_json.specs.declared.telling.Telling.{Telling}
use Rattle.audit_answers.specs.Endings.{IsRefusal, refused_told}
use Rattle.audit_answers.specs.declared.ended.Ended.{Ended}
use Rattle.audit_answers.specs.declared.ended.Ended.TheVariants.{Done, Refused, NoMemory}

-- These are the bytes of the forms package of a number, which has no fault of its own, of its stores or of its questions.
pub record IsDeclaredBy (list : List ℕ) (number : ℕ) (ifr : List ℕ) : Type 0 where
  pub source : Package
  pub found : HasSource list number source
  pub bytes : ifr ≡ source.bytes
  pub sound : HasNone (IsDeclaredFault list number)

-- what is told of each store, or with `--headers` the header of each that holds bytes
abbrev pub lines_told : Telling → Bool → List ℕ → List Node → List ℕ
lines_told telling false list ns = stores_text telling ns
lines_told telling true list ns = headers_text telling (device_path list) ns

-- that of each, or the least fault
abbrev pub SaysStores : Telling → Bool → List ℕ → ℕ → Ended → List ℕ → Type 0
SaysStores telling headers list number Done text =
    (ifr : List ℕ) × IsDeclaredBy list number ifr
    × (text ≡ lines_told telling headers list (nodes_of ifr))
SaysStores telling headers list number Refused text =
    IsRefusal telling (IsDeclaredFault list number) text
SaysStores telling headers list number NoMemory text = text ≡ refused_told telling OutOfMemory
SaysStores telling headers list number _ text = ⊥
