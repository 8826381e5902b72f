-- A session over the stores of a forms package.
use Rattle.std.proofs.Common.{◌≡◌, ◌≢◌, ◌∷◌, ◌++◌, ◌⊎◌, ℕ, List, [], ap, refl, inl, inr}
use Rattle.std.specs.Prelude.{filter}
use Rattle.browser_rules.specs.Packages.{Package, device_path}
use Rattle.browser_rules.specs.Strings.{Spoken, chosen}
use Rattle.hii_bytes.specs.declared.cause.Cause.{Cause}
use Rattle.hii_bytes.specs.declared.cause.Cause.TheVariants.{OutOfMemory}
use Rattle.hii_bytes.specs.declared.cause.Fault.{Fault}
use Rattle.hii_bytes.specs.Faults.{IsLeast, Refuses}
use Rattle.hii_bytes.specs.Watching.{Pen, Writes}
use Rattle.hii_bytes.proofs.WritingLemmas.{writes_nil}
use Rattle.hii_varstore.specs.Image.{SpellsImage, image_of}
use Rattle.hii_varstore.specs.Stores.{StoreMap, shape_of}
use Rattle.ifr_opcodes.specs.Forest.{Node}
use Rattle.ifr_nodes.specs.Nodes.{is_form, nodes_of}
use Rattle.guard_policy.specs.World.{removed_at}
use Rattle.session_steps.specs.Opening.{HasSource, HasTexts, IsBrowsable, Opens, layout_in}
use Rattle.session_steps.specs.State.{State}
use Rattle.browser_commands.proofs.OpeningLemmas.{opened}
use Rattle.question_audit.specs.code.Beginnings.{Begins}
use Rattle.survey_audit.specs.Lines.{Heading}
use Rattle.survey_commands.specs.Surveying.{Asked, BeginsSet, Finding, IsFound, finding_told}

module _ (list : List ℕ) (number : ℕ) (source : Package) (spoken : List Spoken) (lang ifr : List ℕ) (stores : StoreMap) (first : Node) where
  -- what it begins with
  abbrev pub start : State
  start = record {
    ifr = ifr;
    path = device_path list;
    removed = removed_at (nodes_of ifr) stores;
    spoken = spoken;
    language = chosen spoken lang;
    committed = stores;
    working = stores;
    form = first.place;
    history = [];
  }

  pub opens : (others : List Node) → HasSource list number source → HasTexts list spoken → ifr ≡ source.bytes → IsBrowsable ifr → shape_of stores ≡ layout_in ifr → filter is_form (nodes_of ifr) ≡ first ∷ others
      → SpellsImage (shape_of stores) (image_of stores) stores → Opens list number (image_of stores) lang start
  opens others found texts is browsable laid forms spelled =
      opened list list number (image_of stores) lang source start (shape_of stores) first others refl found is texts refl browsable laid spelled refl refl forms refl refl refl

-- ---- where the telling breaks off

-- nothing is told
pub nothing_of_set : (asked : Asked) (list : List ℕ) (h : Heading) (pen : Pen) → (text : List ℕ) × BeginsSet asked list h text × Writes pen pen text
nothing_of_set asked list h pen = ([], inl refl, writes_nil pen)

-- or the beginning of what is
pub begun_of_set : (asked : Asked) (list : List ℕ) (h : Heading) (old new : Pen) (finding : Finding) → IsFound asked list h.number h.source finding → Begins old new (finding_told asked h finding)
    → (text : List ℕ) × BeginsSet asked list h text × Writes old new text
begun_of_set asked list h old new finding is begun = (begun.front, inr (finding, is, begun.rest, begun.parts), begun.written)

-- what refuses and is not want of memory is the least fault
pub least_of : (IsFault : Cause → ℕ → Type 0) (fault : Fault) → Refuses IsFault fault → fault.cause ≢ OutOfMemory → IsLeast IsFault fault
least_of IsFault fault (inl memory) other = absurd (other (ap (λ (f : Fault). f.cause) memory))
least_of IsFault fault (inr least) other = least
