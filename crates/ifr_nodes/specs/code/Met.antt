-- What was met of the nodes of a package.
use Rattle.std.specs.Prelude.{◌≡◌, ℕ, Option, List, [], ◌∷◌, ◌++◌, IfSome}
use Rattle.std.specs.List.{list_any}
use Rattle.hii_bytes.specs.code.NumberSets.{has_number}
use Rattle.hii_bytes.specs.code.FirstFaults.{first_cause}
use Rattle.hii_bytes.specs.declared.cause.Cause.{Cause}
use Rattle.ifr_opcodes.specs.Forest.{Node as Placed}
use Rattle.ifr_nodes.specs.code.Checked.{node_in}
use Rattle.ifr_nodes.specs.Nodes.{nodes_of, end_of}
use Rattle.ifr_nodes.specs.code.KeptRules.{AreKeptRules}
use Rattle.ifr_nodes.specs.ReferenceFaults.{has_form_id, has_question_id, has_reference_fault}
use Rattle.ifr_nodes.specs.code.Causes.{reference_causes}
use Rattle.ifr_nodes.specs.code.FormIds.{AreFormEntries}
use Rattle.ifr_nodes.specs.code.Views.{node_of}
use Rattle.ifr_nodes.specs.declared.node.Node.{Node}
use Rattle.ifr_nodes.specs.declared.references.Met.{Met}

-- The ids are those of the forms and of the questions among some nodes, and the rules are theirs; the places are those of all of
-- the package's forms; a form that is known ends where that of its place does.
pub record AreOf (bytes : List ℕ) (ns : List Placed) (met : Met) : Type 0 where
  pub all : AreFormEntries (nodes_of bytes) met.all.now
  pub forms : (id : ℕ) → has_number met.forms id ≡ list_any (has_form_id id) ns
  pub questions : (id : ℕ) → has_number met.questions id ≡ list_any (has_question_id id) ns
  pub rules : AreKeptRules ns met.rules
  pub form : IfSome met.form (λ form. form.ends ≡ end_of (node_in bytes form.place))

-- Where these nodes were met, this is the least fault of the next beside them, if it has one.
abbrev pub Tells : List ℕ → List Placed → Placed → Met → Option Cause → Type 0
Tells bytes before n met cause =
    AreOf bytes before met → cause
    ≡ first_cause (has_reference_fault (nodes_of bytes)) record {
      before = before;
      node = n;
    } reference_causes

-- Where these nodes were met, the next was met with them.
abbrev pub Meets : List ℕ → List Placed → Placed → Met → Met → Type 0
Meets bytes before n old new = AreOf bytes before old → AreOf bytes (before ++ n ∷ []) new

-- `Tells` of a node of a package and the nodes that stand before it there
abbrev pub TellsNext : Node → Met → Option Cause → Type 0
TellsNext node met cause =
    (before rest : List Placed) → before ++ node_of node ∷ rest ≡ nodes_of node.ifr.now
    → Tells node.ifr.now before (node_of node) met cause

abbrev pub MeetsNext : Node → Met → Met → Type 0
MeetsNext node old new =
    (before rest : List Placed) → before ++ node_of node ∷ rest ≡ nodes_of node.ifr.now
    → Meets node.ifr.now before (node_of node) old new
