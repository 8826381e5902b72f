-- What was met of the nodes of a package.
use Rattle.std.specs.Prelude.{◌≡◌, ℕ, List, [], ◌∷◌, ◌++◌, IfSome}
use Rattle.std.specs.List.{list_any}
use Rattle.hii_bytes.specs.code.NumberSets.{has_number}
use Rattle.hii_bytes.specs.declared.cause.Fault.{Fault}
use Rattle.ifr_opcodes.specs.Forest.{Node as Placed}
use Rattle.ifr_nodes.specs.Nodes.{nodes_of, end_of}
use Rattle.ifr_nodes.specs.ReferenceFaults.{has_form_id, has_question_id}
use Rattle.ifr_nodes.specs.code.Checked.{node_in}
use Rattle.ifr_nodes.specs.code.Views.{node_of}
use Rattle.ifr_nodes.specs.declared.node.Node.{Node}
use Rattle.package_faults.specs.code.MetRules.{AreMetRules}
use Rattle.package_faults.specs.code.Parts.{faults_of_node}
use Rattle.ifr_nodes.specs.declared.form_end.FormEnd.{FormEnd}
use Rattle.package_faults.specs.declared.references.Met.{Met}

-- a form ends where that of its place does
abbrev pub EndsThere : List ℕ → FormEnd → Type 0
EndsThere bytes form = form.ends ≡ end_of (node_in bytes form.place)

-- The ids are those of all forms, and of the forms and the questions among some nodes, and the rules are theirs.
pub record AreOf (bytes : List ℕ) (ns : List Placed) (met : Met) : Type 0 where
  pub all : (id : ℕ) → has_number met.all.now id ≡ list_any (has_form_id id) (nodes_of bytes)
  pub forms : (id : ℕ) → has_number met.forms id ≡ list_any (has_form_id id) ns
  pub questions : (id : ℕ) → has_number met.questions id ≡ list_any (has_question_id id) ns
  pub rules : AreMetRules ns met.rules
  pub form : IfSome met.form (EndsThere bytes)

-- The next node was met behind others, and its faults were added.
pub record MeetsNext (bytes : List ℕ) (before : List Placed) (n : Placed) (old new : Met) (told told' : List Fault) : Type 0 where
  pub are : AreOf bytes (before ++ n ∷ []) new
  pub added : told' ≡ told ++ faults_of_node (nodes_of bytes) before n

-- whichever nodes these others are that stand before it in its package
abbrev pub Meets : Node → Met → Met → List Fault → List Fault → Type 0
Meets node old new told told' =
    (before rest : List Placed) → before ++ node_of node ∷ rest ≡ nodes_of node.ifr.now
    → AreOf node.ifr.now before old → MeetsNext node.ifr.now before (node_of node) old new told told'
