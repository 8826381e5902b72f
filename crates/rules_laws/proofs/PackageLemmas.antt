-- A package is accepted, and its stores and questions have no fault, exactly where it is good.
use Rattle.std.proofs.Common.{ℕ, List, sym, subst}
use Rattle.hii_bytes.specs.Faults.{HasNone}
use Rattle.ifr_opcodes.specs.Forest.{Forest, SpellsForest, nodes}
use Rattle.ifr_opcodes.specs.Reading.{tree_of}
use Rattle.ifr_opcodes.proofs.ForestLemmas.{is_tree_of}
use Rattle.ifr_nodes.specs.Accepted.{IsAccepted}
use Rattle.ifr_nodes.specs.Checked.{IsChecked}
use Rattle.ifr_nodes.specs.Nodes.{nodes_of}
use Rattle.hii_varstore.specs.StoreNodes.{IsStoreFault}
use Rattle.hii_questions.specs.Faults.{IsQuestionFault}
use Rattle.rules_laws.specs.laws.Ids.{AreReferred, AreStores}
use Rattle.rules_laws.specs.laws.Packages.{IsGoodPackage}
use Rattle.rules_laws.specs.laws.GoodQuestions.{AreGoodQuestions}
use Rattle.rules_laws.specs.laws.WellFormed.{IsFormSet}
use Rattle.rules_laws.proofs.FormSetLemmas.{sound, complete}
use Rattle.rules_laws.proofs.IdLemmas.{good_is_faultless, faultless_is_good}
use Rattle.rules_laws.proofs.GoodQuestionLemmas.{questions_sound, questions_complete}
use Rattle.rules_laws.proofs.GoodStoreLemmas.{stores_sound, stores_complete}

-- what is said of the forest that is spelled is said of the tree of the bytes
of_tree : (P : Forest → Type 0) (bytes : List ℕ) (g : IsGoodPackage bytes) → P g.forest → P (tree_of bytes)
of_tree P bytes g holds = subst P (sym (is_tree_of bytes g.forest g.spelled)) holds

checked_where_good : (bytes : List ℕ) → IsGoodPackage bytes → IsChecked bytes
checked_where_good bytes g =
    let spelled = of_tree (SpellsForest bytes) bytes g g.spelled in
    record { header = g.header; small = g.small; spelled = spelled; sound = sound (tree_of bytes) spelled.are_nodes (of_tree IsFormSet bytes g g.form_set) }

pub accepted_where_good : (bytes : List ℕ) → IsGoodPackage bytes → IsAccepted bytes
accepted_where_good bytes g =
    let checked = checked_where_good bytes g in
    record { checked = checked; referred = good_is_faultless bytes checked (of_tree (λ f. AreReferred (nodes f)) bytes g g.ids) }

pub stored_where_good : (bytes : List ℕ) → IsGoodPackage bytes → HasNone (IsStoreFault (nodes_of bytes))
stored_where_good bytes g = stores_sound (nodes_of bytes) (of_tree (λ f. AreStores (nodes f)) bytes g g.stores)

pub asked_where_good : (bytes : List ℕ) → IsGoodPackage bytes → HasNone (IsQuestionFault (nodes_of bytes))
asked_where_good bytes g = questions_sound (nodes_of bytes) (of_tree (λ f. AreGoodQuestions (nodes f)) bytes g g.questions)

pub good_where_accepted : (bytes : List ℕ) → IsAccepted bytes → HasNone (IsStoreFault (nodes_of bytes)) → HasNone (IsQuestionFault (nodes_of bytes)) → IsGoodPackage bytes
good_where_accepted bytes accepted stores questions =
    let checked = accepted.checked in
    record {
      header = checked.header;
      small = checked.small;
      forest = tree_of bytes;
      spelled = checked.spelled;
      form_set = complete (tree_of bytes) checked.spelled.are_nodes checked.sound;
      ids = faultless_is_good bytes checked accepted.referred;
      stores = stores_complete (nodes_of bytes) stores;
      questions = questions_complete (nodes_of bytes) questions;
    }
