-- The faults of stores, of questions with their options, and of nodes among each other, one thing after the other.
use Rattle.std.specs.Prelude.{ℕ, Bool, List, [], ◌∷◌}
use Rattle.hii_bytes.specs.declared.cause.Cause.{Cause}
use Rattle.hii_bytes.specs.declared.cause.Cause.TheVariants.{DuplicateVarstore}
use Rattle.hii_bytes.specs.declared.cause.Fault.{Fault}
use Rattle.ifr_opcodes.specs.Forest.{Node}
use Rattle.ifr_nodes.specs.ReferenceFaults.{Ranked, ranked, has_reference_fault}
use Rattle.ifr_nodes.specs.code.Causes.{reference_causes}
use Rattle.hii_varstore.specs.Layout.{Shape}
use Rattle.hii_varstore.specs.StoreNodes.{repeats_store}
use Rattle.hii_questions.specs.Faults.{QuestionPart, place_of, has_question_fault, has_option_fault}
use Rattle.hii_questions.specs.code.Causes.{question_causes}
use Rattle.package_faults.specs.code.Gathering.{all_faults, its_faults}

abbrev pub ranked_place : Ranked → ℕ
ranked_place r = r.node.place

abbrev pub node_place : Node → ℕ
node_place n = n.place

-- of stores, where others stand before them
abbrev pub store_causes : List Cause
store_causes = DuplicateVarstore ∷ []

abbrev pub repeated_stores : List Node → List Node → List Fault
repeated_stores before stores = all_faults ranked_place repeats_store store_causes (ranked before stores)

-- of questions and their options
abbrev pub part_faults : Shape → (ℕ → Bool) → List QuestionPart → List Fault
part_faults shape known ps = all_faults place_of (has_question_fault shape known) question_causes ps

-- of options of a question
abbrev pub option_faults : Node → List Node → List Fault
option_faults q os = all_faults node_place (has_option_fault q) question_causes os

-- of nodes among all, where others stand before them, and of one of them
abbrev pub node_faults : List Node → List Node → List Node → List Fault
node_faults all before ns = all_faults ranked_place (has_reference_fault all) reference_causes (ranked before ns)

abbrev pub faults_of_node : List Node → List Node → Node → List Fault
faults_of_node all before n =
    its_faults ranked_place (has_reference_fault all) reference_causes record { before = before; node = n }
