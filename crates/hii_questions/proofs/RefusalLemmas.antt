-- The first fault of the questions is the least, and without one there is none.
use Rattle.std.proofs.Common.{◌≡◌, ℕ, Some, None, List}
use Rattle.std.specs.List.{flat_map}
use Rattle.hii_bytes.specs.Faults.{IsLeast, HasNone}
use Rattle.hii_bytes.specs.declared.cause.Fault.{Fault}
use Rattle.hii_bytes.proofs.FirstFaultLemmas.{first_among, none_among}
use Rattle.ifr_nodes.specs.Accepted.{IsAccepted}
use Rattle.ifr_nodes.specs.Nodes.{nodes_of}
use Rattle.hii_varstore.specs.StoreNodes.{layout_of}
use Rattle.hii_questions.specs.Fields.{questions}
use Rattle.hii_questions.specs.Faults.{IsQuestionFault, place_of, has_question_fault, parts_of, is_known}
use Rattle.hii_questions.specs.code.Causes.{question_causes}
use Rattle.hii_questions.specs.code.FaultTells.{first_part_fault}
use Rattle.hii_questions.proofs.PartLemmas.{all_causes, parts_rise}

pub refused_among : (bytes : List ℕ) (fault : Fault) → IsAccepted bytes
    → first_part_fault (layout_of (nodes_of bytes)) (is_known (nodes_of bytes)) (flat_map parts_of (questions (nodes_of bytes))) ≡ Some fault → IsLeast (IsQuestionFault (nodes_of bytes)) fault
refused_among bytes fault accepted e =
    let ns = nodes_of bytes in
    first_among place_of (has_question_fault (layout_of ns) (is_known ns)) question_causes 4 (flat_map parts_of (questions ns)) fault (all_causes (layout_of ns) (is_known ns)) (parts_rise bytes (layout_of ns) accepted) e

pub sound_among : (bytes : List ℕ) → first_part_fault (layout_of (nodes_of bytes)) (is_known (nodes_of bytes)) (flat_map parts_of (questions (nodes_of bytes))) ≡ None
    → HasNone (IsQuestionFault (nodes_of bytes))
sound_among bytes e =
    let ns = nodes_of bytes in
    none_among place_of (has_question_fault (layout_of ns) (is_known ns)) question_causes (flat_map parts_of (questions ns)) (all_causes (layout_of ns) (is_known ns)) e
