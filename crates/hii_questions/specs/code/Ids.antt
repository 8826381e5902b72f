-- The ids of questions, alone and each with the number of its question.
use Rattle.std.specs.Prelude.{◌≡◌, ℕ, ◌+◌, List, [], ◌∷◌, map}
use Rattle.ifr_opcodes.specs.Fields.{question_id}
use Rattle.hii_questions.specs.Fields.{Asked}
use Rattle.hii_bytes.specs.code.IdTables.{number_with}
use Rattle.hii_bytes.specs.declared.id_table.IdEntry.{IdEntry}

abbrev pub ids_of : List Asked → List ℕ
ids_of qs = map (λ q. question_id q.node.op) qs

-- the ids of questions that are numbered from one on
abbrev pub ids_from : ℕ → List Asked → List IdEntry
ids_from number [] = []
ids_from number (q ∷ qs) =
    record { id = question_id q.node.op; number = number } ∷ ids_from (number + 1) qs

-- the table tells of each id the number of the first of these questions that has it
abbrev pub AreIds : List Asked → List IdEntry → Type 0
AreIds qs ids = (id : ℕ) → number_with ids id ≡ number_with (ids_from 0 qs) id
