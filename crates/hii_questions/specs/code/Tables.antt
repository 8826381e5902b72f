-- The questions of a package as they are kept.
use Rattle.std.specs.Prelude.{◌≡◌, ℕ, ◌==◌, Option, List, map, filter}
use Rattle.std.specs.List.{find}
use Rattle.hii_bytes.specs.code.FirstFaults.{Rise}
use Rattle.ifr_opcodes.specs.Fields.{question_id}
use Rattle.ifr_nodes.specs.Accepted.{IsAccepted}
use Rattle.ifr_nodes.specs.Nodes.{nodes_of}
use Rattle.ifr_nodes.specs.code.Checked.{node_in}
use Rattle.hii_values.specs.Types.{is_password}
use Rattle.hii_questions.specs.Fields.{Asked, questions}
use Rattle.hii_questions.specs.code.ByField.{AreByField}
use Rattle.hii_questions.specs.code.Entries.{AreQuestionEntries, entry_view}
use Rattle.hii_questions.specs.code.Ids.{AreIds}
use Rattle.hii_questions.specs.code.Steps.{AreSteps}
use Rattle.hii_bytes.specs.declared.id_table.IdEntry.{IdEntry}
use Rattle.hii_questions.specs.declared.entry.QuestionEntry.{QuestionEntry}
use Rattle.hii_questions.specs.declared.merging.Step.{Step}

-- the first of some questions with an id
abbrev pub first_with : List Asked → ℕ → Option Asked
first_with qs id = find (λ q. question_id q.node.op == id) qs

-- the first of some questions at a place
abbrev pub first_at : List Asked → ℕ → Option Asked
first_at qs place = find (λ q. q.node.place == place) qs

-- These are the questions of an accepted package, whose places rise, the numbers of these by their ids, and in the order of
-- their fields, and the passwords among them, with the steps that tell of each byte the first of these.
pub record AreQuestions (ifr : List ℕ) (by_place : List QuestionEntry) (by_id : List IdEntry)
    (by_field : List ℕ) (passwords : List QuestionEntry) (steps : List Step) : Type 0 where
  pub accepted : IsAccepted ifr
  pub placed : map (entry_view ifr) by_place ≡ questions (nodes_of ifr)
  pub kept : AreQuestionEntries ifr by_place
  pub rise : Rise (λ (e : QuestionEntry). e.place) 0 by_place
  pub found : AreIds (questions (nodes_of ifr)) by_id
  pub ordered : AreByField by_place by_field
  pub secret : passwords ≡ filter (λ e. is_password (node_in ifr e.place)) by_place
  pub told : AreSteps passwords steps
