-- Questions of a package.
use Rattle.std.specs.Prelude.{◌≡◌, ℕ, All, List}
use Rattle.ifr_nodes.specs.Nodes.{nodes_of}
use Rattle.ifr_nodes.specs.code.Checked.{IsNodeOf}
use Rattle.hii_questions.specs.Fields.{asked}
use Rattle.hii_questions.specs.code.Views.{question_node, question_view}
use Rattle.hii_questions.specs.declared.question.Question.{Question}

-- It is one of a package, with its field there.
pub record IsOwn (ifr : List ℕ) (question : Question) : Type 0 where
  pub node : IsNodeOf ifr (question_node question)
  pub asked : question_view question ≡ asked (nodes_of ifr) (question_node question)

abbrev pub AreOwn : List ℕ → List Question → Type 0
AreOwn ifr questions = All (IsOwn ifr) questions
