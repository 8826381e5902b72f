-- What is known of one question, as an object (own rule).
use Rattle.std.specs.Prelude.{◌≡◌, ◌⊎◌, ℕ, Bool, true, false, Option, Some, None, List, [], ◌++◌, codes}
use Rattle.hii_bytes.specs.Watching.{Pen, Writes}
use Rattle.ifr_opcodes.specs.Forest.{Node}
use Rattle.hii_questions.specs.Fields.{Asked, asked, question_with}
use Rattle.audit_json.specs.Objects.{object, word_member}
use Rattle.question_audit.specs.Audited.{Audited}
use Rattle.question_audit.specs.QuestionFacts.{form_of, no_question_words}
use Rattle.question_audit.specs.declared.origin.Origin.{Origin}
use Rattle.question_objects.specs.Conditions.{condition_lists}
use Rattle.question_objects.specs.Dependences.{dependence_members}
use Rattle.question_objects.specs.Heads.{head_members}
use Rattle.question_objects.specs.Limits.{kind_members}
use Rattle.question_objects.specs.Options.{options_member}
use Rattle.question_objects.specs.Values.{value_members}
use Rattle.question_objects.specs.Verdicts.{all_verdict_members}
use Rattle.question_objects.specs.declared.detail.Detail.{Detail}
use Rattle.question_objects.specs.declared.detail.Detail.TheVariants.{Alone}

-- what is told of each question, and what of it depends on the detail that is asked for
abbrev pub plain_members : Audited → ℕ → Option Node → Asked → List ℕ
plain_members a package_place form q =
    head_members a package_place form q ++ kind_members q ++ value_members a q ++ all_verdict_members a q

abbrev pub detail_members : Detail → Audited → ℕ → Node → List ℕ
detail_members detail a package_place n =
    condition_lists detail a package_place n ++ options_member detail a n
    ++ dependence_members detail a.world.nodes n

abbrev pub question_members : Detail → Audited → ℕ → Option Node → Asked → List ℕ
question_members detail a package_place form q =
    plain_members a package_place form q ++ detail_members detail a package_place q.node

abbrev pub question_object : Detail → Audited → ℕ → Option Node → Asked → List ℕ
question_object detail a package_place form q =
    object (codes "question") (question_members detail a package_place form q)

-- ---- the question of an id

-- that there is none
abbrev pub no_question_object : ℕ → List ℕ
no_question_object id = object (codes "error") (word_member (codes "text") (no_question_words id))

-- the question of an id, in its form
abbrev pub lone_object : Audited → Origin → Node → List ℕ
lone_object a origin n = question_object Alone a origin.place (form_of a.world.nodes n) (asked a.world.nodes n)

-- There is one, and this is what is known of it; or this says that there is none.
abbrev pub IsQuestionObject : Bool → Audited → Origin → ℕ → List ℕ → Type 0
IsQuestionObject true a origin id text =
    (n : Node) × (question_with a.world.nodes id ≡ Some n) × (text ≡ lone_object a origin n)
IsQuestionObject false a origin id text =
    (question_with a.world.nodes id ≡ None) × (text ≡ no_question_object id)

-- That is written.
abbrev pub TellsQuestionObject : Bool → Audited → Origin → ℕ → Pen → Pen → Type 0
TellsQuestionObject is_there a origin id old new =
    (text : List ℕ) × IsQuestionObject is_there a origin id text × Writes old new text

-- The text is the beginning of what is known of one, or nothing.
abbrev pub BeginsQuestionObjectText : Audited → Origin → ℕ → List ℕ → Type 0
BeginsQuestionObjectText a origin id text =
    (text ≡ [])
    ⊎ ((n : Node) × (question_with a.world.nodes id ≡ Some n) × (rest : List ℕ)
    × (lone_object a origin n ≡ text ++ rest))

-- That is written.
abbrev pub BeginsQuestionObject : Audited → Origin → ℕ → Pen → Pen → Type 0
BeginsQuestionObject a origin id old new =
    (text : List ℕ) × BeginsQuestionObjectText a origin id text × Writes old new text
