-- How many questions of a form set may be changed, and how many not, by what forbids it (own rule).
use Rattle.std.specs.Prelude.{ℕ, Bool, true, false, ◌&&◌, ◌||◌, Option, Some, None, List, filter, length}
use Rattle.std.specs.List.{count_by}
use Rattle.ifr_opcodes.specs.Forest.{Node}
use Rattle.ifr_nodes.specs.Nodes.{is_form}
use Rattle.hii_values.specs.declared.denial.DenialKind.{DenialKind}
use Rattle.hii_values.specs.declared.denial.DenialKind.TheVariants.{DisableIf, GrayOutIf, SuppressIf}
use Rattle.hii_questions.specs.Fields.{Asked, questions}
use Rattle.guard_policy.specs.Policy.{fixed}
use Rattle.guard_policy.specs.World.{World}
use Rattle.guard_policy.specs.declared.denial.Denial.{Denial}
use Rattle.question_audit.specs.QuestionLines.{is_constant}
use Rattle.survey_audit.specs.declared.counts.Counts.{Counts}
use Rattle.survey_audit.specs.declared.standing.Standing.{Standing}
use Rattle.survey_audit.specs.declared.standing.Standing.TheVariants.{Open, Grayed, Hidden, Disabled, Fixed}
use Rattle.survey_audit.specs.declared.tally.Tally.{Tally}

-- as what a question counts, by the denial with which `why` answers
abbrev pub kind_standing : DenialKind → Standing
kind_standing GrayOutIf = Grayed
kind_standing SuppressIf = Hidden
kind_standing DisableIf = Disabled
kind_standing _ = Fixed

abbrev pub standing_of : Option Denial → Standing
standing_of None = Open
standing_of (Some denial) = kind_standing denial.kind

abbrev pub standing : World → Node → Standing
standing w n = standing_of (fixed w n)

-- ---- the tests of them

abbrev pub is_open : Standing → Bool
is_open Open = true
is_open _ = false

abbrev pub is_grayed : Standing → Bool
is_grayed Grayed = true
is_grayed _ = false

abbrev pub is_hidden : Standing → Bool
is_hidden Hidden = true
is_hidden _ = false

abbrev pub is_disabled : Standing → Bool
is_disabled Disabled = true
is_disabled _ = false

abbrev pub is_fixed : Standing → Bool
is_fixed Fixed = true
is_fixed _ = false

-- whether a guard forbids it, and on the line of `questions` stands ` constant`
abbrev pub is_guarded : Standing → Bool
is_guarded s = is_grayed s || (is_hidden s || is_disabled s)

abbrev pub is_for_good : World → Node → Bool
is_for_good w n = is_guarded (standing w n) && is_constant w.nodes n (fixed w n)

-- ---- how many there are

-- of some questions
abbrev pub tally_of : World → List Asked → Tally
tally_of w qs = record {
  changeable = count_by (λ (q : Asked). is_open (standing w q.node)) qs;
  grayed = count_by (λ (q : Asked). is_grayed (standing w q.node)) qs;
  hidden = count_by (λ (q : Asked). is_hidden (standing w q.node)) qs;
  disabled = count_by (λ (q : Asked). is_disabled (standing w q.node)) qs;
  fixed = count_by (λ (q : Asked). is_fixed (standing w q.node)) qs;
  constant = count_by (λ (q : Asked). is_for_good w q.node) qs;
}

-- of a form set
abbrev pub counts_of : World → Counts
counts_of w = record {
  forms = length (filter is_form w.nodes);
  questions = length (questions w.nodes);
  tally = tally_of w (questions w.nodes);
}
