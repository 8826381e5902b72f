-- Which questions decide on which, by the ids of those that decide.
use Rattle.std.specs.Prelude.{◌≡◌, ◌<◌, ℕ, Bool, List, filter, map}
use Rattle.std.specs.List.Sorted.{IsSortedByKey}
use Rattle.std.specs.Ordering.{is_eq, nat_cmp}
use Rattle.ifr_opcodes.specs.Forest.{Node}
use Rattle.hii_questions.specs.Fields.{Asked}
use Rattle.hii_questions.specs.code.Views.{question_view}
use Rattle.question_audit.specs.Dependences.{decided_by, support_ids}
use Rattle.question_audit.specs.declared.when.When.{When}
use Rattle.question_audit.specs.declared.when.When.TheVariants.{AtCommands, AtOpening}
use Rattle.question_rows.specs.declared.decisions.Decision.{Decision}
use Rattle.question_rows.specs.declared.decisions.Decisions.{Decisions}

-- the id that decides, and the other question
abbrev pub told : Decision → ℕ × Asked
told d = (d.by, question_view d.on)

abbrev pub is_by : ℕ → Decision → Bool
is_by id d = is_eq (nat_cmp d.by id)

-- what decides then on a question, by rising ids
abbrev pub decisions_on : When → List Node → Asked → List (ℕ × Asked)
decisions_on when ns q = map (λ id. (id, q)) (support_ids when ns q.node)

-- These are the decisions then of a form set, by rising ids; those of one id are on the questions that it decides, by place.
pub record AreDecisions (when : When) (ns : List Node) (ds : List Decision) : Type 0 where
  pub rise : IsSortedByKey (λ (d : Decision). d.by) nat_cmp ds
  pub its : (id : ℕ) → id < 65536 → map (λ (d : Decision). question_view d.on) (filter (is_by id) ds) ≡ decided_by when ns id

pub record TellsDecisions (ns : List Node) (ds : Decisions) : Type 0 where
  pub at_commands : AreDecisions AtCommands ns ds.at_commands.items
  pub at_opening : AreDecisions AtOpening ns ds.at_opening.items
