-- Why a question may not be changed: each reason, in the order of the policy (own rule).
use Rattle.std.specs.Prelude.{ℕ, if◌then◌else◌, Option, Some, None, List, [], ◌∷◌, ◌++◌, codes, drop, filter, map}
use Rattle.std.specs.List.{flat_map}
use Rattle.ifr_opcodes.specs.Fields.{is_read_only}
use Rattle.ifr_opcodes.specs.Forest.{Node}
use Rattle.ifr_nodes.specs.Guards.{guards}
use Rattle.ifr_nodes.specs.Locks.{locks}
use Rattle.hii_values.specs.declared.denial.DenialKind.TheVariants.{GrayOutIf, Locked, Outside, ReadOnly}
use Rattle.hii_questions.specs.Fields.{Asked}
use Rattle.guard_policy.specs.Policy.{denied_by, grays_out, hides, hiding, is_never_changed}
use Rattle.guard_policy.specs.World.{World}
use Rattle.guard_policy.specs.declared.denial.Denial.{Denial}
use Rattle.question_audit.specs.FormLines.{denial_text}
use Rattle.question_audit.specs.ConditionFacts.{fact}

-- each of some guards that hides, then each GRAY_OUT_IF of them that holds
abbrev pub guard_reasons : World → List Node → List Denial
guard_reasons w gs =
    map hiding (filter (hides w) gs) ++ map (denied_by GrayOutIf) (filter (grays_out w) gs)

-- that it is read-only, then that it is outside
abbrev pub own_reasons : Asked → List Denial
own_reasons q =
    (if is_read_only q.node.op then denied_by ReadOnly q.node ∷ [] else [])
    ++ (if is_never_changed q then denied_by Outside q.node ∷ [] else [])

-- those of the guards around it, each LOCKED that locks it, and its own
abbrev pub all_reasons : World → Asked → List Denial
all_reasons w q =
    guard_reasons w (guards q.node) ++ map (denied_by Locked) (locks w.nodes q.node) ++ own_reasons q

-- the first of them decides
abbrev pub first_reason : List Denial → Option Denial
first_reason [] = None
first_reason (denial ∷ denials) = Some denial

-- and the others are told beside it
abbrev pub further : List Denial → List Denial
further denials = drop 1 denials

abbrev pub also_fact : Denial → List ℕ
also_fact denial = fact (codes "also") (denial_text denial)

abbrev pub also_facts : List Denial → List ℕ
also_facts denials = flat_map also_fact (further denials)
