-- A script that is run as a whole: what is told, and what is left to be written (own rule).
use Rattle.std.specs.Prelude.{ℕ, Bool, true, false, if◌then◌else◌, Option, Some, None, List, [], ◌∷◌, ◌++◌, codes, decimal, filter}
use Rattle.std.specs.List.{flat_map}
use Rattle.ifr_opcodes.specs.Fields.{question_id, statement_prompt}
use Rattle.ifr_opcodes.specs.Forest.{Node}
use Rattle.ifr_nodes.specs.Nodes.{nodes_of}
use Rattle.hii_varstore.specs.Stores.{StoreMap}
use Rattle.hii_questions.specs.Changes.{holds_others}
use Rattle.hii_questions.specs.Fields.{Asked, questions}
use Rattle.audit_json.specs.Objects.{member_key, number_member, object_kind}
use Rattle.audit_json.specs.Telling.{told_as}
use Rattle.audit_json.specs.declared.telling.Telling.{Telling}
use Rattle.session_steps.specs.State.{State}
use Rattle.script_audit.specs.Script.{commands_of, is_wide}
use Rattle.script_audit.specs.Told.{back, error_told, front, spelled}
use Rattle.script_audit.specs.Because.{stop_told}
use Rattle.script_audit.specs.Values.{Seen, value_told}
use Rattle.script_audit.specs.Walk.{Stop, Walk, seen, walk}

-- ---- questions that were not submitted, by place

abbrev pub unsubmitted : State → List Asked
unsubmitted s = filter (holds_others s.committed s.working) (questions (nodes_of s.ifr))

abbrev pub is_settled : List Asked → Bool
is_settled [] = true
is_settled (q ∷ qs) = false

abbrev pub id_told : Asked → List ℕ
id_told q = codes " " ++ decimal (question_id q.node.op)

abbrev pub ids_told : List Asked → List ℕ
ids_told qs = flat_map id_told qs

abbrev pub unsubmitted_told : Telling → List Asked → List ℕ
unsubmitted_told telling qs =
    front telling (codes "") (codes "error") (codes "text") ++ codes "not submitted:" ++ ids_told qs ++ back telling

-- ---- questions whose fields hold other bytes than at first, by place

-- the same form set over other stores
abbrev pub over_stores : Seen → StoreMap → Seen
over_stores a stores = record { texts = a.texts; world = a.world; stores = stores }

abbrev pub changed_front : Telling → ℕ → List ℕ
changed_front telling id =
    told_as telling (codes "CHANGED " ++ decimal id ++ codes " ")
    (object_kind (codes "changed") ++ number_member (codes "id") id ++ member_key (codes "prompt") ++ codes "\"")

abbrev pub change_told : Telling → Seen → StoreMap → StoreMap → Node → List ℕ
change_told telling a one other n =
    changed_front telling (question_id n.op)
    ++ spelled telling (a.texts (statement_prompt n.op))
    ++ told_as telling (codes " [") (codes "\"" ++ member_key (codes "old") ++ codes "\"")
    ++ value_told telling (over_stores a one) n
    ++ told_as telling (codes "] -> [") (codes "\"" ++ member_key (codes "new") ++ codes "\"")
    ++ value_told telling (over_stores a other) n
    ++ told_as telling (codes "]\n") (codes "\"}\n")

abbrev pub changes_told : Telling → Seen → StoreMap → StoreMap → List ℕ
changes_told telling a one other =
    flat_map (λ q. change_told telling a one other q.node) (filter (holds_others one other) (questions a.world.nodes))

-- ---- the end

-- what is told, and the state whose committed stores are to be written, if they are
pub record Applied : Type 0 where
  pub told : List ℕ
  pub left : Option State

abbrev pub end_of : Telling → StoreMap → State → List Asked → Applied
end_of telling first s [] = record { told = changes_told telling (seen s) first s.committed; left = Some s }
end_of telling first s (q ∷ qs) = record { told = unsubmitted_told telling (q ∷ qs); left = None }

-- Where a line was not answered with OK nothing is written.
abbrev pub ended : Telling → ℕ → StoreMap → State → Option Stop → Applied
ended telling package_place first s None = end_of telling first s (unsubmitted s)
ended telling package_place first s (Some stop) =
    record { told = stop_told telling package_place (seen s) stop.line stop.reply; left = None }

abbrev pub walked : Telling → ℕ → StoreMap → Walk → Applied
walked telling package_place first w =
    record {
      told = w.told ++ (ended telling package_place first w.state w.stop).told;
      left = (ended telling package_place first w.state w.stop).left;
    }

abbrev pub applied : Telling → ℕ → State → List ℕ → Applied
applied telling package_place s script =
    if is_wide script
    then record { told = error_told telling (codes "script: UTF-16, where UTF-8 is wanted"); left = None }
    else walked telling package_place s.committed (walk telling s (commands_of script))
