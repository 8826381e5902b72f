-- On which questions it depends whether a question may be changed, and which depend on it (own rule).
use Rattle.std.specs.Prelude.{ℕ, List, [], ◌++◌, codes, decimal, map}
use Rattle.ifr_opcodes.specs.Fields.{question_id}
use Rattle.ifr_opcodes.specs.Forest.{Node}
use Rattle.hii_questions.specs.Fields.{Asked}
use Rattle.audit_json.specs.Objects.{array_member}
use Rattle.question_audit.specs.Dependences.{decided_by, depends_word, support_ids}
use Rattle.question_audit.specs.declared.when.When.{When}
use Rattle.question_audit.specs.declared.when.When.TheVariants.{AtCommands, AtOpening}
use Rattle.question_objects.specs.declared.detail.Detail.{Detail}
use Rattle.question_objects.specs.declared.detail.Detail.TheVariants.{Alone, Listed}

-- those whose answers decide then, by their ids, rising
abbrev pub depends_member : When → List Node → Node → List ℕ
depends_member when ns n = array_member (depends_word when) (map decimal (support_ids when ns n))

-- those that it decides then, by place
abbrev pub decides_key : When → List ℕ
decides_key AtCommands = codes "decides"
decides_key AtOpening = codes "decidesAtOpening"

abbrev pub id_of : Asked → List ℕ
id_of q = decimal (question_id q.node.op)

abbrev pub decides_member : When → List Node → ℕ → List ℕ
decides_member when ns id = array_member (decides_key when) (map id_of (decided_by when ns id))

-- told of a question alone
abbrev pub dependence_members : Detail → List Node → Node → List ℕ
dependence_members Alone ns n =
    depends_member AtCommands ns n ++ depends_member AtOpening ns n
    ++ (decides_member AtCommands ns (question_id n.op) ++ decides_member AtOpening ns (question_id n.op))
dependence_members Listed ns n = []
