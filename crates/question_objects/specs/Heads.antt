-- What the opcode of a question says of it (own rule).
use Rattle.std.specs.Prelude.{ℕ, Option, Some, None, List, [], ◌++◌, codes}
use Rattle.ifr_opcodes.specs.Fields.{form_id, question_id, statement_help, statement_prompt}
use Rattle.ifr_opcodes.specs.Forest.{Node}
use Rattle.ifr_opcodes.specs.Opcode.{number}
use Rattle.ifr_scopes.specs.Stores.{store_guid}
use Rattle.hii_questions.specs.Fields.{Asked, Field}
use Rattle.audit_json.specs.Objects.{guid_member, number_member, text_member, word_member}
use Rattle.audit_text.specs.Words.{opcode_name}
use Rattle.question_audit.specs.Audited.{Audited}
use Rattle.question_audit.specs.QuestionLines.{name_of, store_with}
use Rattle.question_objects.specs.Members.{place_members, shown_member}

-- the form in which it stands
abbrev pub form_member : Option Node → List ℕ
form_member None = []
form_member (Some form) = number_member (codes "form") (form_id form.op)

-- its id, its form, its opcode and the places of this
abbrev pub id_members : ℕ → Option Node → Node → List ℕ
id_members package_place form n =
    number_member (codes "id") (question_id n.op) ++ form_member form
    ++ word_member (codes "opcode") (opcode_name (number n.op)) ++ place_members package_place n

abbrev pub text_members : Audited → Node → List ℕ
text_members a n =
    shown_member (codes "prompt") (a.texts (statement_prompt n.op))
    ++ shown_member (codes "help") (a.texts (statement_help n.op))

-- the store of its field: its id, its name, its GUID
abbrev pub guid_of_store : Option Node → List ℕ
guid_of_store None = []
guid_of_store (Some store) = guid_member (codes "guid") (store_guid store.op)

abbrev pub store_members : List Node → ℕ → List ℕ
store_members ns id =
    number_member (codes "store") id ++ text_member (codes "name") (name_of (store_with ns id))
    ++ guid_of_store (store_with ns id)

-- where its field lies, if it has one, in bytes of the store
abbrev pub field_members : List Node → Option Field → List ℕ
field_members ns None = []
field_members ns (Some field) =
    store_members ns field.store ++ number_member (codes "offset") field.offset
    ++ number_member (codes "width") field.width

abbrev pub head_members : Audited → ℕ → Option Node → Asked → List ℕ
head_members a package_place form q =
    id_members package_place form q.node ++ text_members a q.node ++ field_members a.world.nodes q.field
