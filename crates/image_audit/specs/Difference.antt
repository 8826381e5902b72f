-- What one image holds otherwise than another one of the same form set (own rule).
use Rattle.std.specs.Prelude.{ℕ, suc, ◌+◌, ◌==◌, Bool, true, false, not, ◌&&◌, bytes_eq, if◌then◌else◌, Option, Some, None, List, [], ◌∷◌, ◌++◌, take, filter, codes, decimal}
use Rattle.std.specs.List.{flat_map}
use Rattle.ifr_opcodes.specs.Fields.{question_id, statement_prompt}
use Rattle.ifr_opcodes.specs.Forest.{Node}
use Rattle.ifr_nodes.specs.Nodes.{is_store}
use Rattle.ifr_scopes.specs.Stores.{store_id}
use Rattle.hii_varstore.specs.Stores.{StoreMap, bytes_of}
use Rattle.ifr_expr.specs.Values.{Value}
use Rattle.hii_values.specs.Denials.{kind_name}
use Rattle.hii_questions.specs.Answers.{value_of_field}
use Rattle.hii_questions.specs.Changes.{field_bytes, holds_others, with_field}
use Rattle.hii_questions.specs.Fields.{Asked, Field, questions}
use Rattle.guard_policy.specs.Policy.{fixed}
use Rattle.guard_policy.specs.declared.denial.Denial.{Denial}
use Rattle.audit_text.specs.Texts.{ascii_name, digits_of, hex_text, safe_text}
use Rattle.audit_json.specs.Json.{escaped, json_text}
use Rattle.audit_json.specs.Objects.{member, number_member, object, quoted, text_member, word_member}
use Rattle.audit_json.specs.Telling.{told_as}
use Rattle.audit_json.specs.declared.telling.Telling.{Telling}
use Rattle.question_objects.specs.Members.{shown_member}
use Rattle.question_objects.specs.Values.{script_member}
use Rattle.question_audit.specs.Audited.{Audited}
use Rattle.question_audit.specs.FormLines.{denial_text}
use Rattle.question_audit.specs.QuestionLines.{field_text, name_of, store_with, told_value, value_told, word_where}

-- ---- values: the questions whose fields hold other bytes, by place

abbrev pub value_line : Audited → Audited → Node → List ℕ
value_line a b n =
    codes "VALUE " ++ decimal (question_id n.op) ++ codes " "
    ++ safe_text (a.texts (statement_prompt n.op)) ++ codes " [" ++ told_value a n ++ codes "] -> ["
    ++ told_value b n ++ codes "]\n"

-- as an object, with the values as scripts take them, too; those of a PASSWORD are not told
abbrev pub shown_string : List ℕ → Audited → Node → List ℕ
shown_string key a n = member key (json_text (value_told a n))

abbrev pub question_members : Audited → Node → List ℕ
question_members a n =
    number_member (codes "id") (question_id n.op)
    ++ shown_member (codes "prompt") (a.texts (statement_prompt n.op)) ++ number_member (codes "at") n.place

abbrev pub range_string : List Node → Field → List ℕ
range_string ns field =
    quoted (escaped (ascii_name (name_of (store_with ns field.store))) ++ codes ":0x"
    ++ hex_text field.offset ++ codes "(" ++ decimal field.width ++ codes ")")

abbrev pub range_member : List Node → Option Field → List ℕ
range_member ns None = []
range_member ns (Some field) = member (codes "field") (range_string ns field)

abbrev pub value_in : StoreMap → Asked → Value
value_in stores q = value_of_field stores q.node q.field

abbrev pub value_member : List ℕ → Audited → Asked → List ℕ
value_member key a q = script_member key q.node (value_in a.stores q)

abbrev pub values_members : Audited → Audited → Asked → List ℕ
values_members a b q =
    value_member (codes "old") a q ++ value_member (codes "new") b q
    ++ shown_string (codes "oldShown") a q.node ++ shown_string (codes "newShown") b q.node

abbrev pub value_object : Audited → Audited → Asked → List ℕ
value_object a b q =
    object (codes "value")
    (question_members a q.node ++ range_member a.world.nodes q.field ++ values_members a b q)

abbrev pub value_told_as : Telling → Audited → Audited → Asked → List ℕ
value_told_as telling a b q = told_as telling (value_line a b q.node) (value_object a b q)

abbrev pub values_told : Telling → Audited → Audited → List ℕ
values_told telling a b =
    flat_map (value_told_as telling a b)
    (filter (holds_others a.stores b.stores) (questions a.world.nodes))

-- ---- bytes that no question's field has

-- the stores with other bytes in a field, if there are some
abbrev pub with_given : StoreMap → Option Field → Option (List ℕ) → StoreMap
with_given stores field None = stores
with_given stores field (Some bytes) = with_field stores field bytes

-- the stores, where the field of each of some questions was given what other stores hold in it
abbrev pub given_from : StoreMap → StoreMap → List Asked → StoreMap
given_from others stores [] = stores
given_from others stores (q ∷ qs) =
    given_from others (with_given stores q.field (field_bytes others q.field)) qs

-- how many bytes from the first on differ
abbrev pub differing : List ℕ → List ℕ → ℕ
differing [] ys = 0
differing (x ∷ xs) [] = 0
differing (x ∷ xs) (y ∷ ys) = if x == y then 0 else suc (differing xs ys)

-- as many bytes of a store from an offset on as differ
abbrev pub run_line : List Node → ℕ → ℕ → List ℕ → List ℕ → List ℕ
run_line ns store at xs ys =
    let width = differing xs ys in
    codes "BYTES " ++ field_text ns record { store = store; offset = at; width = width } ++ codes " "
    ++ digits_of false (take width xs) ++ codes " -> " ++ digits_of false (take width ys) ++ codes "\n"

abbrev pub run_members : List Node → ℕ → ℕ → ℕ → List ℕ → List ℕ → List ℕ
run_members ns store at width xs ys =
    number_member (codes "store") store ++ text_member (codes "name") (name_of (store_with ns store))
    ++ number_member (codes "offset") at ++ word_member (codes "old") (digits_of false (take width xs))
    ++ word_member (codes "new") (digits_of false (take width ys))

abbrev pub run_object : List Node → ℕ → ℕ → List ℕ → List ℕ → List ℕ
run_object ns store at xs ys =
    object (codes "bytes") (run_members ns store at (differing xs ys) xs ys)

abbrev pub run_told : Telling → List Node → ℕ → ℕ → List ℕ → List ℕ → List ℕ
run_told telling ns store at xs ys =
    told_as telling (run_line ns store at xs ys) (run_object ns store at xs ys)

-- A run begins at each byte that differs and has none before it that does.
abbrev pub runs_told : Telling → List Node → ℕ → Bool → ℕ → List ℕ → List ℕ → List ℕ
runs_told telling ns store inside at [] ys = []
runs_told telling ns store inside at (x ∷ xs) [] = []
runs_told telling ns store inside at (x ∷ xs) (y ∷ ys) =
    word_where (not (x == y) && not inside) (run_told telling ns store at (x ∷ xs) (y ∷ ys))
    ++ runs_told telling ns store (not (x == y)) (at + 1) xs ys

abbrev pub held_runs : Telling → List Node → ℕ → Option (List ℕ) → Option (List ℕ) → List ℕ
held_runs telling ns store (Some xs) (Some ys) = runs_told telling ns store false 0 xs ys
held_runs telling ns store _ _ = []

-- of all stores, by place; one of names and values holds no bytes
abbrev pub bytes_told : Telling → List Node → StoreMap → StoreMap → List ℕ
bytes_told telling ns one other =
    flat_map (λ n. held_runs telling ns (store_id n.op) (bytes_of one (store_id n.op)) (bytes_of other (store_id n.op)))
    (filter is_store ns)

-- What still differs where each field that differs was given what the other image holds in it, no question's field has.
abbrev pub gaps_told : Telling → List Node → StoreMap → StoreMap → List ℕ
gaps_told telling ns one other =
    bytes_told telling ns (given_from other one (filter (holds_others one other) (questions ns))) other

-- ---- verdicts: the questions of which other opcodes decide, by place

abbrev pub verdict_text : Option Denial → List ℕ
verdict_text None = codes "open"
verdict_text (Some denial) = denial_text denial

abbrev pub are_other_verdicts : Option Denial → Option Denial → Bool
are_other_verdicts None None = false
are_other_verdicts (Some d) (Some e) =
    not (bytes_eq (kind_name d.kind) (kind_name e.kind) && d.place == e.place)
are_other_verdicts _ _ = true

abbrev pub decides_otherwise : Audited → Audited → Asked → Bool
decides_otherwise a b q = are_other_verdicts (fixed a.world q.node) (fixed b.world q.node)

abbrev pub verdict_line : Audited → Audited → Node → List ℕ
verdict_line a b n =
    codes "VERDICT " ++ decimal (question_id n.op) ++ codes " ["
    ++ verdict_text (fixed a.world n) ++ codes " -> " ++ verdict_text (fixed b.world n) ++ codes "] "
    ++ safe_text (a.texts (statement_prompt n.op)) ++ codes "\n"

abbrev pub verdict_object : Audited → Audited → Node → List ℕ
verdict_object a b n =
    object (codes "verdict") (question_members a n
    ++ word_member (codes "old") (verdict_text (fixed a.world n))
    ++ word_member (codes "new") (verdict_text (fixed b.world n)))

abbrev pub verdict_told : Telling → Audited → Audited → Node → List ℕ
verdict_told telling a b n = told_as telling (verdict_line a b n) (verdict_object a b n)

abbrev pub verdicts_told : Telling → Audited → Audited → List ℕ
verdicts_told telling a b =
    flat_map (λ q. verdict_told telling a b q.node)
    (filter (decides_otherwise a b) (questions a.world.nodes))

-- ---- all of it

abbrev pub difference_told : Telling → Audited → Audited → List ℕ
difference_told telling a b =
    values_told telling a b ++ gaps_told telling a.world.nodes a.stores b.stores ++ verdicts_told telling a b
