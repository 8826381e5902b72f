-- The line of a question (own rule).
use Rattle.std.specs.Prelude.{ℕ, ◌==◌, ◌&&◌, Bool, true, false, bytes_eq, if◌then◌else◌, Option, Some, None, List, [], ◌∷◌, ◌++◌, filter, replicate, codes, decimal}
use Rattle.std.specs.List.{find, flat_map, list_any}
use Rattle.hii_bytes.specs.Texts.{right_aligned, place_text}
use Rattle.ifr_opcodes.specs.Fields.{has_flag, question_flags, question_id, ref_form_set, statement_prompt}
use Rattle.ifr_opcodes.specs.Forest.{Node}
use Rattle.ifr_opcodes.specs.Opcode.{number}
use Rattle.ifr_opcodes.specs.declared.codes.TheConstants.{REF}
use Rattle.ifr_expr.specs.Meaning.{value}
use Rattle.ifr_expr.specs.Values.{Value, undefined}
use Rattle.ifr_nodes.specs.NodeExpressions.{expression_tree}
use Rattle.ifr_nodes.specs.Guards.{guards}
use Rattle.ifr_nodes.specs.Nodes.{is_store, this_of}
use Rattle.ifr_scopes.specs.Stores.{store_id, store_name}
use Rattle.hii_values.specs.Denials.{kind_name}
use Rattle.hii_questions.specs.Fields.{Asked, Field}
use Rattle.guard_policy.specs.Conditions.{condition_ids}
use Rattle.guard_policy.specs.Policy.{fixed}
use Rattle.guard_policy.specs.World.{World}
use Rattle.guard_policy.specs.declared.denial.Denial.{Denial}
use Rattle.form_page.specs.RowValues.{value_shown}
use Rattle.audit_text.specs.Texts.{ascii_name, guid_text, hex_text, left_aligned, safe_text}
use Rattle.audit_text.specs.Words.{opcode_name}
use Rattle.question_audit.specs.Audited.{Audited}
use Rattle.question_audit.specs.ScriptValues.{behind, default_value, stored_value}

-- ---- the verdict: `open`, or the kind of the denial with which `why` answers, and its place

abbrev pub verdict_columns : Option Denial → List ℕ
verdict_columns None = left_aligned 10 (codes "open") ++ replicate 9 32
verdict_columns (Some denial) =
    left_aligned 10 (kind_name denial.kind) ++ codes " " ++ place_text denial.place

-- ---- the field: NAME:0xOFFSET(WIDTH)

-- the store of an id, of any kind
abbrev pub store_with : List Node → ℕ → Option Node
store_with ns id = find (λ n. store_id n.op == id) (filter is_store ns)

abbrev pub name_of : Option Node → List ℕ
name_of None = []
name_of (Some store) = store_name store.op

abbrev pub field_text : List Node → Field → List ℕ
field_text ns field =
    ascii_name (name_of (store_with ns field.store))
    ++ codes ":0x" ++ hex_text field.offset
    ++ codes "(" ++ decimal field.width ++ codes ")"

abbrev pub field_columns : List Node → Option Field → List ℕ
field_columns ns None = left_aligned 18 (codes "-")
field_columns ns (Some field) = left_aligned 18 (field_text ns field)

-- ---- what the question's opcode says besides

abbrev pub word_where : Bool → List ℕ → List ℕ
word_where holds word = if holds then word else []

-- EFI_IFR_FLAG_CALLBACK and EFI_IFR_FLAG_RESET_REQUIRED (UEFI 2.8, 33.3.8.2.2)
abbrev pub flags_text : List ℕ → List ℕ
flags_text op =
    word_where (has_flag (question_flags op) 0x04) (codes " callback")
    ++ word_where (has_flag (question_flags op) 0x10) (codes " reset")

-- the form set to which a reference leads, if it names one (UEFI 2.8, 33.3.8.3, EFI_IFR_REF3): zeros name none
abbrev pub names_no_set : List ℕ → Bool
names_no_set guid = bytes_eq guid (replicate 16 0)

abbrev pub form_set_text : Option (List ℕ) → List ℕ
form_set_text None = []
form_set_text (Some guid) = if names_no_set guid then [] else codes " formset " ++ guid_text true guid

abbrev pub led_text : List ℕ → List ℕ
led_text op = if number op == REF then form_set_text (ref_form_set op) else []

-- ---- whether it is a guard that forbids a change for good: its condition names no question, in the rules that it names neither

abbrev pub names_none : List ℕ → Bool
names_none [] = true
names_none (id ∷ ids) = false

abbrev pub is_constant_guard : List Node → Node → Bool
is_constant_guard ns g = names_none (condition_ids ns g)

-- the guard that decides is the one at the place of the denial
abbrev pub is_constant_at : List Node → ℕ → Node → Bool
is_constant_at ns place g = g.place == place && is_constant_guard ns g

abbrev pub is_constant : List Node → Node → Option Denial → Bool
is_constant ns n None = false
is_constant ns n (Some denial) = list_any (is_constant_at ns denial.place) (guards n)

-- ---- the guards around it whose conditions are undefined, the outermost first

abbrev pub is_undefined : Value → Bool
is_undefined undefined = true
is_undefined _ = false

abbrev pub is_undefined_guard : Audited → Node → Bool
is_undefined_guard a g =
    is_undefined (value a.sources.rules a.sources.answers (this_of g) (expression_tree g))

abbrev pub undefined_guards : Audited → Node → List Node
undefined_guards a n = filter (is_undefined_guard a) (guards n)

abbrev pub places_behind : List Node → List ℕ
places_behind gs = flat_map (λ g. codes " " ++ place_text g.place) gs

abbrev pub undefined_text : List Node → List ℕ
undefined_text [] = []
undefined_text (g ∷ gs) = codes " undefined" ++ places_behind (g ∷ gs)

-- ---- the line

-- the id, the verdict, the opcode and the field, each in its column
abbrev pub columns_text : Audited → Asked → List ℕ
columns_text a q =
    right_aligned 5 (decimal (question_id q.node.op)) ++ codes " "
    ++ verdict_columns (fixed a.world q.node) ++ codes " "
    ++ left_aligned 12 (opcode_name (number q.node.op)) ++ codes " "
    ++ field_columns a.world.nodes q.field ++ codes " "

-- the same form set where no guard hides anything
abbrev pub unguarded : World → World
unguarded w = record { nodes = w.nodes; removed = []; met = λ n. false }

-- the value as a page would show it there, so with the text of an option that is hidden
abbrev pub value_told : Audited → Node → List ℕ
value_told a n = value_shown a.texts (unguarded a.world) a.stores n

-- whether a text has no character
abbrev pub has_no_text : List ℕ → Bool
has_no_text [] = true
has_no_text (c ∷ text) = false

abbrev pub told_value : Audited → Node → List ℕ
told_value a n = safe_text (value_told a n)

-- the whole prompt, and the value
abbrev pub shown_text : Audited → Node → List ℕ
shown_text a n =
    safe_text (a.texts (statement_prompt n.op)) ++ codes " [" ++ told_value a n ++ codes "]"

abbrev pub question_line : Audited → Asked → List ℕ
question_line a q =
    columns_text a q ++ shown_text a q.node
    ++ behind (codes " value ") (stored_value a.stores q)
    ++ behind (codes " default ") (default_value a q 0)
    ++ word_where (is_constant a.world.nodes q.node (fixed a.world q.node)) (codes " constant")
    ++ flags_text q.node.op ++ led_text q.node.op
    ++ undefined_text (undefined_guards a q.node) ++ codes "\n"
