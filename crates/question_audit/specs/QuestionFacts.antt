-- What is known of one question, a line for each fact (own rule).
use Rattle.std.specs.Prelude.{◌≡◌, ◌⊎◌, ℕ, ◌+◌, Bool, true, false, ◌==◌, if◌then◌else◌, Option, Some, None, List, [], ◌∷◌, ◌++◌, filter, codes, decimal}
use Rattle.std.specs.List.{find, list_any}
use Rattle.hii_bytes.specs.Watching.{Pen, Writes}
use Rattle.hii_bytes.specs.Texts.{place_text}
use Rattle.ifr_opcodes.specs.Fields.{question_id, statement_help, statement_prompt}
use Rattle.ifr_opcodes.specs.Forest.{Node}
use Rattle.ifr_opcodes.specs.Opcode.{number}
use Rattle.ifr_opcodes.specs.declared.codes.TheConstants.{ONE_OF}
use Rattle.ifr_expr.specs.Values.{Value, natural}
use Rattle.ifr_nodes.specs.Nodes.{is_form, statements}
use Rattle.ifr_scopes.specs.Stores.{store_guid}
use Rattle.hii_questions.specs.Answers.{value_of_field}
use Rattle.hii_questions.specs.Fields.{Asked, Field, asked, question_with}
use Rattle.guard_policy.specs.Policy.{fixed}
use Rattle.form_page.specs.RowValues.{choice}
use Rattle.audit_text.specs.Texts.{guid_text, hex_text, safe_text}
use Rattle.audit_text.specs.Words.{opcode_name}
use Rattle.question_audit.specs.Audited.{Audited}
use Rattle.question_audit.specs.FormLines.{form_text}
use Rattle.question_audit.specs.QuestionLines.{field_text, is_undefined, store_with, unguarded}
use Rattle.question_audit.specs.Reach.{TellsReached}
use Rattle.question_audit.specs.ScriptValues.{behind, default_taken, script_value}
use Rattle.question_audit.specs.ConditionFacts.{check_facts, fact, guard_facts, id_text, verdict_text}
use Rattle.question_audit.specs.Dependences.{all_decides_facts, depends_facts}
use Rattle.question_audit.specs.Limits.{flags_fact, limits_fact, outside_fact}
use Rattle.question_audit.specs.OptionFacts.{option_facts}
use Rattle.question_audit.specs.Origins.{holder_text}
use Rattle.question_audit.specs.Reasons.{all_reasons, also_facts}
use Rattle.question_audit.specs.RuleFacts.{rule_facts}
use Rattle.question_audit.specs.declared.origin.Origin.{Origin}
use Rattle.question_audit.specs.declared.when.When.TheVariants.{AtCommands, AtOpening}

-- ---- what its opcode says

abbrev pub prompt_line : Audited → Node → List ℕ
prompt_line a n =
    codes "QUESTION " ++ id_text (question_id n.op) ++ codes " "
    ++ safe_text (a.texts (statement_prompt n.op)) ++ codes "\n"

abbrev pub help_fact : List ℕ → List ℕ
help_fact [] = []
help_fact (c ∷ text) = fact (codes "help") (safe_text (c ∷ text))

-- the form in whose scope a question stands
abbrev pub has_within : Node → Node → Bool
has_within n form = list_any (λ m. m.place == n.place) (statements form)

abbrev pub form_of : List Node → Node → Option Node
form_of ns n = find (has_within n) (filter is_form ns)

abbrev pub form_fact : Audited → (ℕ → Bool) → Option Node → List ℕ
form_fact a is_reached None = []
form_fact a is_reached (Some form) = fact (codes "form") (form_text a is_reached form)

-- the place of its opcode in its forms package, and its byte in the file, where the package stands at a place
abbrev pub opcode_fact : Origin → Node → List ℕ
opcode_fact origin n =
    fact (codes "opcode")
    (opcode_name (number n.op) ++ codes " at " ++ place_text n.place
    ++ codes ", byte " ++ hex_text (origin.place + n.place) ++ holder_text origin.holder)

abbrev pub guid_behind : Option Node → List ℕ
guid_behind None = []
guid_behind (Some store) = codes " " ++ guid_text true (store_guid store.op)

abbrev pub field_fact : List Node → Option Field → List ℕ
field_fact ns None = []
field_fact ns (Some field) =
    fact (codes "field")
    (field_text ns field ++ codes ", varstore " ++ decimal field.store
    ++ guid_behind (store_with ns field.store))

-- ---- its value and its defaults

-- the text of the option that a value of a ONE_OF is, whether it is hidden or not
abbrev pub behind_number : Option (List ℕ) → List ℕ
behind_number None = []
behind_number (Some text) = codes " " ++ safe_text text

abbrev pub choice_behind : Audited → Node → Value → List ℕ
choice_behind a n (natural m) = behind_number (choice a.texts (unguarded a.world) n m)
choice_behind a n _ = []

abbrev pub option_behind : Audited → Node → Value → List ℕ
option_behind a n its = if number n.op == ONE_OF then choice_behind a n its else []

-- of a question that has a value; that of a PASSWORD is not told
abbrev pub value_text : Audited → Node → Value → List ℕ
value_text a n its = behind [] (script_value n its) ++ option_behind a n its

abbrev pub value_line : Audited → Node → Value → List ℕ
value_line a n its = if is_undefined its then [] else fact (codes "value") (value_text a n its)

abbrev pub value_fact : Audited → Asked → List ℕ
value_fact a q = value_line a q.node (value_of_field a.stores q.node q.field)

-- the default of a class, which has a name, where the question takes it (UEFI 2.8, 33.2.5.8 Defaults)
abbrev pub told_default : List ℕ → List ℕ → Option (List ℕ) → List ℕ
told_default name choice None = []
told_default name choice (Some its) =
    fact (codes "default") (its ++ choice ++ codes " (" ++ name ++ codes ")")

abbrev pub named_default : Audited → Node → List ℕ → Option Value → List ℕ
named_default a n name None = []
named_default a n name (Some its) = told_default name (option_behind a n its) (script_value n its)

abbrev pub default_fact : Audited → Asked → ℕ → List ℕ → List ℕ
default_fact a q class name = named_default a q.node name (default_taken a q class)

-- ---- all that is known

-- the verdict is the first of all reasons
abbrev pub verdict_fact : Audited → Node → List ℕ
verdict_fact a n = fact (codes "verdict") (verdict_text (fixed a.world n))

abbrev pub verdict_facts : Audited → Asked → List ℕ
verdict_facts a q = verdict_fact a q.node ++ also_facts (all_reasons a.world q)

-- what its opcode says, by what tells which forms are reached
abbrev pub opcode_facts : Audited → (ℕ → Bool) → Origin → Asked → List ℕ
opcode_facts a is_reached origin q =
    prompt_line a q.node ++ help_fact (a.texts (statement_help q.node.op))
    ++ form_fact a is_reached (form_of a.world.nodes q.node)
    ++ opcode_fact origin q.node ++ field_fact a.world.nodes q.field

-- its flags, what it takes or where it leads, and why it has no value here
abbrev pub kind_facts : Audited → Asked → List ℕ
kind_facts a q = flags_fact q.node.op ++ limits_fact a q.node ++ outside_fact q

-- its value, its defaults of the classes standard and manufacturing
abbrev pub value_facts : Audited → Asked → List ℕ
value_facts a q =
    value_fact a q ++ default_fact a q 0 (codes "standard")
    ++ default_fact a q 1 (codes "manufacturing")

-- the conditions around it and in it, the rules that they name, and its options
abbrev pub condition_facts : Audited → ℕ → Node → List ℕ
condition_facts a package_place n =
    guard_facts a package_place n ++ check_facts a package_place n ++ rule_facts a package_place n
    ++ option_facts a n

-- on which questions it depends, and which depend on it
abbrev pub dependence_facts : Audited → Node → List ℕ
dependence_facts a n =
    depends_facts AtCommands a n ++ depends_facts AtOpening a n ++ all_decides_facts a n

abbrev pub question_facts : Audited → (ℕ → Bool) → Origin → Asked → List ℕ
question_facts a is_reached origin q =
    opcode_facts a is_reached origin q ++ kind_facts a q ++ value_facts a q
    ++ verdict_facts a q ++ condition_facts a origin.place q.node ++ dependence_facts a q.node

-- ---- the question of an id

abbrev pub no_question_words : ℕ → List ℕ
no_question_words id = codes "NO QUESTION " ++ decimal id

abbrev pub no_question : ℕ → List ℕ
no_question id = no_question_words id ++ codes "\n"

-- There is one, and this is what is known of it, by what tells which forms are reached; or this says that there is none.
abbrev pub IsQuestionText : Bool → Audited → Origin → ℕ → List ℕ → Type 0
IsQuestionText true a origin id text =
    (n : Node) × (question_with a.world.nodes id ≡ Some n) × (is_reached : ℕ → Bool)
    × TellsReached a.world is_reached
    × (text ≡ question_facts a is_reached origin (asked a.world.nodes n))
IsQuestionText false a origin id text =
    (question_with a.world.nodes id ≡ None) × (text ≡ no_question id)

-- That is written.
abbrev pub TellsQuestion : Bool → Audited → Origin → ℕ → Pen → Pen → Type 0
TellsQuestion is_there a origin id old new =
    (text : List ℕ) × IsQuestionText is_there a origin id text × Writes old new text

-- The text is the beginning of what is known of one, or nothing.
abbrev pub BeginsQuestionText : Audited → Origin → ℕ → List ℕ → Type 0
BeginsQuestionText a origin id text =
    (text ≡ [])
    ⊎ ((n : Node) × (question_with a.world.nodes id ≡ Some n) × (is_reached : ℕ → Bool)
    × TellsReached a.world is_reached × (rest : List ℕ)
    × (question_facts a is_reached origin (asked a.world.nodes n) ≡ text ++ rest))

-- That is written.
abbrev pub BeginsQuestion : Audited → Origin → ℕ → Pen → Pen → Type 0
BeginsQuestion a origin id old new =
    (text : List ℕ) × BeginsQuestionText a origin id text × Writes old new text
