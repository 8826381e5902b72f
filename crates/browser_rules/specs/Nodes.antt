-- Nodes by what they are, and what stands in and around them (UEFI 2.8, 33.3.8.3; which LOCKED decides is an own rule).
use Rattle.std.specs.Prelude.{ℕ, ◌+◌, Bool, ◌==◌, ◌&&◌, ◌||◌, nat_lt, if◌then◌else◌, Option, Some, None, option_map}
use Rattle.std.specs.Prelude.{unwrap_or, List, [], ◌∷◌, ◌++◌, length, map, filter, reverse}
use Rattle.std.specs.List.{find, flat_map}
use Rattle.browser_rules.specs.Words.{first, last, is_some_and}
use Rattle.browser_rules.specs.Opcodes.{field_in, a_statement, a_question, a_guard, an_option, is_a, is_the}
use Rattle.browser_rules.specs.Opcodes.{wants_value, field, QUESTION_HEADER, FORM, RULE, LOCKED, Opcode}
use Rattle.browser_rules.specs.Forest.{Forest, none, node, Ancestor, Node, as_ancestor, below, end_of}
use Rattle.browser_rules.specs.Expressions.{Mark, expression_in, Rule}

-- ---- what a node is

abbrev pub is : Opcode → Node → Bool
is o n = is_the o n.op

abbrev pub is_question : Node → Bool
is_question n = is_a a_question n.op

abbrev pub question_id : Node → ℕ
question_id n = field_in QUESTION_HEADER "QuestionId" n.op

-- the first form of an id by place, whatever guards it
abbrev pub form_with : List Node → ℕ → Option Node
form_with ns id = find (λ n. is FORM n && field FORM "FormId" n.op == id) ns

-- the form of this form set to which a reference leads: it has 15 to 32 bytes, and a form id that is not 0 (own rule);
-- a shorter one names none (EFI_IFR_REF5), a longer one names a form set (EFI_IFR_REF3 and REF4)
abbrev pub ref_target : Node → Option ℕ
ref_target n =
    let form_id = field_in (QUESTION_HEADER ++ ("FormId", 2) ∷ []) "FormId" n.op in
    if nat_lt (length n.op) 15 || nat_lt 32 (length n.op) || form_id == 0 then None else Some form_id

-- ---- what stands in it: the statements of a form, questions among them; what the scope of a question holds of a kind

abbrev pub statements : Node → List Node
statements form = filter (λ n. is_a a_statement n.op || is_question n) (below form)

abbrev pub in_question : (Node → Bool) → Node → List Node
in_question test q = filter test (below q)

abbrev pub options : Node → List Node
options q = in_question (λ n. is_a an_option n.op) q

-- the expression that the scope of a node begins with, and that of the VALUE that the scope of a default begins with
abbrev pub expression_of : Node → List Mark
expression_of n = expression_in (n.place + length n.op) n.children

abbrev pub expression_behind : ℕ → Forest → List Mark
expression_behind at none = []
expression_behind at (node op children rest) = expression_in (at + length op) children

abbrev pub default_expression : Node → Option (List Mark)
default_expression n =
    if wants_value n.op then Some (expression_behind (n.place + length n.op) n.children) else None

-- ---- what is around it

-- the id of the innermost question in whose scope it stands, 0 where there is none (EFI_IFR_THIS)
abbrev pub this_of : Node → ℕ
this_of n =
    unwrap_or
    (option_map (λ a. field_in QUESTION_HEADER "QuestionId" a.op) (last (filter (λ a. is_a a_question a.op) n.path)))
    0

-- the guards around it, outermost first, each as a node
abbrev pub as_nodes : List Ancestor → List Ancestor → List Node
as_nodes around [] = []
as_nodes around (a ∷ path) =
    record { place = a.place; op = a.op; path = around; children = a.children } ∷ as_nodes (around ++ a ∷ []) path

abbrev pub guards : Node → List Node
guards n = filter (λ m. is_a a_guard m.op) (as_nodes [] n.path)

-- A LOCKED locks what it directly stands in and all that is inside of that, before it and behind it; one that stands in
-- a guard locks what is in that guard. Of several the one in the outermost scope decides, then the first by place.
abbrev pub lock_of : List Node → Node → Option Node
lock_of ns n =
    let locks : ℕ → Node → Bool = λ place m. is LOCKED m && is_some_and (λ a. a.place == place) (last m.path) in
    first (flat_map (λ place. filter (locks place) ns) (map (λ a. a.place) n.path ++ n.place ∷ []))

-- ---- the rules among nodes, the latest first

abbrev pub form_end : List Ancestor → ℕ
form_end path = unwrap_or (option_map end_of (last (filter (λ a. is_the FORM a.op) path))) 0

abbrev pub as_rule : Node → Rule
as_rule n = record {
  id = field RULE "RuleId" n.op;
  ends = end_of (as_ancestor n);
  form_ends = form_end n.path;
  opcodes = expression_of n;
}

abbrev pub rules_of : List Node → List Rule
rules_of ns = map as_rule (reverse (filter (is RULE) ns))
