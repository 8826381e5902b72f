-- Over a checked package conditions are met by the chapters where they are met by the contracts.
use Rattle.std.proofs.Common.{◌≡◌, ◌==◌, ℕ, zero, suc, ◌+◌, Bool, true, false, Option, Some, None, List, [], ◌∷◌, ◌++◌, length, drop, map, refl, sym, ap, subst, ◌∙◌, arith, lit<}
use Rattle.std.specs.Prelude.{◌||◌, Contains, filter, option_map, unwrap_or}
use Rattle.std.specs.List.{AllByRecursion, last_or}
use Rattle.std.proofs.Math.Path.{fun_ext}
use Rattle.std.proofs.lemmas.List.{get_or-drop}
use Rattle.browser_rules.specs.Expressions as chapter
use Rattle.browser_rules.specs.Forest.{end_of}
use Rattle.browser_rules.specs.Nodes as rows
use Rattle.browser_rules.specs.Opcodes.{field, is_the, FORM, RULE}
use Rattle.browser_rules.specs.Opcodes as table
use Rattle.browser_rules.specs.Policy as decisions
use Rattle.browser_rules.specs.Questions as questions
use Rattle.browser_rules.specs.Stores.{Stores}
use Rattle.browser_rules.specs.Values as values
use Rattle.browser_rules.specs.Words.{last}
use Rattle.hii_bytes.specs.Faults.{HasNone}
use Rattle.hii_bytes.specs.Numbers.{AreBytes}
use Rattle.ifr_opcodes.specs.Forest.{Forest, none, node, flat, AreNodes, Ancestor, Mark, Node, SpellsForest, as_ancestor}
use Rattle.ifr_opcodes.specs.Opcode.{number}
use Rattle.ifr_opcodes.specs.Rows.{is_operator, is_condition_number}
use Rattle.ifr_opcodes.specs.Reading.{tree_of}
use Rattle.ifr_opcodes.specs.declared.codes.TheConstants as numbers
use Rattle.ifr_expr.specs.Faults.{IsExpressionFault}
use Rattle.ifr_expr.specs.Meaning.{Rule, value}
use Rattle.ifr_expr.specs.Reading.{tree_in, tree_of_opcodes}
use Rattle.ifr_expr.specs.Trees.{Tree, Means, IsFitting, expression, post}
use Rattle.ifr_expr.specs.code.Bytes.{opcodes_of}
use Rattle.ifr_expr.proofs.CheckLemmas.{done_where_sound, one_value}
use Rattle.ifr_expr.proofs.NodeLemmas.{is_expression_node, opcodes_are}
use Rattle.ifr_nodes.specs.Checked.{IsChecked}
use Rattle.ifr_nodes.specs.NodeExpressions.{expression_tree}
use Rattle.ifr_nodes.specs.Guards.{is_guard}
use Rattle.ifr_nodes.specs.Nodes.{nodes_of, this_of}
use Rattle.ifr_nodes.specs.Rules.{end_or_0, form_end, forms_among, rule_nodes, rules_among}
use Rattle.ifr_nodes.specs.Rules as rules
use Rattle.ifr_nodes.specs.Table.{wants_expression}
use Rattle.ifr_nodes.proofs.BehindLemmas.{is_node_of}
use Rattle.ifr_nodes.proofs.NodeFactLemmas.{HasCondition, has_condition}
use Rattle.ifr_nodes.proofs.PlaceLemmas.{node_stands}
use Rattle.ifr_nodes.proofs.RuleOrderLemmas.{rule_there}
use Rattle.ifr_nodes.proofs.ViewLemmas.{below_within, further}
use Rattle.hii_varstore.specs.Stores.{StoreMap}
use Rattle.hii_questions.specs.Answers.{answers}
use Rattle.guard_policy.specs.World.{is_met_over, world_over}
use Rattle.rules_laws.specs.laws.Opcodes.{mark_for, rule_for, value_for, AreGoodRules, AreOfBytes}
use Rattle.rules_laws.specs.laws.Policy.{AnswerAlike, AreAlike}
use Rattle.rules_laws.proofs.NodeLemmas.{last_same, this_same}
use Rattle.rules_laws.proofs.OpcodeExpressionLemmas.{holds_same, opcodes_same, value_same}
use Rattle.rules_laws.proofs.OpcodeScopeLemmas.{wanted_same}

-- ---- the opcodes of a package are bytes

pub front_bytes : (xs ys : List ℕ) → AreBytes (xs ++ ys) → AreBytes xs
front_bytes [] ys are k = lit< tt
front_bytes (x ∷ xs) ys are zero = are 0
front_bytes (x ∷ xs) ys are (suc k) = front_bytes xs ys (λ i. are (suc i)) k

opcode_bytes : (bytes : List ℕ) (n : Node) → AreBytes bytes → SpellsForest bytes (tree_of bytes) → Contains (nodes_of bytes) n → AreBytes n.op
opcode_bytes bytes n are spells within =
    let its = flat (node n.op n.children none) in
    let stood = node_stands bytes (tree_of bytes) n spells within in
    let from_its_place : AreBytes (drop n.place bytes) = λ k. rw (get_or-drop n.place bytes k 0) (are (n.place + k)) in
    front_bytes n.op _ (front_bytes its stood.0 (subst AreBytes stood.1 from_its_place))

all_of : {X : Type 0} (P : X → Type 0) (xs : List X) → ((x : X) → Contains xs x → P x) → AllByRecursion P xs
all_of P [] each = tt
all_of P (x ∷ xs) each = (each x (0, omega arith, refl), all_of P xs (λ y there. each y (further x xs y there)))

mark_bytes : (bytes : List ℕ) (n : Node) (m : Mark) → AreBytes bytes → SpellsForest bytes (tree_of bytes) → Contains (nodes_of bytes) n → Contains (expression n.place n.op n.children) m → AreBytes m.op
mark_bytes bytes n m are spells within (zero, lt, e) = subst (λ (x : Mark). AreBytes x.op) e (opcode_bytes bytes n are spells within)
mark_bytes bytes n m are spells within (suc k, lt, e) =
    let inner = is_node_of n.children (n.place + length n.op) (n.path ++ as_ancestor n ∷ []) m (k, omega arith, e) in
    subst (λ (x : Mark). AreBytes x.op) inner.2 (opcode_bytes bytes inner.0 are spells (below_within (tree_of bytes) 4 [] n inner.0 within inner.1))

-- ---- an expression without fault means its tree

meant : (at : ℕ) (op : List ℕ) (children : Forest) → AreNodes (node op children none) → is_operator (number op) ≡ true → HasNone (IsExpressionFault at (expression at op children))
    → Means (expression at op children) (tree_of_opcodes (expression at op children))
meant at op children h operator sound =
    let bytes : List ℕ = flat (node op children none) in
    let same : opcodes_of at bytes ≡ expression at op children = opcodes_are at bytes op children h refl in
    let done = done_where_sound at bytes (is_expression_node bytes op children h refl operator) (subst (λ (l : List Mark). HasNone (IsExpressionFault at l)) (sym same) sound) in
    subst (λ (l : List Mark). Means l (tree_of_opcodes l)) same (one_value (opcodes_of at bytes) done.told).0

-- The condition of a node is a tree, and its opcodes are those of the chapters.
record IsMeant (n : Node) : Type 0 where
  opcodes : rows.expression_of n ≡ map mark_for (post (expression_tree n))
  fitting : IsFitting (expression_tree n)
  of_bytes : AreOfBytes (post (expression_tree n))

is_meant : (bytes : List ℕ) (n : Node) → IsChecked bytes → AreBytes bytes → Contains (nodes_of bytes) n → wants_expression (number n.op) ≡ true → IsMeant n
is_meant bytes n checked are within wants = record {
  opcodes = ap (chapter.expression_in from) h.first ∙ opcodes_same from h.op h.children ∙ ap (λ (l : List Mark). map mark_for l) (sym means.spelled) ∙ ap (λ (t : Tree). map mark_for (post t)) (sym tree);
  fitting = subst IsFitting (sym tree) means.fitting;
  of_bytes = subst (λ (t : Tree). AreOfBytes (post t)) (sym tree) (subst AreOfBytes (sym means.spelled) (all_of (λ (m : Mark). AreBytes m.op) marks (λ m there. mark_bytes bytes child m are checked.spelled h.within there)));
}
  where
    from : ℕ
    from = n.place + length n.op

    h : HasCondition bytes n
    h = has_condition bytes n checked within wants

    child : Node
    child = record { place = from; op = h.op; path = n.path ++ as_ancestor n ∷ []; children = h.children }

    marks : List Mark
    marks = expression from h.op h.children

    means : Means marks (tree_of_opcodes marks)
    means = meant from h.op h.children (node_stands bytes (tree_of bytes) child checked.spelled h.within).2 h.operator h.sound

    tree : expression_tree n ≡ tree_of_opcodes marks
    tree = ap (tree_in from) h.first

-- ---- rules

ends_same : (path : List Ancestor) → unwrap_or (option_map end_of (last (filter (λ (a : Ancestor). is_the FORM a.op) path))) 0 ≡ form_end path
ends_same path = ap (λ (o : Option Ancestor). unwrap_or (option_map end_of o) 0) (last_same (forms_among path)) ∙ of_found (last_or None (forms_among path))
  where
    of_found : (o : Option Ancestor) → unwrap_or (option_map end_of o) 0 ≡ end_or_0 o
    of_found None = refl
    of_found (Some a) = refl

-- a rule, as the chapters have it
abbrev chapter_rule : Node → chapter.Rule
chapter_rule n = record {
  id = field RULE "RuleId" n.op;
  ends = end_of (as_ancestor n);
  form_ends = unwrap_or (option_map end_of (last (filter (λ a. is_the FORM a.op) n.path))) 0;
  opcodes = rows.expression_of n;
}

abbrev rule_with : Node → ℕ → List chapter.Mark → chapter.Rule
rule_with n form_ends marks = record { id = field RULE "RuleId" n.op; ends = end_of (as_ancestor n); form_ends = form_ends; opcodes = marks }

rule_same : (n : Node) → IsMeant n → chapter_rule n ≡ rule_for (rules.as_rule n)
rule_same n m =
    ap (λ (ends : ℕ). rule_with n ends (rows.expression_of n)) (ends_same n.path)
    ∙ ap (λ (marks : List chapter.Mark). rule_with n (form_end n.path) marks) m.opcodes

maps_same : (ns : List Node) → ((n : Node) → Contains ns n → IsMeant n) → map chapter_rule ns ≡ map rule_for (map rules.as_rule ns)
maps_same [] each = refl
maps_same (n ∷ ns) each =
    ap (λ (r : chapter.Rule). r ∷ map chapter_rule ns) (rule_same n (each n (0, omega arith, refl)))
    ∙ ap (λ (rs : List chapter.Rule). rule_for (rules.as_rule n) ∷ rs) (maps_same ns (λ m there. each m (further n ns m there)))

are_good : (ns : List Node) → ((n : Node) → Contains ns n → IsMeant n) → AreGoodRules (map rules.as_rule ns)
are_good [] each = tt
are_good (n ∷ ns) each =
    let first = each n (0, omega arith, refl) in
    ((first.fitting, first.of_bytes), are_good ns (λ m there. each m (further n ns m there)))

second : (a b c d : Bool) → b ≡ true → (a || b || c || d) ≡ true
second true true c d is = refl
second false true c d is = refl
second a false c d is = absurd cc

rule_wants : (code : ℕ) → (code == numbers.RULE) ≡ true → wants_expression code ≡ true
rule_wants code is = second (is_guard code) (code == numbers.RULE) (code == numbers.VALUE) (is_condition_number code) is

rule_meant : (bytes : List ℕ) → IsChecked bytes → AreBytes bytes → (n : Node) → Contains (rule_nodes (nodes_of bytes)) n → IsMeant n
rule_meant bytes checked are n there =
    let found = rule_there (nodes_of bytes) n there in
    is_meant bytes n checked are found.0 (rule_wants (number n.op) found.1)

-- ---- the rules of a package, and the opcodes of a node's expression

pub rules_same : (bytes : List ℕ) → IsChecked bytes → AreBytes bytes → rows.rules_of (nodes_of bytes) ≡ map rule_for (rules_among (nodes_of bytes))
rules_same bytes checked are = maps_same (rule_nodes (nodes_of bytes)) (rule_meant bytes checked are)

pub expression_same : (bytes : List ℕ) (n : Node) → IsChecked bytes → AreBytes bytes → Contains (nodes_of bytes) n → wants_expression (number n.op) ≡ true
    → rows.expression_of n ≡ map mark_for (post (expression_tree n))
expression_same bytes n checked are within wants = (is_meant bytes n checked are within wants).opcodes

-- ---- the value of a node's expression, and whether a condition is met

pub meant_same : (bytes : List ℕ) (stores : Stores) (held : StoreMap) → IsChecked bytes → AreBytes bytes → AnswerAlike (nodes_of bytes) stores held → (this : ℕ) (n : Node) → Contains (nodes_of bytes) n
    → wants_expression (number n.op) ≡ true
    → chapter.value_of (rows.rules_of (nodes_of bytes)) (questions.answers (nodes_of bytes) stores) this (rows.expression_of n) ≡ value_for (value (rules_among (nodes_of bytes)) (answers (nodes_of bytes) held) this (expression_tree n))
meant_same bytes stores held checked are alike this n within wants =
    ap (λ (told : ℕ → values.Value). chapter.value_of (rows.rules_of (nodes_of bytes)) told this (rows.expression_of n)) (fun_ext alike.same)
    ∙ ap (λ (rs : List chapter.Rule). chapter.value_of rs told this (rows.expression_of n)) (maps_same (rule_nodes (nodes_of bytes)) (rule_meant bytes checked are))
    ∙ ap (λ (marks : List chapter.Mark). chapter.value_of (map rule_for rs) told this marks) m.opcodes
    ∙ value_same rs (answers (nodes_of bytes) held) this (post (expression_tree n)) (expression_tree n) alike.small (are_good (rule_nodes (nodes_of bytes)) (rule_meant bytes checked are)) (record { spelled = refl; fitting = m.fitting }) m.of_bytes
  where
    m : IsMeant n
    m = is_meant bytes n checked are within wants

    rs : List Rule
    rs = rules_among (nodes_of bytes)

    told : ℕ → values.Value
    told = λ id. value_for (answers (nodes_of bytes) held id)

met_same : (bytes removed : List ℕ) (stores : Stores) (held : StoreMap) → IsChecked bytes → AreBytes bytes → AnswerAlike (nodes_of bytes) stores held → (n : Node) → Contains (nodes_of bytes) n → table.wants_expression n.op ≡ true
    → decisions.is_met (record { nodes = nodes_of bytes; removed = removed; stores = stores }) n ≡ is_met_over (nodes_of bytes) held n
met_same bytes removed stores held checked are alike n within wants =
    ap (λ (this : ℕ). values.holds (chapter.value_of (rows.rules_of (nodes_of bytes)) (questions.answers (nodes_of bytes) stores) this (rows.expression_of n))) (this_same n)
    ∙ ap values.holds (meant_same bytes stores held checked are alike (this_of n) n within (sym (wanted_same (number n.op)) ∙ wants))
    ∙ holds_same (value (rules_among (nodes_of bytes)) (answers (nodes_of bytes) held) (this_of n) (expression_tree n))

pub worlds_alike : (bytes removed : List ℕ) (stores : Stores) (held : StoreMap) → IsChecked bytes → AreBytes bytes → AnswerAlike (nodes_of bytes) stores held
    → AreAlike bytes (record { nodes = nodes_of bytes; removed = removed; stores = stores }) (world_over (nodes_of bytes) removed held)
worlds_alike bytes removed stores held checked are alike = record {
  nodes = refl;
  same_nodes = refl;
  removed = refl;
  met = met_same bytes removed stores held checked are alike;
}
