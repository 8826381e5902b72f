-- The chapters finds the faults of nodes among each other that the contracts say.
use Rattle.std.proofs.Common.{◌≡◌, ◌⊎◌, ◌==◌, ℕ, ◌+◌, max, Bool, true, false, Option, Some, None, List, [], ◌∷◌, ◌++◌, length, map, refl, ap, sym, ◌∙◌, subst, inl, inr, arith}
use Rattle.std.specs.Prelude.{◌&&◌, ◌||◌, nat_lt, nat_le, not, is_some, is_none, option_map, unwrap_or, filter, reverse, fold, sum, Contains}
use Rattle.std.specs.List.{AllByRecursion, find, flat_map, list_any, last_or}
use Rattle.std.proofs.lemmas.List.{length-map, reverse-append}
use Rattle.std.proofs.lemmas.List.Elements.{Contains-append_right}
use Rattle.std.proofs.lemmas.Bool.{cases_Bool, true≢false}
use Rattle.hii_bytes.specs.Faults.{AreFaults, HasNone}
use Rattle.hii_bytes.specs.declared.cause.Cause.{Cause}
use Rattle.hii_bytes.specs.declared.cause.Cause.TheVariants.{DuplicateForm, DuplicateQuestion, NoForm, RuleTooLarge}
use Rattle.ifr_opcodes.specs.Fields.{form_id, question_id, ref_target, rule_ref_rule}
use Rattle.ifr_opcodes.specs.Forest.{Forest, none, node, flat, AreNodes, Ancestor, Mark, Node, as_ancestor}
use Rattle.ifr_opcodes.specs.Opcode.{number}
use Rattle.ifr_opcodes.specs.Rows.{is_operator}
use Rattle.ifr_opcodes.specs.Reading.{tree_of}
use Rattle.ifr_expr.specs.Faults.{IsExpressionFault}
use Rattle.ifr_expr.specs.Meaning.{Rule, names}
use Rattle.ifr_expr.specs.Reading.{tree_in, tree_of_opcodes}
use Rattle.ifr_expr.specs.References.{references, references_among}
use Rattle.ifr_expr.specs.Trees.{Tree, post, siblings, expression}
use Rattle.ifr_expr.specs.code.Bytes.{opcodes_of}
use Rattle.ifr_expr.specs.code.Checked.{tree}
use Rattle.ifr_expr.specs.declared.references.RuleReference.{RuleReference}
use Rattle.ifr_expr.proofs.CheckLemmas.{done_where_sound, means_node}
use Rattle.ifr_expr.proofs.NodeLemmas.{is_expression_node, opcodes_are}
use Rattle.ifr_expr.proofs.TreeLemmas.{is_tree_of}
use Rattle.ifr_nodes.specs.Checked.{IsChecked}
use Rattle.ifr_nodes.specs.Nodes as nodes
use Rattle.ifr_nodes.specs.Nodes.{is_form, is_reference, nodes_of}
use Rattle.ifr_nodes.specs.ReferenceFaults.{Ranked, ranked, has_form_id, has_question_id, is_lost, has_reference_fault, IsRankedFault, IsReferenceFault}
use Rattle.ifr_nodes.specs.Rules.{is_rule, forms_among, end_or_0, form_end, expression_place, rules_among, size, size_over, rule_sizes, greatest, is_rule_too_large}
use Rattle.ifr_nodes.specs.Rules as rules
use Rattle.ifr_nodes.specs.declared.rules.RuleSize.{RuleSize}
use Rattle.ifr_nodes.proofs.PlaceLemmas.{node_stands}
use Rattle.ifr_nodes.proofs.RuleFacts.{rule_fact}
use Rattle.browser_rules.specs.Expressions as expressions
use Rattle.browser_rules.specs.Expressions.{is_named}
use Rattle.browser_rules.specs.Faults.{Fault, Size, sizes_of, reference_faults, is_large, fault_if, size_over as chapter_size_over, ranked_faults as chapter_fault}
use Rattle.browser_rules.specs.Forest.{end_of}
use Rattle.browser_rules.specs.Nodes as chapter
use Rattle.browser_rules.specs.Opcodes.{field, is_the, FORM, REF, RULE, RULE_REF}
use Rattle.browser_rules.specs.Words as words
use Rattle.browser_rules.specs.Words.{is_some_and, last}
use Rattle.rules_laws.specs.laws.Opcodes.{mark_for, rule_for}
use Rattle.rules_laws.specs.laws.References.{IsWholeRule}
use Rattle.rules_laws.proofs.FaultLemmas.{said_as, if_fault, either_kind, each_fault, flat_ranked, same_ranked}
use Rattle.rules_laws.proofs.NodeLemmas.{is_question_same, last_same}
use Rattle.hii_bytes.proofs.ChapterFaultLemmas.{both_kinds, where_same}

-- ---- lists

map_push : {X Y : Type 0} (f : X → Y) (xs : List X) (x : X) → map f (xs ++ x ∷ []) ≡ map f xs ++ f x ∷ []
map_push f [] x = refl
map_push {X} {Y} f (y ∷ xs) x = ap (λ (l : List Y). f y ∷ l) (map_push f xs x)

map_reverse : {X Y : Type 0} (f : X → Y) (xs : List X) → map f (reverse xs) ≡ reverse (map f xs)
map_reverse f [] = refl
map_reverse {X} {Y} f (x ∷ xs) =
    ap (λ (l : List X). map f l) (reverse-append (x ∷ []) xs)
    ∙ map_push f (reverse xs) x
    ∙ ap (λ (l : List Y). l ++ f x ∷ []) (map_reverse f xs)
    ∙ sym (reverse-append (f x ∷ []) (map f xs))

map_map : {X Y Z : Type 0} (f : Y → Z) (g : X → Y) (xs : List X) → map f (map g xs) ≡ map (λ (x : X). f (g x)) xs
map_map f g [] = refl
map_map {X} {Y} {Z} f g (x ∷ xs) = ap (λ (l : List Z). f (g x) ∷ l) (map_map f g xs)

all_of : {X : Type 0} (P : X → Type 0) (xs : List X) → ((x : X) → Contains xs x → P x) → AllByRecursion P xs
all_of P [] h = tt
all_of P (x ∷ xs) h = (h x (0, omega arith, refl), all_of P xs (λ y there. h y (Contains-append_right (x ∷ []) xs y there)))

found_any : (p : Node → Bool) (ns : List Node) → is_some (find p ns) ≡ list_any p ns
found_any p [] = refl
found_any p (n ∷ ns) = elim (cases_Bool (p n)) [ inl h ↦ rw h refl | inr h ↦ rw h (found_any p ns) ]

none_is_not_some : (o : Option Node) → is_none o ≡ not (is_some o)
none_is_not_some None = refl
none_is_not_some (Some n) = refl

fold_max : (a : ℕ) (ns : List ℕ) → fold max a ns ≡ max a (greatest ns)
fold_max a [] = omega arith
fold_max a (n ∷ ns) = fold_max (max a n) ns ∙ omega arith

-- ---- sizes

abbrev sized : ℕ → ℕ → Size
sized depth weight = record { depth = depth; weight = weight }

abbrev size_for : RuleSize → Size
size_for s = sized s.depth s.weight

-- the sizes that opcodes name
abbrev named_on_page : (ℕ → ℕ → Size) → List expressions.Mark → List Size
named_on_page sizes ms = map (λ m. sizes (field RULE_REF "RuleId" m.op) m.place) (filter (λ m. is_the RULE_REF m.op) ms)

abbrev named_sizes : (ℕ → ℕ → RuleSize) → List RuleReference → List Size
named_sizes sizes rs = map (λ (r : RuleReference). size_for (sizes r.id r.place)) rs

named_same : (S : ℕ → ℕ → Size) (T : ℕ → ℕ → RuleSize) → ((id place : ℕ) → S id place ≡ size_for (T id place)) → (ms : List Mark) → named_on_page S (map mark_for ms) ≡ named_sizes T (references_among ms)
named_same S T same [] = refl
named_same S T same (m ∷ ms) = elim (cases_Bool (number m.op == 0x3f)) [
  | inl is ↦ rw is
      (ap (λ (s : Size). s ∷ named_on_page S (map mark_for ms)) (same (rule_ref_rule m.op) m.place)
      ∙ ap (λ (l : List Size). size_for (T (rule_ref_rule m.op) m.place) ∷ l) (named_same S T same ms))
  | inr other ↦ rw other (named_same S T same ms)
]

depths_same : (T : ℕ → ℕ → RuleSize) (rs : List RuleReference) → fold max 0 (map (λ (s : Size). s.depth) (named_sizes T rs)) ≡ greatest (map (λ (r : RuleReference). (T r.id r.place).depth) rs)
depths_same T rs =
    ap (λ (l : List ℕ). fold max 0 l) (map_map (λ (s : Size). s.depth) (λ (r : RuleReference). size_for (T r.id r.place)) rs)
    ∙ fold_max 0 (map (λ (r : RuleReference). (T r.id r.place).depth) rs)
    ∙ omega arith

over_same : (S : ℕ → ℕ → Size) (T : ℕ → ℕ → RuleSize) → ((id place : ℕ) → S id place ≡ size_for (T id place)) → (t : Tree) → chapter_size_over S (map mark_for (post t)) ≡ size_for (size_over T t)
over_same S T same t =
    ap (λ (l : List Size). sized (1 + fold max 0 (map (λ (s : Size). s.depth) l)) (length (map mark_for (post t)) + sum (map (λ (s : Size). s.weight) l))) (named_same S T same (post t))
    ∙ ap (λ n. sized (1 + n) (length (map mark_for (post t)) + sum (map (λ (s : Size). s.weight) (named_sizes T (references t))))) (depths_same T (references t))
    ∙ ap (λ n. sized (size_over T t).depth (n + sum (map (λ (s : Size). s.weight) (named_sizes T (references t))))) (length-map (post t) mark_for)
    ∙ ap (λ (l : List ℕ). sized (size_over T t).depth (length (post t) + sum l)) (map_map (λ (s : Size). s.weight) (λ (r : RuleReference). size_for (T r.id r.place)) (references t))

and_alike : (a b c : Bool) → (a && b && c) ≡ (a && (b && c))
and_alike true b c = refl
and_alike false b c = refl

chapter_named : (id place : ℕ) (r : expressions.Rule) (rs : List expressions.Rule) → is_named id place r ≡ true → sizes_of (r ∷ rs) id place ≡ chapter_size_over (sizes_of rs) r.opcodes
unfolding sizes_of
chapter_named id place r rs is = rw is refl

chapter_unnamed : (id place : ℕ) (r : expressions.Rule) (rs : List expressions.Rule) → is_named id place r ≡ false → sizes_of (r ∷ rs) id place ≡ sizes_of rs id place
unfolding sizes_of
chapter_unnamed id place r rs other = rw other refl

old_named : (id place : ℕ) (r : Rule) (rs : List Rule) → names id place r ≡ true → rule_sizes (r ∷ rs) id place ≡ size_over (rule_sizes rs) r.tree
unfolding rule_sizes
old_named id place r rs is = rw is refl

old_unnamed : (id place : ℕ) (r : Rule) (rs : List Rule) → names id place r ≡ false → rule_sizes (r ∷ rs) id place ≡ rule_sizes rs id place
unfolding rule_sizes
old_unnamed id place r rs other = rw other refl

no_size : (id place : ℕ) → sizes_of [] id place ≡ size_for (rule_sizes [] id place)
unfolding sizes_of rule_sizes
no_size id place = refl

sizes_same : (rs : List Rule) (id place : ℕ) → sizes_of (map rule_for rs) id place ≡ size_for (rule_sizes rs id place)
sizes_same [] id place = no_size id place
sizes_same (r ∷ rs) id place =
    let alike : is_named id place (rule_for r) ≡ names id place r = and_alike (r.id == id) (nat_le r.ends place) (nat_lt place r.form_ends) in
    elim (cases_Bool (names id place r)) [
      | inl is ↦
          chapter_named id place (rule_for r) (map rule_for rs) (alike ∙ is)
          ∙ over_same (sizes_of (map rule_for rs)) (rule_sizes rs) (λ i p. sizes_same rs i p) r.tree
          ∙ ap (λ (s : RuleSize). size_for s) (sym (old_named id place r rs is))
      | inr other ↦
          chapter_unnamed id place (rule_for r) (map rule_for rs) (alike ∙ other)
          ∙ sizes_same rs id place
          ∙ ap (λ (s : RuleSize). size_for s) (sym (old_unnamed id place r rs other))
    ]

-- ---- rules

-- as the chapters have them
abbrev chapter_form_end : List Ancestor → ℕ
chapter_form_end path = unwrap_or (option_map end_of (last (filter (λ a. is_the FORM a.op) path))) 0

abbrev chapter_rule : ℕ → Node → List expressions.Mark → expressions.Rule
chapter_rule ends n opcodes = record {
  id = field RULE "RuleId" n.op;
  ends = end_of (as_ancestor n);
  form_ends = ends;
  opcodes = opcodes;
}

abbrev rule_on_page : Node → expressions.Rule
rule_on_page n = chapter_rule (chapter_form_end n.path) n (chapter.expression_of n)

form_end_same : (path : List Ancestor) → chapter_form_end path ≡ form_end path
form_end_same path = ap (λ (o : Option Ancestor). unwrap_or (option_map end_of o) 0) (last_same (forms_among path)) ∙ of_found (last_or None (forms_among path))
  where
    of_found : (o : Option Ancestor) → unwrap_or (option_map end_of o) 0 ≡ end_or_0 o
    of_found None = refl
    of_found (Some a) = refl

rule_same : (n : Node) → IsWholeRule n → is_rule n ≡ true → rule_on_page n ≡ rule_for (rules.as_rule n)
rule_same n whole is =
    ap (λ ends. chapter_rule ends n (chapter.expression_of n)) (form_end_same n.path) ∙ ap (λ (ms : List expressions.Mark). chapter_rule (form_end n.path) n ms) (sym (whole is))

among_same : (ns : List Node) → AllByRecursion IsWholeRule ns → map rule_on_page (filter is_rule ns) ≡ map (λ (n : Node). rule_for (rules.as_rule n)) (filter is_rule ns)
among_same [] whole = refl
among_same (n ∷ ns) whole = elim (cases_Bool (is_rule n)) [
  | inl is ↦ rw is
      (ap (λ (r : expressions.Rule). r ∷ map rule_on_page (filter is_rule ns)) (rule_same n whole.0 is)
      ∙ ap (λ (l : List expressions.Rule). rule_for (rules.as_rule n) ∷ l) (among_same ns whole.1))
  | inr other ↦ rw other (among_same ns whole.1)
]

rules_same : (ns : List Node) → AllByRecursion IsWholeRule ns → chapter.rules_of ns ≡ map rule_for (rules_among ns)
rules_same ns whole =
    map_reverse rule_on_page (filter is_rule ns)
    ∙ ap (λ (l : List expressions.Rule). reverse l) (among_same ns whole)
    ∙ sym (map_reverse (λ (n : Node). rule_for (rules.as_rule n)) (filter is_rule ns))
    ∙ sym (map_map rule_for rules.as_rule (reverse (filter is_rule ns)))

size_same : (before : List Node) (n : Node) → AllByRecursion IsWholeRule before → IsWholeRule n → is_rule n ≡ true
    → chapter_size_over (sizes_of (chapter.rules_of before)) (chapter.expression_of n) ≡ size_for (size (rules_among before) (rules.as_rule n))
size_same before n all whole is =
    ap (λ (rs : List expressions.Rule). chapter_size_over (sizes_of rs) (chapter.expression_of n)) (rules_same before all)
    ∙ ap (chapter_size_over (sizes_of (map rule_for (rules_among before)))) (sym (whole is))
    ∙ over_same (sizes_of (map rule_for (rules_among before))) (rule_sizes (rules_among before)) (sizes_same (rules_among before)) (tree_in (expression_place n) n.children)

-- ---- a node with those before it

abbrev four : Bool → Bool → Bool → Bool → ℕ → List Fault
four form question reference rule place =
    fault_if form words.DuplicateForm place ++ fault_if question words.DuplicateQuestion place
    ++ fault_if reference words.NoForm place ++ fault_if rule words.RuleTooLarge place

abbrev old_fault : List Node → Ranked → List Fault
old_fault ns r =
    four (has_reference_fault ns r DuplicateForm) (has_reference_fault ns r DuplicateQuestion) (has_reference_fault ns r NoForm) (has_reference_fault ns r RuleTooLarge)
    r.node.place

form_again : (before : List Node) (n : Node) → (chapter.is FORM n && is_some (chapter.form_with before (field FORM "FormId" n.op))) ≡ (is_form n && list_any (has_form_id (form_id n.op)) before)
form_again before n = ap (λ (b : Bool). is_form n && b) (found_any (has_form_id (form_id n.op)) before)

any_where : (q old e : Node → Bool) (z : Bool) (ns : List Node) → ((m : Node) → q m ≡ old m) → list_any (λ m. q m && z && e m) ns ≡ (z && list_any (λ m. old m && e m) ns)
any_where q old e true [] same = refl
any_where q old e false [] same = refl
any_where q old e true (n ∷ ns) same =
    ap (λ (b : Bool). (b && true && e n) || list_any (λ m. q m && true && e m) ns) (same n)
    ∙ ap (λ (b : Bool). b || list_any (λ m. q m && true && e m) ns) (and_true (old n) (e n))
    ∙ ap (λ (b : Bool). (old n && e n) || b) (any_where q old e true ns same)
  where
    and_true : (a b : Bool) → (a && true && b) ≡ (a && b)
    and_true true b = refl
    and_true false b = refl
any_where q old e false (n ∷ ns) same =
    ap (λ (b : Bool). b || list_any (λ m. q m && false && e m) ns) (and_false (q n) (e n)) ∙ any_where q old e false ns same
  where
    and_false : (a b : Bool) → (a && false && b) ≡ false
    and_false true b = refl
    and_false false b = refl

second_again : (before : List Node) (n : Node)
    → list_any (λ m. chapter.is_question m && not (chapter.question_id n == 0) && chapter.question_id m == chapter.question_id n) before ≡ (not (question_id n.op == 0) && list_any (has_question_id (question_id n.op)) before)
second_again before n = any_where chapter.is_question nodes.is_question (λ (m : Node). question_id m.op == question_id n.op) (not (question_id n.op == 0)) before is_question_same

question_again : (before : List Node) (n : Node)
    → (chapter.is_question n && list_any (λ m. chapter.is_question m && not (chapter.question_id n == 0) && chapter.question_id m == chapter.question_id n) before)
    ≡ (nodes.is_question n && (not (question_id n.op == 0) && list_any (has_question_id (question_id n.op)) before))
question_again before n =
    ap (λ (b : Bool). b && list_any (λ m. chapter.is_question m && not (chapter.question_id n == 0) && chapter.question_id m == chapter.question_id n) before) (is_question_same n)
    ∙ ap (λ (b : Bool). nodes.is_question n && b) (second_again before n)

lost_again : (ns : List Node) (n : Node) → (chapter.is REF n && is_some_and (λ id. is_none (chapter.form_with ns id)) (chapter.ref_target n)) ≡ (is_reference n && is_lost ns (ref_target n.op))
lost_again ns n = ap (λ (b : Bool). is_reference n && b) (by (ref_target n.op))
  where
    by : (o : Option ℕ) → is_some_and (λ id. is_none (chapter.form_with ns id)) o ≡ is_lost ns o
    by None = refl
    by (Some id) = none_is_not_some (find (has_form_id id) ns) ∙ ap not (found_any (has_form_id id) ns)

large_again : (before : List Node) (n : Node) → AllByRecursion IsWholeRule before → IsWholeRule n
    → (chapter.is RULE n && is_large (chapter_size_over (sizes_of (chapter.rules_of before)) (chapter.expression_of n))) ≡ (is_rule n && is_rule_too_large (size (rules_among before) (rules.as_rule n)))
large_again before n all whole = elim (cases_Bool (is_rule n)) [
  | inl is ↦ ap (λ (s : Size). is_rule n && is_large s) (size_same before n all whole is)
  | inr other ↦ rw other refl
]

fault_same : (ns before : List Node) (n : Node) → AllByRecursion IsWholeRule before → IsWholeRule n → chapter_fault ns (before, n) ≡ old_fault ns (record { before = before; node = n })
fault_same ns before n all whole =
    let r : Ranked = record { before = before; node = n } in
    let question : Bool = chapter.is_question n && list_any (λ m. chapter.is_question m && not (chapter.question_id n == 0) && chapter.question_id m == chapter.question_id n) before in
    let reference : Bool = chapter.is REF n && is_some_and (λ id. is_none (chapter.form_with ns id)) (chapter.ref_target n) in
    let rule : Bool = chapter.is RULE n && is_large (chapter_size_over (sizes_of (chapter.rules_of before)) (chapter.expression_of n)) in
    ap (λ (b : Bool). four b question reference rule n.place) (form_again before n)
    ∙ ap (λ (b : Bool). four (has_reference_fault ns r DuplicateForm) b reference rule n.place) (question_again before n)
    ∙ ap (λ (b : Bool). four (has_reference_fault ns r DuplicateForm) (has_reference_fault ns r DuplicateQuestion) b rule n.place) (lost_again ns n)
    ∙ ap (λ (b : Bool). four (has_reference_fault ns r DuplicateForm) (has_reference_fault ns r DuplicateQuestion) (has_reference_fault ns r NoForm) b n.place) (large_again before n all whole)

-- the faults of a node are those of the four causes
abbrev OfCause : List Node → Ranked → Cause → Cause → ℕ → Type 0
OfCause ns r d c p = (r.node.place ≡ p) × (c ≡ d) × (has_reference_fault ns r d ≡ true)

abbrev OfFour : List Node → Ranked → Cause → ℕ → Type 0
OfFour ns r c p = ((OfCause ns r DuplicateForm c p ⊎ OfCause ns r DuplicateQuestion c p) ⊎ OfCause ns r NoForm c p) ⊎ OfCause ns r RuleTooLarge c p

are_four : (ns : List Node) (r : Ranked) → AreFaults (old_fault ns r) (OfFour ns r)
are_four ns r =
    let form = if_fault (has_reference_fault ns r DuplicateForm) DuplicateForm r.node.place in
    let question = if_fault (has_reference_fault ns r DuplicateQuestion) DuplicateQuestion r.node.place in
    let reference = if_fault (has_reference_fault ns r NoForm) NoForm r.node.place in
    let rule = if_fault (has_reference_fault ns r RuleTooLarge) RuleTooLarge r.node.place in
    either_kind _ _ (λ c p. (OfCause ns r DuplicateForm c p ⊎ OfCause ns r DuplicateQuestion c p) ⊎ OfCause ns r NoForm c p) (OfCause ns r RuleTooLarge)
    (either_kind _ _ (λ c p. OfCause ns r DuplicateForm c p ⊎ OfCause ns r DuplicateQuestion c p) (OfCause ns r NoForm)
    (either_kind _ _ (OfCause ns r DuplicateForm) (OfCause ns r DuplicateQuestion) form question) reference) rule

from_four : (ns : List Node) (r : Ranked) (c : Cause) (p : ℕ) → OfFour ns r c p → (r.node.place ≡ p) × (has_reference_fault ns r c ≡ true)
from_four ns r c p (inl (inl (inl (at, is, has)))) = (at, ap (has_reference_fault ns r) is ∙ has)
from_four ns r c p (inl (inl (inr (at, is, has)))) = (at, ap (has_reference_fault ns r) is ∙ has)
from_four ns r c p (inl (inr (at, is, has))) = (at, ap (has_reference_fault ns r) is ∙ has)
from_four ns r c p (inr (at, is, has)) = (at, ap (has_reference_fault ns r) is ∙ has)

to_four : (ns : List Node) (r : Ranked) (c : Cause) (p : ℕ) → (r.node.place ≡ p) × (has_reference_fault ns r c ≡ true) → OfFour ns r c p
to_four ns r DuplicateForm p is = inl (inl (inl (is.0, refl, is.1)))
to_four ns r DuplicateQuestion p is = inl (inl (inr (is.0, refl, is.1)))
to_four ns r NoForm p is = inl (inr (is.0, refl, is.1))
to_four ns r RuleTooLarge p is = inr (is.0, refl, is.1)
to_four ns r _ p is = absurd (true≢false (sym is.1))

one_node : (ns : List Node) (r : Ranked) → AreFaults (old_fault ns r) (λ c p. (r.node.place ≡ p) × (has_reference_fault ns r c ≡ true))
one_node ns r = said_as (old_fault ns r) (OfFour ns r) (λ c p. (r.node.place ≡ p) × (has_reference_fault ns r c ≡ true)) (are_four ns r) (λ c p. (from_four ns r c p, to_four ns r c p))

-- ---- all of them

no_form : (ns : List Node) → not (list_any is_form ns) ≡ true → filter is_form ns ≡ []
no_form [] e = refl
no_form (n ∷ ns) e = elim (cases_Bool (is_form n)) [ inl h ↦ absurd (true≢false (sym (rw h at e))) | inr h ↦ rw h (no_form ns (rw h at e)) ]

form_lacks : (ns : List Node) → filter is_form ns ≡ [] → not (list_any is_form ns) ≡ true
form_lacks [] e = refl
form_lacks (n ∷ ns) e = elim (cases_Bool (is_form n)) [ inl h ↦ (let filled = rw h at e in cc) | inr h ↦ rw h (form_lacks ns (rw h at e)) ]

pub same_reference_faults : (ns : List Node) → ((n : Node) → Contains ns n → IsWholeRule n) → AreFaults (reference_faults ns) (IsReferenceFault ns)
same_reference_faults ns whole =
    where_same (IsReferenceFault ns)
    (ap (λ (l : List Fault). fault_if (not (list_any is_form ns)) words.NoForm 4 ++ l)
    (flat_ranked (chapter_fault ns) [] ns ∙ same_ranked (λ (r : Ranked). chapter_fault ns (r.before, r.node)) (old_fault ns) IsWholeRule (fault_same ns) [] ns tt (all_of IsWholeRule ns whole)))
    (both_kinds (fault_if (not (list_any is_form ns)) words.NoForm 4) (flat_map (old_fault ns) (ranked [] ns))
    (λ c p. (4 ≡ p) × (c ≡ NoForm) × (not (list_any is_form ns) ≡ true)) (IsRankedFault ns) (IsReferenceFault ns)
    (if_fault (not (list_any is_form ns)) NoForm 4)
    (each_fault (old_fault ns) (λ (r : Ranked). r.node.place) (has_reference_fault ns) (ranked [] ns) (one_node ns))
    (λ c p is. inl (no_form ns is.2, is.1, sym is.0)) (λ c p is. inr is) out)
  where
    out : (c : Cause) (p : ℕ) → IsReferenceFault ns c p → ((4 ≡ p) × (c ≡ NoForm) × (not (list_any is_form ns) ≡ true)) ⊎ IsRankedFault ns c p
    out c p (inl (lacks, is, at)) = inl (sym at, is, form_lacks ns lacks)
    out c p (inr is) = inr is

-- ---- a package whose nodes have no fault by themselves

-- as the chapters have them
abbrev chapter_siblings : ℕ → Forest → List expressions.Mark
chapter_siblings at none = []
chapter_siblings at (node op children rest) =
    record { place = at; op = op } ∷ chapter_siblings (at + length (flat (node op children none))) rest

siblings_same : (at : ℕ) (f : Forest) → chapter_siblings at f ≡ map mark_for (siblings at f)
siblings_same at none = refl
siblings_same at (node op children rest) =
    let here : expressions.Mark = record { place = at; op = op } in
    ap (λ (l : List expressions.Mark). here ∷ l) (siblings_same (at + length (flat (node op children none))) rest)

expression_same : (at : ℕ) (op : List ℕ) (children : Forest) → expressions.expression at op children ≡ map mark_for (expression at op children)
expression_same at op children =
    let here : expressions.Mark = record { place = at; op = op } in
    ap (λ (l : List expressions.Mark). here ∷ l) (siblings_same (at + length op) children)

-- an expression without fault is spelled by the opcodes of its tree
spelled : (from : ℕ) (op : List ℕ) (inner : Forest) → AreNodes (node op inner none) → is_operator (number op) ≡ true → HasNone (IsExpressionFault from (expression from op inner)) → post (tree_of_opcodes (expression from op inner)) ≡ expression from op inner
spelled from op inner h operator sound =
    let there = flat (node op inner none) in
    let same : opcodes_of from there ≡ expression from op inner = opcodes_are from there op inner h refl in
    let clear = subst (λ (l : List Mark). HasNone (IsExpressionFault from l)) (sym same) sound in
    let means = means_node from there (done_where_sound from there (is_expression_node there op inner h refl operator) clear) in
    ap (λ (l : List Mark). post (tree_of_opcodes l)) (sym same) ∙ ap post (is_tree_of (opcodes_of from there) (tree from there) means) ∙ means.spelled ∙ same

pub whole_rule : (bytes : List ℕ) (n : Node) → IsChecked bytes → Contains (nodes_of bytes) n → IsWholeRule n
whole_rule bytes n checked within is =
    let fact = rule_fact bytes n checked within is in
    let stood = node_stands bytes (tree_of bytes) n checked.spelled within in
    let here = subst AreNodes fact.children stood.2.1.0 in
    ap (λ (f : Forest). map mark_for (post (tree_in (expression_place n) f))) fact.children
    ∙ ap (map mark_for) (spelled (expression_place n) fact.op fact.inner here fact.operator fact.sound)
    ∙ sym (expression_same (expression_place n) fact.op fact.inner)
    ∙ ap (expressions.expression_in (expression_place n)) (sym fact.children)

pub same_checked_faults : (bytes : List ℕ) → IsChecked bytes → AreFaults (reference_faults (nodes_of bytes)) (IsReferenceFault (nodes_of bytes))
same_checked_faults bytes checked = same_reference_faults (nodes_of bytes) (λ n within. whole_rule bytes n checked within)
