-- What questions have by default.
use Rattle.std.proofs.Common.{◌≡◌, ◌==◌, ℕ, zero, suc, ◌+◌, ◌*◌, ◌<◌, Bool, true, false, not, Option, Some, None, List, [], ◌∷◌, length, take, drop, refl, sym, ap, ◌∙◌, arith, inl, inr}
use Rattle.std.specs.Prelude.{◌&&◌, nat_lt, nat_le, if◌then◌else◌, filter, option_map, option_and_then, unwrap_or, IfSome}
use Rattle.std.specs.List.{find}
use Rattle.std.proofs.lemmas.Bool.{cases_Bool, cases_lt, cond-false, cond-true, eqb-true, le-leb, le-ltb, lt-leb, lt-ltb, ne_eqb, ltb-true}
use Rattle.byteorder.specs.Endian.{little_number, little_from}
use Rattle.byteorder.specs.Numbers.{little_from-cons}
use Rattle.browser_rules.specs.Expressions.{Mark, value_of}
use Rattle.browser_rules.specs.Nodes as chapter_nodes
use Rattle.browser_rules.specs.Opcodes.{a_default, is_a, type_width, wants_value as chapter_wants_value}
use Rattle.browser_rules.specs.Questions as chapter
use Rattle.browser_rules.specs.Stores.{Stores}
use Rattle.browser_rules.specs.Values as rules
use Rattle.browser_rules.specs.Words.{first}
use Rattle.ifr_opcodes.specs.Fields.{checkbox_flags, default_id, default_kind, default_value, is_default_option, is_manufacturing_option, option_flags, option_value}
use Rattle.ifr_opcodes.specs.Forest.{Node, below}
use Rattle.ifr_opcodes.specs.Opcode.{number}
use Rattle.ifr_opcodes.specs.declared.codes.TheConstants.{CHECKBOX, DEFAULT, ONE_OF}
use Rattle.ifr_opcodes.specs.declared.kinds.TheConstants.{TYPE_NUM_SIZE_64, TYPE_BOOLEAN, TYPE_STRING, TYPE_OTHER, TYPE_BUFFER}
use Rattle.ifr_expr.specs.Meaning.{value}
use Rattle.ifr_expr.specs.Trees.{Tree}
use Rattle.ifr_expr.specs.Values as values
use Rattle.ifr_expr.specs.Values.{Value, as_number, undefined}
use Rattle.ifr_nodes.specs.NodeExpressions.{tree_of_value, value_tree}
use Rattle.ifr_nodes.specs.Nodes as node
use Rattle.ifr_nodes.specs.Nodes.{is_question}
use Rattle.ifr_nodes.specs.Table.{wants_value}
use Rattle.hii_values.specs.Inputs.{Offer, raw, units}
use Rattle.hii_values.specs.Items.{bytes_of_items}
use Rattle.hii_values.specs.Types.{element_width}
use Rattle.ifr_defaults.specs.Defaults.{Sources, default_of, default_with, evaluated, flagged, given, given_or_flagged, is_checked_for, is_chosen_for, value_number}
use Rattle.rules_laws.specs.laws.Defaults.{HasSameValue}
use Rattle.rules_laws.specs.laws.Opcodes.{value_for}
use Rattle.rules_laws.specs.laws.Questions.{offer_for}
use Rattle.rules_laws.proofs.NodeLemmas.{defaults_same, options_same}
use Rattle.rules_laws.proofs.QuestionLemmas.{element_same, find_among, many, value_same}

-- ---- what the chapters say of this, which has no name outside of it

abbrev chapter_given : List Node → Stores → (ℕ → Option (List ℕ)) → Node → Node → Option chapter.Offer
chapter_given ns stores texts q d =
    let kind = default_kind d.op in
    let number = little_number (type_width kind) (drop 5 d.op) in
    let value = value_of (chapter_nodes.rules_of ns) (chapter.answers ns stores) (chapter_nodes.question_id q) in
    if nat_lt kind 4 then Some (chapter.raw number)
    else if kind == 4 then Some (chapter.raw (if number == 0 then 0 else 1))
    else if kind == 7 then option_map chapter.units (texts number)
    else if kind == 8
    then option_and_then (λ ms. option_map chapter.raw (rules.as_number (value ms))) (chapter_nodes.default_expression d)
    else if kind == 0x0b then Some (chapter.elements (chapter.bytes_of_items (chapter.element_width q) (drop 5 d.op)))
    else None

abbrev chapter_flagged : Node → ℕ → Option chapter.Offer
chapter_flagged q class =
    let option_flag = if class == 0 then 0x10 else 0x20 in
    let is_default : Node → Bool = λ o. chapter.has_flag (option_flags o.op) option_flag in
    if nat_lt 1 class then None
    else if number q.op == ONE_OF then option_map (λ o. chapter.raw (chapter.option_value o)) (find is_default (chapter_nodes.options q))
    else if not (number q.op == CHECKBOX) then None
    else if chapter.has_flag (checkbox_flags q.op) (if class == 0 then 0x01 else 0x02) then Some (chapter.raw 1) else None

-- ---- what a DEFAULT gives

-- A number ends where its bytes do.
no_bytes : (i w : ℕ) → little_from i w [] ≡ 0
no_bytes i zero = refl
no_bytes i (suc w) = let rest = no_bytes (suc i) w in omega (arith, rest)

number_taken : (w : ℕ) (bytes : List ℕ) → little_number (length (take w bytes)) (take w bytes) ≡ little_number w bytes
number_taken zero bytes = refl
number_taken (suc w) [] = sym (no_bytes 0 (suc w))
number_taken (suc w) (b ∷ bytes) =
    ap (λ n. b + 256 * n)
    (little_from-cons 0 (length (take w bytes)) b (take w bytes) ∙ number_taken w bytes ∙ sym (little_from-cons 0 w b bytes))

number_given : (op : List ℕ) → (default_kind op == TYPE_BUFFER) ≡ false → little_number (type_width (default_kind op)) (drop 5 op) ≡ value_number (default_value op)
number_given op other =
    rw other (sym (number_taken (type_width (default_kind op)) (drop 5 op)))

no_buffer : (kind : ℕ) → kind < 11 → (kind == TYPE_BUFFER) ≡ false
no_buffer kind less = ne_eqb kind TYPE_BUFFER (λ e. omega (arith, less, e))

-- a Type that is one below that of a buffer
of_type : (kind code : ℕ) → (kind == code) ≡ true → code < 11 → (kind == TYPE_BUFFER) ≡ false
of_type kind code is less = no_buffer kind (omega (arith, eqb-true kind code is, less))

small_same : (kind : ℕ) → nat_lt kind 4 ≡ nat_le kind TYPE_NUM_SIZE_64
small_same kind = elim (cases_lt kind 4) [
  | inl less ↦ lt-ltb kind 4 less ∙ sym (le-leb kind TYPE_NUM_SIZE_64 (omega (arith, less)))
  | inr more ↦ le-ltb kind 4 more ∙ sym (lt-leb kind TYPE_NUM_SIZE_64 (omega (arith, more)))
]

units_same : (o : Option (List ℕ)) → option_map chapter.units o ≡ option_map offer_for (option_map units o)
units_same None = refl
units_same (Some bytes) = refl

number_same : (v : Value) → option_map chapter.raw (rules.as_number (value_for v)) ≡ option_map offer_for (option_map raw (as_number v))
number_same values.undefined = refl
number_same (values.boolean b) = refl
number_same (values.natural n) = refl
number_same (values.text bytes) = refl
number_same (values.buffer bytes) = refl

-- the number of a value that may be there
of_value : {X V N : Type 0} (number : V → Option N) (none : V) (v : X → V) (o : Option X) → number none ≡ None
    → option_and_then (λ x. number (v x)) o ≡ number (unwrap_or (option_map v o) none)
of_value number none v None e = sym e
of_value number none v (Some x) e = refl

expression_same : (ns : List Node) (stores : Stores) (s : Sources) (q d : Node) → HasSameValue ns stores s q d
    → option_and_then (λ ms. option_map chapter.raw (rules.as_number (value_of (chapter_nodes.rules_of ns) (chapter.answers ns stores) (chapter_nodes.question_id q) ms))) (chapter_nodes.default_expression d)
    ≡ option_map offer_for (option_and_then (evaluated s q) (value_tree d))
expression_same ns stores s q d same =
    of_value (λ v. option_map chapter.raw (rules.as_number v)) rules.undefined (value_of (chapter_nodes.rules_of ns) (chapter.answers ns stores) (chapter_nodes.question_id q)) (chapter_nodes.default_expression d) refl
    ∙ ap (λ v. option_map chapter.raw (rules.as_number v)) same
    ∙ number_same (unwrap_or (option_map (value s.rules s.answers (chapter_nodes.question_id q)) (value_tree d)) undefined)
    ∙ ap (option_map offer_for) (sym (of_value (λ v. option_map raw (as_number v)) undefined (value s.rules s.answers (chapter_nodes.question_id q)) (value_tree d) refl))

-- what is given by five tests, of which the last two may stand in either order
by_tests : (a b c e g : Bool) (u v w x y : Option Offer) (u' v' w' x' y' : Option chapter.Offer)
    → (a ≡ true → u' ≡ option_map offer_for u) → (b ≡ true → v' ≡ option_map offer_for v) → (c ≡ true → w' ≡ option_map offer_for w)
    → (e ≡ true → x' ≡ option_map offer_for x) → (g ≡ true → y' ≡ option_map offer_for y) → (e ≡ true → g ≡ false)
    → (if a then u' else if b then v' else if c then w' else if e then x' else if g then y' else None)
    ≡ option_map offer_for (if a then u else if b then v else if c then w else if g then y else if e then x else None)
by_tests true b c e g u v w x y u' v' w' x' y' i j k l m apart = i refl
by_tests false true c e g u v w x y u' v' w' x' y' i j k l m apart = j refl
by_tests false false true e g u v w x y u' v' w' x' y' i j k l m apart = k refl
by_tests false false false true g u v w x y u' v' w' x' y' i j k l m apart = rw (apart refl) (l refl)
by_tests false false false false true u v w x y u' v' w' x' y' i j k l m apart = m refl
by_tests false false false false false u v w x y u' v' w' x' y' i j k l m apart = refl

given_same : (ns : List Node) (stores : Stores) (s : Sources) (q d : Node) → is_question q ≡ true → HasSameValue ns stores s q d
    → chapter_given ns stores s.texts q d ≡ option_map offer_for (given s q d)
given_same ns stores s q d is same =
    let kind = default_kind d.op in
    let number = little_number (type_width kind) (drop 5 d.op) in
    ap (λ small. if small then Some (chapter.raw number)
    else if kind == 4 then Some (chapter.raw (if number == 0 then 0 else 1))
    else if kind == 7 then option_map chapter.units (s.texts number)
    else if kind == 8
    then option_and_then (λ ms. option_map chapter.raw (rules.as_number (value_of (chapter_nodes.rules_of ns) (chapter.answers ns stores) (chapter_nodes.question_id q) ms))) (chapter_nodes.default_expression d)
    else if kind == 0x0b then Some (chapter.elements (chapter.bytes_of_items (chapter.element_width q) (drop 5 d.op)))
    else None) (small_same kind)
    ∙ by_tests (nat_le kind TYPE_NUM_SIZE_64) (kind == TYPE_BOOLEAN) (kind == TYPE_STRING) (kind == TYPE_OTHER) (kind == TYPE_BUFFER) _ _ _ _ _ _ _ _ _ _
    (λ few. ap (λ n. Some (chapter.raw n)) (number_given d.op (no_buffer kind (omega (arith, ltb-true kind 4 (small_same kind ∙ few))))))
    (λ here. ap (λ n. Some (chapter.raw (if n == 0 then 0 else 1))) (number_given d.op (of_type kind TYPE_BOOLEAN here (omega arith))))
    (λ here. ap (λ n. option_map chapter.units (s.texts n)) (number_given d.op (of_type kind TYPE_STRING here (omega arith))) ∙ units_same (s.texts (value_number (default_value d.op))))
    (λ here. expression_same ns stores s q d same)
    (λ here. ap (λ w. Some (chapter.elements (bytes_of_items w (drop 5 d.op)))) (element_same q is)
    ∙ ap (λ bytes. Some (chapter.elements (bytes_of_items (element_width q) bytes))) (sym (cond-true (kind == TYPE_BUFFER) (drop 5 d.op) (take (type_width kind) (drop 5 d.op)) here)))
    (λ here. of_type kind TYPE_OTHER here (omega arith))

-- ---- what flags give

chosen_same : (chosen : Node → Bool) (q : Node) → is_question q ≡ true
    → option_map (λ (o : Node). chapter.raw (chapter.option_value o)) (find chosen (chapter_nodes.options q))
    ≡ option_map offer_for (option_map raw (option_map (λ (o : Node). option_value o.op) (find chosen (node.options q))))
chosen_same chosen q is =
    ap (λ (os : List Node). option_map (λ (o : Node). chapter.raw (chapter.option_value o)) (find chosen os)) (options_same q is) ∙ by_option (find chosen (node.options q))
  where
    by_option : (o : Option Node) → option_map (λ (o : Node). chapter.raw (chapter.option_value o)) o ≡ option_map offer_for (option_map raw (option_map (λ (o : Node). option_value o.op) o))
    by_option None = refl
    by_option (Some o) = ap (λ n. Some (chapter.raw n)) (value_same o)

by_flags : (a c f : Bool) (x : Option ℕ) (x' : Option chapter.Offer) → x' ≡ option_map offer_for (option_map raw x)
    → (if a then x' else if not c then None else if f then Some (chapter.raw 1) else None) ≡ option_map offer_for (option_map raw (if a then x else if c && f then Some 1 else None))
by_flags true c f x x' same = same
by_flags false false f x x' same = refl
by_flags false true true x x' same = refl
by_flags false true false x x' same = refl

none_found : (test : Node → Bool) (os : List Node) → ((o : Node) → test o ≡ false) → find test os ≡ None
none_found test [] none = refl
none_found test (o ∷ os) none = rw (none o) (none_found test os none)

no_flags : (a c f : Bool) (o : Option Node) → f ≡ false → o ≡ None → (if a then option_map (λ (o : Node). option_value o.op) o else if c && f then Some 1 else None) ≡ None
no_flags true c f o e none = rw none refl
no_flags false false f o e none = refl
no_flags false true f o e none = rw e refl

-- Flags give nothing for other classes.
not_chosen : (n : ℕ) (op : List ℕ) → is_chosen_for (suc (suc n)) op ≡ false
not_chosen n op = rw (many n 0 (omega arith), many n 1 (omega arith)) refl

not_checked : (n : ℕ) (op : List ℕ) → is_checked_for (suc (suc n)) op ≡ false
not_checked n op = rw (many n 0 (omega arith), many n 1 (omega arith)) refl

flagged_same : (q : Node) (class : ℕ) → is_question q ≡ true → chapter_flagged q class ≡ option_map offer_for (option_map raw (flagged q class))
flagged_same q zero is =
    by_flags (number q.op == ONE_OF) (number q.op == CHECKBOX) (chapter.has_flag (checkbox_flags q.op) 0x01) _ _ (chosen_same (λ (o : Node). is_default_option o.op) q is)
flagged_same q (suc zero) is =
    by_flags (number q.op == ONE_OF) (number q.op == CHECKBOX) (chapter.has_flag (checkbox_flags q.op) 0x02) _ _ (chosen_same (λ (o : Node). is_manufacturing_option o.op) q is)
flagged_same q (suc (suc n)) is =
    let class = suc (suc n) in
    let more : nat_lt 1 class ≡ true = lt-ltb 1 class (omega arith) in
    let chosen : Node → Bool = λ o. is_chosen_for class o.op in
    let none : flagged q class ≡ None =
    no_flags (number q.op == ONE_OF) (number q.op == CHECKBOX) (is_checked_for class q.op) (find chosen (node.options q)) (not_checked n q.op)
    (none_found chosen (node.options q) (λ o. not_chosen n o.op)) in
    cond-true (nat_lt 1 class) None _ more ∙ sym (ap (λ (o : Option ℕ). option_map offer_for (option_map raw o)) none)

-- ---- the default

first_of : {X : Type 0} (p : X → Bool) (xs : List X) → first (filter p xs) ≡ find p xs
first_of p [] = refl
first_of p (x ∷ xs) = elim (cases_Bool (p x)) [ inl is ↦ rw is refl | inr other ↦ rw other (first_of p xs) ]

with_same : (q : Node) (class : ℕ) → is_question q ≡ true
    → first (filter (λ (n : Node). is_a a_default n.op && default_id n.op == class) (below q)) ≡ default_with q class
with_same q class is =
    first_of (λ (n : Node). is_a a_default n.op && default_id n.op == class) (below q)
    ∙ sym (find_among (λ (n : Node). is_a a_default n.op) (λ (n : Node). default_id n.op == class) (below q))
    ∙ ap (find (λ (n : Node). default_id n.op == class)) (defaults_same q is)

pub default_same : (ns : List Node) (stores : Stores) (s : Sources) (q : Node) (class : ℕ) → is_question q ≡ true → IfSome (default_with q class) (HasSameValue ns stores s q)
    → chapter.default_of ns stores s.texts q class ≡ option_map offer_for (default_of s q class)
default_same ns stores s q class is same =
    ap (λ (o : Option Node). unwrap_or (option_map (chapter_given ns stores s.texts q) o) (chapter_flagged q class)) (with_same q class is) ∙ by_default (default_with q class) same
  where
    by_default : (o : Option Node) → IfSome o (HasSameValue ns stores s q)
        → unwrap_or (option_map (chapter_given ns stores s.texts q) o) (chapter_flagged q class) ≡ option_map offer_for (given_or_flagged s q class o)
    by_default None same = flagged_same q class is
    by_default (Some d) same = given_same ns stores s q d is same

-- A DEFAULT of another Type has no expression.
all_three : (a b c : Bool) → c ≡ false → ((a && b && c) ≡ false) × ((a && (b && c)) ≡ false)
all_three true true c e = (e, e)
all_three true false c e = (refl, refl)
all_three false b c e = (refl, refl)

pub plain_same : (ns : List Node) (stores : Stores) (s : Sources) (q d : Node) → (default_kind d.op == TYPE_OTHER) ≡ false → HasSameValue ns stores s q d
plain_same ns stores s q d other =
    let none = all_three (number d.op == DEFAULT) (nat_le 5 (length d.op)) (default_kind d.op == TYPE_OTHER) other in
    ap (λ (o : Option (List Mark)). unwrap_or (option_map (value_of (chapter_nodes.rules_of ns) (chapter.answers ns stores) (chapter_nodes.question_id q)) o) rules.undefined)
    (cond-false (chapter_wants_value d.op) _ None none.0)
    ∙ sym (ap (λ (o : Option Tree). value_for (unwrap_or (option_map (value s.rules s.answers (chapter_nodes.question_id q)) o) undefined))
    (cond-false (wants_value d.op) (tree_of_value (d.place + length d.op) d.children) None none.1))
