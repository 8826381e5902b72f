-- What is seen, changed and submitted by the chapters.
use Rattle.std.proofs.Common.{◌≡◌, ◌==◌, ℕ, zero, suc, ◌+◌, Bool, true, false, Option, Some, None, List, [], ◌∷◌, ◌++◌, map, refl, sym, ap, subst, ◌∙◌, arith, inl, inr}
use Rattle.std.specs.Prelude.{◌&&◌, ◌||◌, not, if◌then◌else◌, Contains, filter, option_map, is_none}
use Rattle.std.specs.List.{find, list_any}
use Rattle.std.specs.Option.{option_or}
use Rattle.std.proofs.lemmas.Bool.{cases_Bool, cond-true, eqb-true, false≢true}
use Rattle.browser_rules.specs.Nodes as rows
use Rattle.browser_rules.specs.Opcodes.{a_condition, a_guard, a_rule, a_value, an_option, field_in, is_a, wants_expression, CHECKBOX, DISABLE_IF, GRAY_OUT_IF, INCONSISTENT_IF, NO_SUBMIT_IF, NUMERIC, ONE_OF, ORDERED_LIST, PASSWORD, QUESTION_HEADER, REF, STRING, SUPPRESS_IF, WARNING_IF, WITH_ERROR}
use Rattle.browser_rules.specs.Policy as chapter
use Rattle.browser_rules.specs.Questions as questions
use Rattle.browser_rules.specs.Words.{is_among, number_in}
use Rattle.ifr_opcodes.specs.Fields.{inconsistent_error, no_submit_error, warning_message, option_value, question_offset, question_store, ref_target}
use Rattle.ifr_opcodes.specs.Forest.{Ancestor, Node, as_ancestor, below}
use Rattle.ifr_opcodes.specs.Opcode.{number}
use Rattle.ifr_opcodes.specs.Reading.{tree_of}
use Rattle.ifr_opcodes.specs.declared.codes.TheConstants as numbers
use Rattle.ifr_nodes.specs.NodeExpressions.{message}
use Rattle.ifr_nodes.specs.Guards.{guards, is_guard, node_within, nodes_on}
use Rattle.ifr_opcodes.specs.Rows.{is_condition_number}
use Rattle.ifr_opcodes.proofs.StatementLemmas.{inconsistent_is, no_submit_is, warning_is}
use Rattle.ifr_nodes.specs.Locks.{first_lock}
use Rattle.ifr_nodes.specs.Nodes as node
use Rattle.ifr_nodes.specs.Nodes.{nodes_of}
use Rattle.ifr_nodes.proofs.ScopeLemmas.{IsScopeOf, Nest, path_nests}
use Rattle.ifr_nodes.proofs.ViewLemmas.{below_within, further}
use Rattle.hii_varstore.specs.Layout.{size_of}
use Rattle.hii_varstore.specs.StoreNodes.{layout_of}
use Rattle.hii_varstore.specs.Stores.{StoreMap}
use Rattle.hii_values.specs.Denials.{kind_name}
use Rattle.hii_values.specs.FieldTypes.{FieldType, size_of_type}
use Rattle.hii_values.specs.Types.{type_of}
use Rattle.hii_values.specs.declared.denial.DenialKind.{DenialKind}
use Rattle.hii_values.specs.declared.denial.DenialKind.TheVariants.{DisableIf, SuppressIf, GrayOutIf, Locked, ReadOnly, Outside, Kind, Range, NoOption, Length, Repeat, EmptySet, BadText, InconsistentIf, NoSubmitIf, NoQuestion, NotRef, NotButton, NoRow, NoBack, DeepHistory, NoStore, NoField, Password}
use Rattle.hii_questions.specs.Fields as fields
use Rattle.hii_questions.proofs.FieldLemmas.{passing}
use Rattle.guard_policy.specs.Policy as policy
use Rattle.guard_policy.specs.Policy.{all_fixed, closed, denied_by, denies_submission, first_closed, fixed, fixed_itself, grays_out, hidden, hides, hiding, inconsistent, or_else, told, unsubmitted, warned}
use Rattle.guard_policy.specs.World.{World, is_disabling, is_met_over, removed_at, world_over}
use Rattle.guard_policy.specs.declared.denial.Denial.{Denial}
use Rattle.rules_laws.specs.laws.Policy.{AreAlike}
use Rattle.rules_laws.specs.Denials.{denial_for, kind_for}
use Rattle.rules_laws.proofs.NodeLemmas.{guards_same, inconsistents_same, is_question_same, lock_same, options_same, same_filter, warnings_same}
use Rattle.rules_laws.proofs.OpcodeScopeLemmas.{condition_same, guard_same}
use Rattle.rules_laws.proofs.StoreLemmas.{size_of_same}

-- ---- lists

-- tests that agree on a list find, keep and pass the same
pub same_find : {X : Type 0} (p q : X → Bool) (xs : List X) → ((x : X) → Contains xs x → p x ≡ q x) → find p xs ≡ find q xs
same_find p q [] same = refl
same_find p q (x ∷ xs) same = rw (same x (0, omega arith, refl), same_find p q xs (λ y there. same y (further x xs y there))) refl

pub same_kept : {X : Type 0} (p q : X → Bool) (xs : List X) → ((x : X) → Contains xs x → p x ≡ q x) → filter p xs ≡ filter q xs
same_kept p q [] same = refl
same_kept p q (x ∷ xs) same = rw (same x (0, omega arith, refl), same_kept p q xs (λ y there. same y (further x xs y there))) refl

same_any : {X : Type 0} (p q : X → Bool) (xs : List X) → ((x : X) → Contains xs x → p x ≡ q x) → list_any p xs ≡ list_any q xs
same_any p q [] same = refl
same_any p q (x ∷ xs) same = rw (same x (0, omega arith, refl), same_any p q xs (λ y there. same y (further x xs y there))) refl

-- what two tests find is what one finds among what the other keeps
find_kept : {X : Type 0} (keep p : X → Bool) (xs : List X) → find (λ x. keep x && p x) xs ≡ find p (filter keep xs)
find_kept keep p [] = refl
find_kept keep p (x ∷ xs) = elim (cases_Bool (keep x)) [
  | inl h ↦ rw (h, find_kept keep p xs) refl
  | inr h ↦ rw h (find_kept keep p xs)
]

-- what is told of the one that is found
told_of_found : {X Y Z : Type 0} (f : X → Z) (g : X → Y) (h : Y → Z) (p : X → Bool) (xs : List X) → ((x : X) → Contains xs x → f x ≡ h (g x)) → option_map f (find p xs) ≡ option_map h (option_map g (find p xs))
told_of_found f g h p [] same = refl
told_of_found f g h p (x ∷ xs) same = elim (cases_Bool (p x)) [
  | inl e ↦ rw e (ap (λ z. Some z) (same x (0, omega arith, refl)))
  | inr e ↦ rw e (told_of_found f g h p xs (λ y there. same y (further x xs y there)))
]

where_true : (a b c : Bool) → (a ≡ true → b ≡ c) → (a && b) ≡ (a && c)
where_true true b c same = same refl
where_true false b c same = refl

-- ---- names

pub names_same : (kind : DenialKind) → chapter.kind_name (kind_for kind) ≡ kind_name kind
names_same DisableIf = refl
names_same SuppressIf = refl
names_same GrayOutIf = refl
names_same Locked = refl
names_same ReadOnly = refl
names_same Outside = refl
names_same Kind = refl
names_same Range = refl
names_same NoOption = refl
names_same Length = refl
names_same Repeat = refl
names_same EmptySet = refl
names_same BadText = refl
names_same InconsistentIf = refl
names_same NoSubmitIf = refl
names_same NoQuestion = refl
names_same NotRef = refl
names_same NotButton = refl
names_same NoRow = refl
names_same NoBack = refl
names_same DeepHistory = refl
names_same NoStore = refl
names_same NoField = refl
names_same Password = refl

-- ---- which nodes have conditions

first_of_four : (a b c d : Bool) → a ≡ true → (a || b || c || d) ≡ true
first_of_four true b c d is = refl
first_of_four false b c d is = absurd cc

second_of_four : (a b c d : Bool) → b ≡ true → (a || b || c || d) ≡ true
second_of_four true true c d is = refl
second_of_four false true c d is = refl
second_of_four a false c d is = absurd cc

guard_wants : (code : ℕ) → is_guard code ≡ true → wants_expression (code ∷ []) ≡ true
guard_wants code is = first_of_four (is_a a_guard (code ∷ [])) (is_a a_condition (code ∷ [])) (is_a a_rule (code ∷ [])) (is_a a_value (code ∷ [])) (guard_same code ∙ is)

condition_wants : (code : ℕ) → is_condition_number code ≡ true → wants_expression (code ∷ []) ≡ true
condition_wants code is = second_of_four (is_a a_guard (code ∷ [])) (is_a a_condition (code ∷ [])) (is_a a_rule (code ∷ [])) (is_a a_value (code ∷ [])) (condition_same code ∙ is)

-- the conditions of questions
has_condition : (code other : ℕ) → (code == other) ≡ true → is_condition_number other ≡ true → wants_expression (code ∷ []) ≡ true
has_condition code other is condition = condition_wants code (ap is_condition_number (eqb-true code other is) ∙ condition)

-- ---- nodes of the package

scope_there : (ns : List Node) (around : List Ancestor) (a : Ancestor) → IsScopeOf ns around a → Contains ns (node_within around a)
scope_there ns around a s =
    subst (λ (b : Ancestor). Contains ns (node_within around b)) s.is (subst (λ (path : List Ancestor). Contains ns (node_within path (as_ancestor s.node))) s.path s.within)

on_path : (ns : List Node) (around path : List Ancestor) → Nest ns around path → (m : Node) → Contains (nodes_on around path) m → Contains ns m
on_path ns around [] nest m (k, lt, e) = absurd (omega arith)
on_path ns around (a ∷ path) nest m (zero, lt, e) = subst (λ (p : Node). Contains ns p) e (scope_there ns around a nest.0)
on_path ns around (a ∷ path) nest m (suc k, lt, e) = on_path ns (around ++ a ∷ []) path nest.1 m (k, omega arith, e)

guard_there : (bytes : List ℕ) (n m : Node) → Contains (nodes_of bytes) n → Contains (guards n) m → Contains (nodes_of bytes) m × (is_guard (number m.op) ≡ true)
guard_there bytes n m within there =
    let kept = passing (λ (g : Node). is_guard (number g.op)) (nodes_on [] n.path) m there in
    (on_path (nodes_of bytes) [] n.path (path_nests bytes n within) m kept.0, kept.1)

pub inside_there : (bytes : List ℕ) (test : Node → Bool) (q m : Node) → Contains (nodes_of bytes) q → Contains (rows.in_question test q) m → Contains (nodes_of bytes) m × (test m ≡ true)
inside_there bytes test q m within there =
    let kept = passing test (below q) m there in
    (below_within (tree_of bytes) 4 [] q m within kept.0, kept.1)

-- ---- denials

pub or_same : (a b : Option Denial) → option_or (option_map denial_for a) (option_map denial_for b) ≡ option_map denial_for (or_else a b)
or_same None b = refl
or_same (Some d) b = refl

pub none_same : (o : Option Denial) → is_none (option_map denial_for o) ≡ is_none o
none_same None = refl
none_same (Some d) = refl

if_same : (b : Bool) (x : Option chapter.Denial) (y : Option Denial) → x ≡ option_map denial_for y → (if b then None else x) ≡ option_map denial_for (if b then None else y)
if_same true x y same = refl
if_same false x y same = same

-- Those of the chapters that cannot be named are said again here.
abbrev chapter_removed : chapter.World → Node → Bool
chapter_removed w guard = rows.is DISABLE_IF guard && is_among guard.place w.removed

abbrev telling : questions.DenialKind → ℕ → ℕ → chapter.Denial
telling kind place text = record { kind = kind; place = place; message = Some text }

-- of four that may deny the first does
four : (h g l o : Option Denial) → option_or (option_map denial_for h) (option_or (option_map denial_for g) (option_or (option_map denial_for l) (option_map denial_for o)))
    ≡ option_map denial_for (or_else (or_else h (or_else g l)) o)
four (Some d) g l o = refl
four None (Some d) l o = refl
four None None (Some d) o = refl
four None None None o = refl

four_same : (hides grays locks itself : Option chapter.Denial) (h g l o : Option Denial) → hides ≡ option_map denial_for h → grays ≡ option_map denial_for g → locks ≡ option_map denial_for l → itself ≡ option_map denial_for o
    → option_or hides (option_or grays (option_or locks itself)) ≡ option_map denial_for (or_else (or_else h (or_else g l)) o)
four_same hides grays locks itself h g l o a b c d =
    ap (λ x. option_or x (option_or grays (option_or locks itself))) a
    ∙ ap (λ x. option_or (option_map denial_for h) (option_or x (option_or locks itself))) b
    ∙ ap (λ x. option_or (option_map denial_for h) (option_or (option_map denial_for g) (option_or x itself))) c
    ∙ ap (λ x. option_or (option_map denial_for h) (option_or (option_map denial_for g) (option_or (option_map denial_for l) x))) d
    ∙ four h g l o

-- ---- what hides

hiding_same : (b : Bool) (n : Node) → chapter.denied_by (if b then questions.DisableIf else questions.SuppressIf) n ≡ denial_for (denied_by (if b then DisableIf else SuppressIf) n)
hiding_same true n = refl
hiding_same false n = refl

guard_met : (bytes : List ℕ) (w : chapter.World) (v : World) → AreAlike bytes w v → (n g : Node) → Contains (nodes_of bytes) n → Contains (guards n) g → chapter.is_met w g ≡ v.met g
guard_met bytes w v alike n g within there =
    let found = guard_there bytes n g within there in
    alike.met g found.0 (guard_wants (number g.op) found.1)

abbrev chapter_hides : chapter.World → Node → Bool
chapter_hides w guard = chapter_removed w guard || rows.is SUPPRESS_IF guard && chapter.is_met w guard

abbrev chapter_hiding : Node → chapter.Denial
chapter_hiding guard = chapter.denied_by (if rows.is DISABLE_IF guard then questions.DisableIf else questions.SuppressIf) guard

removed_same : (bytes : List ℕ) (w : chapter.World) (v : World) → AreAlike bytes w v → (g : Node) → chapter_removed w g ≡ policy.is_removed v.removed g
removed_same bytes w v alike g = ap (λ (places : List ℕ). policy.is_removed places g) alike.removed

hides_same : (bytes : List ℕ) (w : chapter.World) (v : World) → AreAlike bytes w v → (n g : Node) → Contains (nodes_of bytes) n → Contains (guards n) g → chapter_hides w g ≡ hides v g
hides_same bytes w v alike n g within there =
    ap (λ (b : Bool). b || (rows.is SUPPRESS_IF g && chapter.is_met w g)) (removed_same bytes w v alike g)
    ∙ ap (λ (b : Bool). policy.is_removed v.removed g || (rows.is SUPPRESS_IF g && b)) (guard_met bytes w v alike n g within there)

pub hidden_same : (bytes : List ℕ) (w : chapter.World) (v : World) (n : Node) → AreAlike bytes w v → Contains (nodes_of bytes) n → chapter.hidden_by w n ≡ option_map denial_for (hidden v n)
hidden_same bytes w v n alike within =
    ap (λ (gs : List Node). option_map chapter_hiding (find (chapter_hides w) gs)) (guards_same n)
    ∙ ap (λ (found : Option Node). option_map chapter_hiding found) (same_find (chapter_hides w) (hides v) (guards n) (λ g there. hides_same bytes w v alike n g within there))
    ∙ told_of_found chapter_hiding hiding denial_for (hides v) (guards n) (λ g there. hiding_same (rows.is DISABLE_IF g) g)

-- ---- the field of a question

abbrev in_store : ℕ → ℕ → questions.FieldType → questions.Field
in_store store offset t = record { store = store; offset = offset; width = questions.width_of t }

-- A field is there alike, where types are.
field_alike : (store offset : ℕ) (size : Option ℕ) (t : Option questions.FieldType) (u : Option FieldType) → is_none t ≡ is_none u
    → is_none (if store == 0 || is_none size then None else option_map (λ (k : questions.FieldType). in_store store offset k) t) ≡ is_none (fields.field_in store offset size (option_map size_of_type u))
field_alike store offset None t u same = elim (cases_Bool (store == 0)) [
  | inl h ↦ rw h refl
  | inr h ↦ rw h refl
]
field_alike store offset (Some size) None None same = elim (cases_Bool (store == 0)) [
  | inl h ↦ rw h refl
  | inr h ↦ rw h refl
]
field_alike store offset (Some size) None (Some u) same = absurd (false≢true (sym same))
field_alike store offset (Some size) (Some t) None same = absurd (false≢true same)
field_alike store offset (Some size) (Some t) (Some u) same = elim (cases_Bool (store == 0)) [
  | inl h ↦ rw h refl
  | inr h ↦ rw h refl
]

-- one of six types, or none
types_alike : {X Y : Type 0} (a b c d e f : Bool) (x1 x2 x3 x4 x5 x6 : X) (y1 y2 y3 y4 y5 y6 : Y)
    → is_none (if a then Some x1 else if b then Some x2 else if c then Some x3 else if d then Some x4 else if e then Some x5 else if not f then None else Some x6)
    ≡ is_none (if a then Some y1 else if b then Some y2 else if c then Some y3 else if d then Some y4 else if e then Some y5 else if f then Some y6 else None)
types_alike true b c d e f x1 x2 x3 x4 x5 x6 y1 y2 y3 y4 y5 y6 = refl
types_alike false true c d e f x1 x2 x3 x4 x5 x6 y1 y2 y3 y4 y5 y6 = refl
types_alike false false true d e f x1 x2 x3 x4 x5 x6 y1 y2 y3 y4 y5 y6 = refl
types_alike false false false true e f x1 x2 x3 x4 x5 x6 y1 y2 y3 y4 y5 y6 = refl
types_alike false false false false true f x1 x2 x3 x4 x5 x6 y1 y2 y3 y4 y5 y6 = refl
types_alike false false false false false true x1 x2 x3 x4 x5 x6 y1 y2 y3 y4 y5 y6 = refl
types_alike false false false false false false x1 x2 x3 x4 x5 x6 y1 y2 y3 y4 y5 y6 = refl

type_there : (q : Node) → is_none (questions.type_of q) ≡ is_none (type_of q)
type_there q = types_alike (rows.is CHECKBOX q) (rows.is NUMERIC q) (rows.is ONE_OF q) (rows.is STRING q) (rows.is PASSWORD q) (rows.is ORDERED_LIST q) _ _ _ _ _ _ _ _ _ _ _ _

field_there : (ns : List Node) (q : Node) → is_none (questions.field_of ns q) ≡ is_none (fields.field_of ns q)
field_there ns q =
    let store : ℕ = question_store q.op in
    ap (λ (size : Option ℕ). is_none (if store == 0 || is_none size then None else option_map (λ (k : questions.FieldType). in_store store (question_offset q.op) k) (questions.type_of q))) (size_of_same ns store)
    ∙ field_alike store (question_offset q.op) (size_of (layout_of ns) store) (questions.type_of q) (type_of q) (type_there q)

-- ---- what fixes

abbrev chapter_own : List Node → Node → Option chapter.Denial
chapter_own ns q =
    if questions.has_flag (field_in QUESTION_HEADER "QuestionFlags" q.op) 0x01 then Some (chapter.denied_by questions.ReadOnly q)
    else if (if rows.is REF q then is_none (rows.ref_target q) else is_none (questions.field_of ns q)) then Some (chapter.denied_by questions.Outside q)
    else None

outside_same : (b : Bool) (n : Node) → (if b then Some (chapter.denied_by questions.Outside n) else None) ≡ option_map denial_for (if b then Some (denied_by Outside n) else None)
outside_same true n = refl
outside_same false n = refl

own_of : (fixes lacks other : Bool) (n : Node) → lacks ≡ other
    → (if fixes then Some (chapter.denied_by questions.ReadOnly n) else if lacks then Some (chapter.denied_by questions.Outside n) else None)
    ≡ option_map denial_for (if fixes then Some (denied_by ReadOnly n) else if other then Some (denied_by Outside n) else None)
own_of true lacks other n same = refl
own_of false lacks other n same = ap (λ (b : Bool). if b then Some (chapter.denied_by questions.Outside n) else None) same ∙ outside_same other n

of_question : (asks : Bool) (x : Option chapter.Denial) (y : Option Denial) → x ≡ option_map denial_for y → (if asks then x else None) ≡ option_map denial_for (if asks then y else None)
of_question true x y same = same
of_question false x y same = refl

own_same : (ns : List Node) (n : Node) → (if rows.is_question n then chapter_own ns n else None) ≡ option_map denial_for (fixed_itself ns n)
own_same ns n =
    ap (λ (b : Bool). if b then chapter_own ns n else None) (is_question_same n)
    ∙ of_question (node.is_question n) (chapter_own ns n) (policy.fixed_question (fields.asked ns n))
    (own_of (questions.has_flag (field_in QUESTION_HEADER "QuestionFlags" n.op) 0x01) (if rows.is REF n then is_none (rows.ref_target n) else is_none (questions.field_of ns n)) (policy.is_never_changed (fields.asked ns n)) n
    (ap (λ (b : Bool). if rows.is REF n then is_none (ref_target n.op) else b) (field_there ns n)))

abbrev chapter_grays : chapter.World → Node → Bool
chapter_grays w guard = rows.is GRAY_OUT_IF guard && chapter.is_met w guard

gray_same : (bytes : List ℕ) (w : chapter.World) (v : World) (n : Node) → AreAlike bytes w v → Contains (nodes_of bytes) n
    → option_map (chapter.denied_by questions.GrayOutIf) (find (chapter_grays w) (rows.guards n)) ≡ option_map denial_for (option_map (denied_by GrayOutIf) (find (grays_out v) (guards n)))
gray_same bytes w v n alike within =
    ap (λ (gs : List Node). option_map (chapter.denied_by questions.GrayOutIf) (find (chapter_grays w) gs)) (guards_same n)
    ∙ ap (λ (found : Option Node). option_map (chapter.denied_by questions.GrayOutIf) found) (same_find (chapter_grays w) (grays_out v) (guards n) (λ g there. ap (λ (b : Bool). rows.is GRAY_OUT_IF g && b) (guard_met bytes w v alike n g within there)))
    ∙ told_of_found (chapter.denied_by questions.GrayOutIf) (denied_by GrayOutIf) denial_for (grays_out v) (guards n) (λ g there. refl)

locked_same : (lock : Option Node) → option_map (chapter.denied_by questions.Locked) lock ≡ option_map denial_for (option_map (denied_by Locked) lock)
locked_same None = refl
locked_same (Some n) = refl

pub fixed_same : (bytes : List ℕ) (w : chapter.World) (v : World) (n : Node) → AreAlike bytes w v → Contains (nodes_of bytes) n → chapter.fixed_by w n ≡ option_map denial_for (fixed v n)
fixed_same bytes w v n alike within =
    four_same (chapter.hidden_by w n) (option_map (chapter.denied_by questions.GrayOutIf) (find (chapter_grays w) (rows.guards n))) (option_map (chapter.denied_by questions.Locked) (rows.lock_of w.nodes n)) (if rows.is_question n then chapter_own w.nodes n else None)
    (hidden v n) (option_map (denied_by GrayOutIf) (find (grays_out v) (guards n))) (option_map (denied_by Locked) (first_lock v.nodes n)) (fixed_itself v.nodes n)
    (hidden_same bytes w v n alike within)
    (gray_same bytes w v n alike within)
    (ap (λ (ns : List Node). option_map (chapter.denied_by questions.Locked) (rows.lock_of ns n)) nodes
    ∙ ap (λ (lock : Option Node). option_map (chapter.denied_by questions.Locked) lock) (lock_same v.nodes n) ∙ locked_same (first_lock v.nodes n))
    (ap (λ (ns : List Node). if rows.is_question n then chapter_own ns n else None) nodes ∙ own_same v.nodes n)
  where
    nodes : w.nodes ≡ v.nodes
    nodes = alike.nodes ∙ sym alike.same_nodes

-- ---- the values of options

abbrev chapter_all : chapter.World → List Node → Option chapter.Denial
chapter_all w [] = None
chapter_all w (o ∷ os) = if list_any (λ p. is_none (chapter.fixed_by w p)) (o ∷ os) then None else chapter.fixed_by w o

all_same : (bytes : List ℕ) (w : chapter.World) (v : World) (os : List Node) → AreAlike bytes w v → ((o : Node) → Contains os o → Contains (nodes_of bytes) o) → chapter_all w os ≡ option_map denial_for (all_fixed v os)
all_same bytes w v [] alike within = refl
all_same bytes w v (o ∷ os) alike within =
    ap (λ (b : Bool). if b then None else chapter.fixed_by w o)
    (same_any (λ p. is_none (chapter.fixed_by w p)) (λ p. is_none (fixed v p)) (o ∷ os) (λ p there. ap (λ (d : Option chapter.Denial). is_none d) (fixed_same bytes w v p alike (within p there)) ∙ none_same (fixed v p)))
    ∙ if_same (list_any (λ p. is_none (fixed v p)) (o ∷ os)) (chapter.fixed_by w o) (fixed v o) (fixed_same bytes w v o alike (within o (0, omega arith, refl)))

value_same : (o : Node) → questions.option_value o ≡ option_value o.op
unfolding number_in
value_same o = refl

of_value_same : (q : Node) (value : ℕ) → node.is_question q ≡ true → filter (λ o. questions.option_value o == value) (rows.options q) ≡ filter (λ (o : Node). option_value o.op == value) (node.options q)
of_value_same q value is =
    same_filter (λ o. questions.option_value o == value) (λ (o : Node). option_value o.op == value) (rows.options q) (λ o. ap (λ (n : ℕ). n == value) (value_same o))
    ∙ ap (λ (os : List Node). filter (λ (o : Node). option_value o.op == value) os) (options_same q is)

closed_same : (bytes : List ℕ) (w : chapter.World) (v : World) (q : Node) (value : ℕ) → AreAlike bytes w v → Contains (nodes_of bytes) q → node.is_question q ≡ true
    → chapter_all w (filter (λ o. questions.option_value o == value) (rows.options q)) ≡ option_map denial_for (closed v q value)
closed_same bytes w v q value alike within is =
    all_same bytes w v (filter (λ o. questions.option_value o == value) (rows.options q)) alike
    (λ o there. (inside_there bytes (λ (n : Node). is_a an_option n.op) q o within (passing (λ p. questions.option_value p == value) (rows.options q) o there).0).0)
    ∙ ap (λ (os : List Node). option_map denial_for (all_fixed v os)) (of_value_same q value is)

pub values_same : (bytes : List ℕ) (w : chapter.World) (v : World) (q : Node) (values : List ℕ) → AreAlike bytes w v → Contains (nodes_of bytes) q → node.is_question q ≡ true
    → chapter.values_denied_by w q values ≡ option_map denial_for (first_closed v q values)
values_same bytes w v q [] alike within is = refl
values_same bytes w v q (value ∷ values) alike within is =
    ap (λ (d : Option chapter.Denial). option_or d (chapter.values_denied_by w q values)) (closed_same bytes w v q value alike within is)
    ∙ ap (λ (d : Option chapter.Denial). option_or (option_map denial_for (closed v q value)) d) (values_same bytes w v q values alike within is)
    ∙ or_same (closed v q value) (first_closed v q values)

-- ---- what is inconsistent, and what warns

inconsistent_message : (op : List ℕ) → (number op == numbers.INCONSISTENT_IF) ≡ true → message op ≡ inconsistent_error op
inconsistent_message op is = cond-true (number op == numbers.INCONSISTENT_IF) (inconsistent_error op) (if number op == numbers.NO_SUBMIT_IF then no_submit_error op else warning_message op) is

no_submit_message : (op : List ℕ) → (number op == numbers.NO_SUBMIT_IF) ≡ true → message op ≡ no_submit_error op
no_submit_message op is =
    ap (λ (code : ℕ). if code == numbers.INCONSISTENT_IF then inconsistent_error op else if code == numbers.NO_SUBMIT_IF then no_submit_error op else warning_message op)
    (eqb-true (number op) numbers.NO_SUBMIT_IF is)

question_met : (bytes : List ℕ) (w : chapter.World) (v : World) (other : ℕ) → AreAlike bytes w v → is_condition_number other ≡ true → (n : Node) → Contains (nodes_of bytes) n → (number n.op == other) ≡ true → chapter.is_met w n ≡ v.met n
question_met bytes w v other alike condition n within is = alike.met n within (has_condition (number n.op) other is condition)

abbrev tells_inconsistent : Node → chapter.Denial
tells_inconsistent n = telling questions.InconsistentIf n.place (field_in WITH_ERROR "Error" n.op)

pub inconsistent_same : (bytes : List ℕ) (w : chapter.World) (v : World) (q : Node) → AreAlike bytes w v → Contains (nodes_of bytes) q → node.is_question q ≡ true
    → chapter.inconsistent_by w q ≡ option_map denial_for (inconsistent v q)
inconsistent_same bytes w v q alike within is =
    ap (λ (found : Option Node). option_map tells_inconsistent found) (same_find (chapter.is_met w) v.met its (λ n there. question_met bytes w v numbers.INCONSISTENT_IF alike inconsistent_is n (inside n there).0 (inside n there).1))
    ∙ told_of_found tells_inconsistent (told InconsistentIf) denial_for v.met its (λ n there. ap (telling questions.InconsistentIf n.place) (sym (inconsistent_message n.op (inside n there).1)))
    ∙ ap (λ (ns : List Node). option_map denial_for (option_map (told InconsistentIf) (find v.met ns))) (inconsistents_same q is)
  where
    its : List Node
    its = rows.in_question (rows.is INCONSISTENT_IF) q

    inside : (n : Node) → Contains its n → Contains (nodes_of bytes) n × (rows.is INCONSISTENT_IF n ≡ true)
    inside n there = inside_there bytes (rows.is INCONSISTENT_IF) q n within there

pub warned_same : (bytes : List ℕ) (w : chapter.World) (v : World) (q : Node) → AreAlike bytes w v → Contains (nodes_of bytes) q → node.is_question q ≡ true → chapter.warnings w q ≡ warned v q
warned_same bytes w v q alike within is =
    same_kept (chapter.is_met w) v.met (rows.in_question (rows.is WARNING_IF) q)
    (λ n there. question_met bytes w v numbers.WARNING_IF alike warning_is n (inside_there bytes (rows.is WARNING_IF) q n within there).0 (inside_there bytes (rows.is WARNING_IF) q n within there).1)
    ∙ ap (λ (ns : List Node). filter v.met ns) (warnings_same q is)

-- ---- what denies a submission

abbrev chapter_denies : chapter.World → Node → Bool
chapter_denies w n = rows.is NO_SUBMIT_IF n && not (list_any (chapter_removed w) (rows.guards n)) && chapter.is_met w n

denies_alike : (a b c d e : Bool) → b ≡ d → (a ≡ true → c ≡ e) → (a && not b && c) ≡ (a && (not d && e))
denies_alike true b c d e same met = ap (λ (x : Bool). not x && c) same ∙ ap (λ (x : Bool). not d && x) (met refl)
denies_alike false b c d e same met = refl

outer_same : (bytes : List ℕ) (w : chapter.World) (v : World) → AreAlike bytes w v → (n : Node) → list_any (chapter_removed w) (rows.guards n) ≡ list_any (policy.is_removed v.removed) (guards n)
outer_same bytes w v alike n =
    same_any (chapter_removed w) (policy.is_removed v.removed) (rows.guards n) (λ g there. removed_same bytes w v alike g)
    ∙ ap (λ (gs : List Node). list_any (policy.is_removed v.removed) gs) (guards_same n)

denies_same : (bytes : List ℕ) (w : chapter.World) (v : World) → AreAlike bytes w v → (n : Node) → Contains (nodes_of bytes) n → chapter_denies w n ≡ (node.is_no_submit n && denies_submission v n)
denies_same bytes w v alike n within =
    denies_alike (rows.is NO_SUBMIT_IF n) (list_any (chapter_removed w) (rows.guards n)) (chapter.is_met w n) (list_any (policy.is_removed v.removed) (guards n)) (v.met n) (outer_same bytes w v alike n)
    (λ is. question_met bytes w v numbers.NO_SUBMIT_IF alike no_submit_is n within is)

abbrev tells_no_submit : Node → chapter.Denial
tells_no_submit n = telling questions.NoSubmitIf n.place (field_in WITH_ERROR "Error" n.op)

pub submission_same : (bytes : List ℕ) (w : chapter.World) (v : World) → AreAlike bytes w v → chapter.submission_denied_by w ≡ option_map denial_for (unsubmitted v)
submission_same bytes w v alike =
    ap (λ (ns : List Node). option_map tells_no_submit (find (chapter_denies w) ns)) alike.nodes
    ∙ ap (λ (found : Option Node). option_map tells_no_submit found) (same_find (chapter_denies w) (λ n. node.is_no_submit n && denies_submission v n) (nodes_of bytes) (denies_same bytes w v alike))
    ∙ ap (λ (found : Option Node). option_map tells_no_submit found) (find_kept node.is_no_submit (denies_submission v) (nodes_of bytes))
    ∙ told_of_found tells_no_submit (told NoSubmitIf) denial_for (denies_submission v) (filter node.is_no_submit (nodes_of bytes))
    (λ n there. ap (telling questions.NoSubmitIf n.place) (sym (no_submit_message n.op (passing node.is_no_submit (nodes_of bytes) n there).1)))
    ∙ ap (λ (ns : List Node). option_map denial_for (option_map (told NoSubmitIf) (find (denies_submission v) (filter node.is_no_submit ns)))) (sym alike.same_nodes)

-- ---- what is removed at opening

disable_is : is_guard numbers.DISABLE_IF ≡ true
disable_is = refl

pub removed_at_same : (bytes removed : List ℕ) (w : chapter.World) (stores : StoreMap) → AreAlike bytes w (world_over (nodes_of bytes) removed stores) → chapter.removed_at w.nodes w.stores ≡ removed_at (nodes_of bytes) stores
removed_at_same bytes removed w stores alike =
    ap (λ (ns : List Node). map (λ (n : Node). n.place) (filter (λ n. rows.is DISABLE_IF n && chapter.is_met w n) ns)) alike.nodes
    ∙ ap (λ (ns : List Node). map (λ (n : Node). n.place) ns)
    (same_kept (λ n. rows.is DISABLE_IF n && chapter.is_met w n) (is_disabling (nodes_of bytes) stores) (nodes_of bytes)
    (λ n there. where_true (rows.is DISABLE_IF n) (chapter.is_met w n) (is_met_over (nodes_of bytes) stores n)
    (λ is. alike.met n there (guard_wants (number n.op) (ap is_guard (eqb-true (number n.op) numbers.DISABLE_IF is) ∙ disable_is)))))
