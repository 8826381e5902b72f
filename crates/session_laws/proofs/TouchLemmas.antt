-- Which kept conditions a write touches is what the chapters say.
use Rattle.std.proofs.Common.{◌≡◌, ◌==◌, ℕ, zero, suc, ◌+◌, Bool, true, false, Option, Some, None, List, [], ◌∷◌, length, map, refl, sym, ap, ◌∙◌, inl, inr}
use Rattle.std.specs.Prelude.{◌||◌, if◌then◌else◌, nat_lt, nat_le, not, Contains, count_by, filter, option_and_then, option_map, slice_get}
use Rattle.std.specs.List.{flat_map, list_any}
use Rattle.std.proofs.Math.Bool.{and_assoc}
use Rattle.std.proofs.Math.Path.{fun_ext}
use Rattle.std.proofs.lemmas.Bool.{cases_Bool, eqb-true, false≢true}
use Rattle.std.proofs.lemmas.List.Folds.{list_any-append}
use Rattle.std.proofs.lemmas.List.Sums.{length-filter}
use Rattle.browser_rules.specs.Expressions as expressions
use Rattle.browser_rules.specs.Nodes as nodes
use Rattle.browser_rules.specs.Nodes.{expression_of}
use Rattle.browser_rules.specs.Opcodes as rows
use Rattle.browser_rules.specs.Opcodes.{field, is_the}
use Rattle.browser_rules.specs.Questions as questions
use Rattle.browser_rules.specs.Renewed as chapter
use Rattle.browser_rules.specs.Stores as held
use Rattle.browser_rules.specs.Words.{is_some_and}
use Rattle.hii_bytes.specs.Numbers.{AreBytes}
use Rattle.ifr_opcodes.specs.Fields.{eq_id_id_first, eq_id_id_second, question_ref_question, rule_ref_rule}
use Rattle.ifr_opcodes.specs.Forest.{Mark, Node}
use Rattle.ifr_opcodes.specs.Opcode.{number}
use Rattle.ifr_opcodes.specs.declared.codes.TheConstants.{EQ_ID_ID, EQ_ID_VAL, EQ_ID_VAL_LIST, GRAY_OUT_IF, NO_SUBMIT_IF, QUESTION_REF1, RULE_REF, SUPPRESS_IF, THIS}
use Rattle.ifr_expr.specs.Dependence.{ids_behind, own, rule_ids}
use Rattle.ifr_expr.specs.Meaning.{Rule, names}
use Rattle.ifr_expr.specs.Support.{ids_of}
use Rattle.ifr_expr.specs.Trees.{post}
use Rattle.ifr_nodes.specs.Checked.{IsChecked}
use Rattle.ifr_nodes.specs.NodeExpressions.{expression_tree}
use Rattle.ifr_opcodes.specs.Rows.{row_of, is_condition_number}
use Rattle.ifr_nodes.specs.Nodes.{nodes_of, this_of}
use Rattle.ifr_nodes.specs.Rules.{rules_among}
use Rattle.ifr_nodes.specs.Table.{wants_expression}
use Rattle.hii_varstore.specs.Stores.{StoreMap, byte_of}
use Rattle.hii_questions.specs.Fields.{Field, field_of, question_with}
use Rattle.hii_questions.proofs.FieldLemmas.{passing}
use Rattle.guard_policy.specs.Conditions.{condition_ids, is_kept}
use Rattle.kept_conditions.specs.Touching.{difference, field_with, has_byte, has_one, is_same, range_of_field, renewals, touches}
use Rattle.rules_laws.specs.laws.Opcodes.{mark_for, rule_for}
use Rattle.rules_laws.specs.laws.Questions.{field_for}
use Rattle.rules_laws.specs.laws.Stores.{stores_for}
use Rattle.rules_laws.proofs.NodeLemmas.{this_same}
use Rattle.rules_laws.proofs.PolicyConditionLemmas.{expression_same, rules_same}
use Rattle.rules_laws.proofs.PolicyLemmas.{same_kept}
use Rattle.rules_laws.proofs.QuestionLemmas.{by_id_same, field_same}
use Rattle.rules_laws.proofs.StoreLemmas.{bytes_same}

-- ---- the questions that opcodes name, of which 0 is none

-- A test finds one among both or among none.
abbrev AnyAlike : (ℕ → Bool) → List ℕ → List ℕ → Type 0
AnyAlike test told ids = list_any test told ≡ list_any test ids

own_alike : (test : ℕ → Bool) (this : ℕ) → test 0 ≡ false → AnyAlike test (this ∷ []) (own this)
own_alike test this none = elim (cases_Bool (this == 0)) [
  | inl here ↦ rw here (ap (λ (b : Bool). b || false) (ap test (eqb-true this 0 here) ∙ none))
  | inr other ↦ rw other refl
]

by_kinds : (value ids listed reference : Bool) (one two : List ℕ) → (value ≡ true → ids ≡ false)
    → (if ids then two else if value || listed || reference then one else [])
    ≡ (if value then one else if ids then two else if listed then one else if reference then one else [])
by_kinds true true listed reference one two apart = absurd (false≢true (sym (apart refl)))
by_kinds true false listed reference one two apart = refl
by_kinds false true listed reference one two apart = refl
by_kinds false false true reference one two apart = refl
by_kinds false false false true one two apart = refl
by_kinds false false false false one two apart = refl

abbrev chapter_ids : List ℕ → List ℕ
chapter_ids op =
    if is_the rows.EQ_ID_ID op then field rows.EQ_ID_ID "QuestionId1" op ∷ field rows.EQ_ID_ID "QuestionId2" op ∷ []
    else if is_the rows.EQ_ID_VAL op || is_the rows.EQ_ID_VAL_LIST op || is_the rows.QUESTION_REF1 op
    then field rows.QUESTION_REF1 "QuestionId" op ∷ []
    else []

ids_same : (op : List ℕ) → chapter_ids op ≡ ids_of op
unfolding ids_of
ids_same op =
    by_kinds (number op == EQ_ID_VAL) (number op == EQ_ID_ID) (number op == EQ_ID_VAL_LIST) (number op == QUESTION_REF1) (question_ref_question op ∷ []) (eq_id_id_first op ∷ eq_id_id_second op ∷ [])
    (λ is. ap (λ (code : ℕ). code == EQ_ID_ID) (eqb-true (number op) EQ_ID_VAL is))

-- the questions of the rules of an id for a place
abbrev RuleIds : Type 0
RuleIds = ℕ → ℕ → List ℕ

mark_alike : (test : ℕ → Bool) (told ids : RuleIds) (this : ℕ) (m : Mark) → test 0 ≡ false → ((id place : ℕ) → AnyAlike test (told id place) (ids id place))
    → AnyAlike test (chapter.ids_of told this (mark_for m)) (ids_behind ids this m)
mark_alike test told ids this m none rules = by_tests (number m.op == RULE_REF) (number m.op == THIS)
  where
    by_tests : (rule is : Bool)
        → AnyAlike test (if rule then told (rule_ref_rule m.op) m.place else if is then this ∷ [] else chapter_ids m.op)
        (if rule then ids (rule_ref_rule m.op) m.place else if is then own this else ids_of m.op)
    by_tests true is = rules (rule_ref_rule m.op) m.place
    by_tests false true = own_alike test this none
    by_tests false false = ap (λ (named : List ℕ). list_any test named) (ids_same m.op)

marks_alike : (test : ℕ → Bool) (told ids : RuleIds) (this : ℕ) (marks : List Mark) → test 0 ≡ false → ((id place : ℕ) → AnyAlike test (told id place) (ids id place))
    → AnyAlike test (flat_map (chapter.ids_of told this) (map mark_for marks)) (flat_map (ids_behind ids this) marks)
marks_alike test told ids this [] none rules = refl
marks_alike test told ids this (m ∷ marks) none rules =
    list_any-append test (chapter.ids_of told this (mark_for m)) (flat_map (chapter.ids_of told this) (map mark_for marks))
    ∙ ap (λ (b : Bool). b || list_any test (flat_map (chapter.ids_of told this) (map mark_for marks))) (mark_alike test told ids this m none rules)
    ∙ ap (λ (b : Bool). list_any test (ids_behind ids this m) || b) (marks_alike test told ids this marks none rules)
    ∙ sym (list_any-append test (ids_behind ids this m) (flat_map (ids_behind ids this) marks))

rules_alike : (test : ℕ → Bool) (rs : List Rule) → test 0 ≡ false → (id place : ℕ) → AnyAlike test (chapter.rule_ids (map rule_for rs) id place) (rule_ids rs id place)
unfolding chapter.rule_ids rule_ids
rules_alike test [] none id place = refl
rules_alike test (r ∷ earlier) none id place = elim (cases_Bool (names id place r)) [
  | inl here ↦
      let named : expressions.is_named id place (rule_for r) ≡ true = and_assoc (r.id == id) (nat_le r.ends place) (nat_lt place r.form_ends) ∙ here in
      rw (named, here) (marks_alike test (chapter.rule_ids (map rule_for earlier)) (rule_ids earlier) 0 (post r.tree) none (rules_alike test earlier none))
  | inr other ↦
      let named : expressions.is_named id place (rule_for r) ≡ false = and_assoc (r.id == id) (nat_le r.ends place) (nat_lt place r.form_ends) ∙ other in
      rw (named, other) (rules_alike test earlier none id place)
]

-- ---- the support of a condition

support_alike : (bytes : List ℕ) (test : ℕ → Bool) (n : Node) → test 0 ≡ false → IsChecked bytes → AreBytes bytes → Contains (nodes_of bytes) n → wants_expression (number n.op) ≡ true
    → AnyAlike test (chapter.support (nodes_of bytes) n) (condition_ids (nodes_of bytes) n)
support_alike bytes test n none checked are within wants =
    ap (λ (rs : List expressions.Rule). finds rs (nodes.this_of n) (expression_of n)) (rules_same bytes checked are)
    ∙ ap (λ (this : ℕ). finds (map rule_for rs) this (expression_of n)) (this_same n)
    ∙ ap (λ (marks : List expressions.Mark). finds (map rule_for rs) (this_of n) marks) (expression_same bytes n checked are within wants)
    ∙ marks_alike test (chapter.rule_ids (map rule_for rs)) (rule_ids rs) (this_of n) (post (expression_tree n)) none (rules_alike test rs none)
  where
    rs : List Rule
    rs = rules_among (nodes_of bytes)

    finds : List expressions.Rule → ℕ → List expressions.Mark → Bool
    finds rs this marks = list_any test (flat_map (chapter.ids_of (chapter.rule_ids rs) this) marks)

-- ---- the conditions that a write touches

byte_same : (write : chapter.Write) (store at width : ℕ) → chapter.has_byte write store at width ≡ has_one write store at width
byte_same write store at zero = refl
byte_same write store at (suc width) = ap (λ (b : Bool). write store at || b) (byte_same write store (at + 1) width)

abbrev chapter_has : chapter.Write → questions.Field → Bool
chapter_has write f = chapter.has_byte write f.store f.offset f.width

has_same : (write : chapter.Write) (o : Option Field) → is_some_and (chapter_has write) (option_map field_for o) ≡ has_byte write o
has_same write None = refl
has_same write (Some f) = byte_same write f.store f.offset f.width

id_same : (ns : List Node) (write : chapter.Write) (id : ℕ)
    → is_some_and (chapter_has write) (option_and_then (questions.field_of ns) (questions.question_with ns id)) ≡ has_byte write (field_with ns id)
id_same ns write id =
    ap (λ (o : Option Node). is_some_and (chapter_has write) (option_and_then (questions.field_of ns) o)) (by_id_same ns id) ∙ of_question (question_with ns id)
  where
    of_question : (o : Option Node) → is_some_and (chapter_has write) (option_and_then (questions.field_of ns) o) ≡ has_byte write (option_and_then (field_of ns) o)
    of_question None = refl
    of_question (Some q) = ap (λ (o : Option questions.Field). is_some_and (chapter_has write) o) (field_same ns q) ∙ has_same write (field_of ns q)

touches_same : (bytes : List ℕ) (write : chapter.Write) (n : Node) → IsChecked bytes → AreBytes bytes → Contains (nodes_of bytes) n → wants_expression (number n.op) ≡ true
    → chapter.touches (nodes_of bytes) write n ≡ touches (nodes_of bytes) write n
touches_same bytes write n checked are within wants =
    ap (λ (test : ℕ → Bool). list_any test (chapter.support (nodes_of bytes) n)) (fun_ext (id_same (nodes_of bytes) write))
    ∙ support_alike bytes (λ id. has_byte write (field_with (nodes_of bytes) id)) n refl checked are within wants

-- ---- how many of those that are kept

kept_wants : (code : ℕ) → (code == SUPPRESS_IF || code == GRAY_OUT_IF || code == NO_SUBMIT_IF) ≡ true → wants_expression code ≡ true
unfolding is_condition_number row_of
kept_wants code is = by_tests (code == SUPPRESS_IF) (code == GRAY_OUT_IF) (code == NO_SUBMIT_IF) refl refl refl is
  where
    by_tests : (a b c : Bool) → (code == SUPPRESS_IF) ≡ a → (code == GRAY_OUT_IF) ≡ b → (code == NO_SUBMIT_IF) ≡ c → (a || b || c) ≡ true → wants_expression code ≡ true
    by_tests true b c e f g told = ap wants_expression (eqb-true code SUPPRESS_IF e)
    by_tests false true c e f g told = ap wants_expression (eqb-true code GRAY_OUT_IF f)
    by_tests false false true e f g told = ap wants_expression (eqb-true code NO_SUBMIT_IF g)
    by_tests false false false e f g told = absurd (false≢true told)

pub renewals_same : (bytes : List ℕ) (write : chapter.Write) → IsChecked bytes → AreBytes bytes
    → count_by (chapter.touches (nodes_of bytes) write) (filter is_kept (nodes_of bytes)) ≡ renewals (nodes_of bytes) write
renewals_same bytes write checked are =
    sym (length-filter (chapter.touches ns write) kept)
    ∙ ap (λ (touched : List Node). length touched)
    (same_kept (chapter.touches ns write) (touches ns write) kept (λ n there. let is = passing is_kept ns n there in touches_same bytes write n checked are is.0 (kept_wants (number n.op) is.1)))
    ∙ length-filter (touches ns write) kept
  where
    ns : List Node
    ns = nodes_of bytes

    kept : List Node
    kept = filter is_kept (nodes_of bytes)

-- ---- the bytes of a field, and those in which stores differ

pub range_same : (f : Field) → chapter.of_field (field_for f) ≡ range_of_field f
range_same f = fun_ext (λ store. fun_ext (λ at. and_assoc (store == f.store) (nat_le f.offset at) (nat_lt at (f.offset + f.width))))

abbrev chapter_byte : held.Stores → ℕ → ℕ → Option ℕ
chapter_byte stores store at = option_and_then (λ bytes. slice_get bytes at) (held.bytes_of stores store)

bytes_alike : (old new : held.Stores) (store at : ℕ) (x y : Option ℕ) → chapter_byte old store at ≡ x → chapter_byte new store at ≡ y → chapter.difference old new store at ≡ not (is_same x y)
bytes_alike old new store at (Some b) (Some c) e f = rw (e, f) refl
bytes_alike old new store at (Some b) None e f = rw (e, f) refl
bytes_alike old new store at None (Some c) e f = rw (e, f) refl
bytes_alike old new store at None None e f = rw (e, f) refl

byte_there : (m : StoreMap) (store at : ℕ) → chapter_byte (stores_for m) store at ≡ byte_of m store at
byte_there m store at = ap (λ (o : Option (List ℕ)). option_and_then (λ bytes. slice_get bytes at) o) (bytes_same m store)

pub difference_same : (old new : StoreMap) → chapter.difference (stores_for old) (stores_for new) ≡ difference old new
difference_same old new =
    fun_ext (λ store. fun_ext (λ at. bytes_alike (stores_for old) (stores_for new) store at (byte_of old store at) (byte_of new store at) (byte_there old store at) (byte_there new store at)))
