-- A rule that is met: the form in which it stands, and its fault.
use Rattle.std.proofs.Common.{◌≡◌, ℕ, Bool, true, false, cond, eqb, Option, Some, None, List, [], ◌∷◌, ◌++◌, refl, sym, ap, ◌∙◌, subst, inl, inr}
use Rattle.std.specs.Prelude.{Contains, option_map, is_some, IsSome, ◌||◌}
use Rattle.std.specs.List.{AllByRecursion, last_or, list_any}
use Rattle.std.proofs.lemmas.Bool.{cases_Bool, eqb-true}
use Rattle.hii_bytes.specs.code.FirstFaults.{first_cause}
use Rattle.hii_bytes.specs.declared.cause.Cause.TheVariants.{RuleTooLarge}
use Rattle.ifr_opcodes.specs.declared.codes.TheConstants.{FORM, REF, RULE}
use Rattle.ifr_opcodes.specs.Opcode.{number}
use Rattle.ifr_opcodes.specs.Forest.{Ancestor, Node}
use Rattle.ifr_opcodes.specs.Reading.{tree_of}
use Rattle.ifr_nodes.specs.Checked.{IsChecked}
use Rattle.ifr_nodes.specs.code.Checked.{node_in, has_node}
use Rattle.ifr_nodes.specs.Nodes.{nodes_of, is_form, is_question, is_reference, end_of}
use Rattle.ifr_opcodes.specs.Rows.{row_of, is_question_number}
use Rattle.ifr_nodes.specs.ReferenceFaults.{has_reference_fault, has_form_id, has_question_id}
use Rattle.ifr_nodes.specs.code.Causes.{reference_causes}
use Rattle.ifr_nodes.specs.Rules.{is_rule, as_rule, forms_among, form_end, end_or_0, rules_among, size, is_rule_too_large, scope_end}
use Rattle.ifr_nodes.specs.code.Rules.{fitting_size}
use Rattle.ifr_nodes.specs.declared.rules.RuleSize.{RuleSize}
use Rattle.ifr_nodes.proofs.ScopeLemmas.{IsOf, path_is_of}
use Rattle.ifr_nodes.proofs.RuleFacts.{rule_fact}
use Rattle.ifr_nodes.proofs.PlaceLemmas.{is_found}
use Rattle.ifr_nodes.proofs.ViewLemmas.{node_in_place}

-- ---- the innermost form

abbrev OnSome : (Ancestor → Type 0) → Option Ancestor → Type 0
OnSome P o = (a : Ancestor) → o ≡ Some a → P a

some_on : (P : Ancestor → Type 0) (a : Ancestor) → P a → OnSome P (Some a)
some_on P a h = λ b e. let same : a ≡ b = cc in subst P same h

last_there : (P : Ancestor → Type 0) (path : List Ancestor) (found : Option Ancestor) → AllByRecursion P path → OnSome P found → OnSome P (last_or found (forms_among path))
last_there P [] found all h = h
last_there P (a ∷ path) found all h = elim (cases_Bool (eqb (number a.op) FORM)) [
  | inl form ↦ rw form (last_there P path (Some a) all.1 (some_on P a all.0))
  | inr other ↦ rw other (last_there P path found all.1 h)
]

none_on : (P : Ancestor → Type 0) → OnSome P None
none_on P = λ a e. absurd cc

its_form : (place : ℕ) (o : Option Ancestor) → Some place ≡ option_map (λ (a : Ancestor). a.place) o → (a : Ancestor) × (o ≡ Some a) × (place ≡ a.place)
its_form place None e = absurd cc
its_form place (Some a) e = (a, refl, cc)

-- The form around a node is a node.
pub record IsFormAround (bytes : List ℕ) (n : Node) (place : ℕ) : Type 0 where
  pub there : has_node bytes place ≡ true
  pub ends : end_of (node_in bytes place) ≡ form_end n.path

pub form_around : (bytes : List ℕ) (n : Node) (place : ℕ) → IsChecked bytes → Contains (nodes_of bytes) n → Some place ≡ option_map (λ (a : Ancestor). a.place) (last_or None (forms_among n.path)) → IsFormAround bytes n place
form_around bytes n place checked within e =
    let form = its_form place (last_or None (forms_among n.path)) e in
    let a = form.0 in
    let of_package : IsOf (nodes_of bytes) a = last_there (IsOf (nodes_of bytes)) n.path None (path_is_of bytes n within) (none_on (IsOf (nodes_of bytes))) a form.1 in
    let m = of_package.0 in
    let here : place ≡ m.place = form.2 ∙ ap (λ (b : Ancestor). b.place) (sym of_package.2) in
    let found = is_found bytes (tree_of bytes) m checked.spelled of_package.1 in
    record {
      there = ap (has_node bytes) here ∙ ap is_some found;
      ends = ap (λ (k : ℕ). end_of (node_in bytes k)) here ∙ ap end_of (node_in_place bytes m checked.spelled of_package.1) ∙ ap scope_end of_package.2 ∙ ap end_or_0 (sym form.1);
    }

-- ---- the fault of a rule

no_form : (n : Node) → is_rule n ≡ true → is_form n ≡ false
no_form n is = ap (λ (k : ℕ). eqb k FORM) (eqb-true (number n.op) RULE is)

no_question_rule : is_question_number RULE ≡ false
unfolding is_question_number row_of
no_question_rule = refl

no_question : (n : Node) → is_rule n ≡ true → is_question n ≡ false
no_question n is = ap is_question_number (eqb-true (number n.op) RULE is) ∙ no_question_rule

no_reference : (n : Node) → is_rule n ≡ true → is_reference n ≡ false
no_reference n is = ap (λ (k : ℕ). eqb k REF) (eqb-true (number n.op) RULE is)

large : (s : RuleSize) → None ≡ fitting_size s → is_rule_too_large s ≡ true
large s e = go (is_rule_too_large s) e
  where
    go : (b : Bool) → None ≡ cond b None (Some s) → b ≡ true
    go true e = refl
    go false e = absurd cc

fitting : (s t : RuleSize) → Some t ≡ fitting_size s → (is_rule_too_large s ≡ false) × (t ≡ s)
fitting s t e = go (is_rule_too_large s) e
  where
    go : (b : Bool) → Some t ≡ cond b None (Some s) → (b ≡ false) × (t ≡ s)
    go true e = absurd cc
    go false e = (refl, cc)

pub told_large : (ns before : List Node) (n : Node) → is_rule n ≡ true → None ≡ fitting_size (size (rules_among before) (as_rule n)) → Some RuleTooLarge ≡ first_cause (has_reference_fault ns) (record { before = before; node = n }) reference_causes
told_large ns before n is e = rw (no_form n is, no_question n is, no_reference n is, is, large (size (rules_among before) (as_rule n)) e) refl

pub told_none : (ns before : List Node) (n : Node) (s : RuleSize) → is_rule n ≡ true → Some s ≡ fitting_size (size (rules_among before) (as_rule n)) → None ≡ first_cause (has_reference_fault ns) (record { before = before; node = n }) reference_causes
told_none ns before n s is e = rw (no_form n is, no_question n is, no_reference n is, is, (fitting (size (rules_among before) (as_rule n)) s e).0) refl

pub its_size : (before : List Node) (n : Node) (s : RuleSize) → Some s ≡ fitting_size (size (rules_among before) (as_rule n)) → s ≡ size (rules_among before) (as_rule n)
its_size before n s e = (fitting (size (rules_among before) (as_rule n)) s e).1

-- ---- the ids stay

pub no_form_more : (before : List Node) (n : Node) (id : ℕ) → is_rule n ≡ true → list_any (has_form_id id) (before ++ n ∷ []) ≡ list_any (has_form_id id) before
no_form_more [] n id is = rw (no_form n is) refl
no_form_more (m ∷ before) n id is = ap (λ (b : Bool). has_form_id id m || b) (no_form_more before n id is)

pub no_question_more : (before : List Node) (n : Node) (id : ℕ) → is_rule n ≡ true → list_any (has_question_id id) (before ++ n ∷ []) ≡ list_any (has_question_id id) before
no_question_more [] n id is = rw (no_question n is) refl
no_question_more (m ∷ before) n id is = ap (λ (b : Bool). has_question_id id m || b) (no_question_more before n id is)

-- each rule stands in a form
pub some_form : (bytes : List ℕ) (n : Node) (form : Option ℕ) → IsChecked bytes → Contains (nodes_of bytes) n → is_rule n ≡ true → form ≡ option_map (λ (a : Ancestor). a.place) (last_or None (forms_among n.path)) → IsSome form
some_form bytes n form checked within is e =
    let fact = rule_fact bytes n checked within is in
    let last : last_or None (forms_among n.path) ≡ Some fact.form = ap (λ (l : List Ancestor). last_or None l) fact.forms in
    ap is_some (e ∙ ap (option_map (λ (a : Ancestor). a.place)) last)
