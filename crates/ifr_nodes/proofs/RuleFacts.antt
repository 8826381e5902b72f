-- What the structure of a checked package says of its rules: each begins with an expression and has nothing beside it, and
-- stands in one form and in no rule.
use Rattle.std.proofs.Common.{◌≡◌, ◌⊎◌, ℕ, zero, suc, ◌+◌, ◌≤◌, Bool, true, false, eqb, Some, List, [], ◌∷◌, ◌++◌, length, refl, sym, ap, ◌∙◌, subst, arith, inl, inr}
use Rattle.std.specs.Prelude.{Contains, ◌&&◌, ◌==◌, not, filter}
use Rattle.std.proofs.lemmas.Bool.{cases_Bool, eqb-true, eq-eqb, ne_eqb, false≢true, true≢false, and_right, or_from}
use Rattle.std.proofs.lemmas.List.{append-nil, length-append}
use Rattle.std.proofs.lemmas.List.Elements.{filter-append, Contains-append_right}
use Rattle.hii_bytes.specs.declared.cause.Cause.TheVariants.{NotFormSet, AfterFormSet, Misplaced}
use Rattle.ifr_opcodes.specs.declared.codes.TheConstants.{FORM_SET, FORM, SUBTITLE, VALUE, RULE}
use Rattle.ifr_opcodes.specs.Opcode.{number}
use Rattle.ifr_opcodes.specs.Rows.{row_of, is_operator, operands}
use Rattle.ifr_opcodes.specs.Forest.{Forest, none, node, flat, Ancestor, Node, as_ancestor, nodes_at, node_at, AreNodes}
use Rattle.ifr_opcodes.specs.Reading.{tree_of}
use Rattle.ifr_opcodes.proofs.ForestLemmas.{takes}
use Rattle.ifr_opcodes.proofs.TableLemmas.{and_first, and_second}
use Rattle.ifr_nodes.specs.Checked.{IsChecked}
use Rattle.ifr_nodes.specs.Guards.{is_guard}
use Rattle.ifr_nodes.specs.Nodes.{nodes_of}
use Rattle.ifr_nodes.specs.Rules.{is_rule, forms_among}
use Rattle.ifr_nodes.specs.code.RuleNodes.{IsRuleNode}
use Rattle.ifr_nodes.specs.Structure.{innermost, parent, begins_scope, begins_with_value, is_condition, is_wanted, is_root}
use Rattle.ifr_nodes.specs.Table.{row, class_of, class_around, admits, wants_expression, wants_value}
use Rattle.ifr_nodes.specs.declared.table.Class.{Class}
use Rattle.ifr_nodes.specs.declared.table.Class.TheVariants.{OfFormSet, OfForm, OfNothing}
use Rattle.ifr_nodes.proofs.ClassLemmas.{class-guard, class-other}
use Rattle.ifr_nodes.proofs.ExpressionLemmas.{innermost-push}
use Rattle.ifr_nodes.proofs.NodeFactLemmas.{no_fault, has_condition, has_value}
use Rattle.ifr_nodes.proofs.TableLemmas.{of_form_set, of_form, holds_form_set, holds_form, holds_rule, holds_subtitle, guarded_form_set, guarded_form, no_operators}
use Rattle.ifr_nodes.proofs.PlaceLemmas.{is_found, node_stands}
use Rattle.ifr_nodes.proofs.ScopeLemmas.{ancestor_node}
use Rattle.ifr_nodes.proofs.ViewLemmas.{contains_found, further, below_within}

-- ---- the node around a node

pub split_last : (path : List Ancestor) → (path ≡ []) ⊎ ((before : List Ancestor) × (a : Ancestor) × (path ≡ before ++ a ∷ []))
split_last [] = inl refl
split_last (b ∷ path) = elim (split_last path) [
  | inl bare ↦ inr ([], b, ap (λ (l : List Ancestor). b ∷ l) bare)
  | inr (before, a, e) ↦ inr (b ∷ before, a, ap (λ (l : List Ancestor). b ∷ l) e)
]

-- Around a node stands another.
pub record IsAround (bytes : List ℕ) (n : Node) : Type 0 where
  pub outer : Node
  pub within : Contains (nodes_of bytes) outer
  pub path : n.path ≡ outer.path ++ as_ancestor outer ∷ []

pub around_it : (bytes : List ℕ) (n : Node) → IsChecked bytes → Contains (nodes_of bytes) n → (n.path ≡ []) ⊎ IsAround bytes n
around_it bytes n checked within = elim (split_last n.path) [
  | inl bare ↦ inl bare
  | inr (before, a, e) ↦
      let m = ancestor_node bytes n before [] a checked.spelled (is_found bytes (tree_of bytes) n checked.spelled within) e in
      inr (record {
        outer = m.0;
        within = contains_found (nodes_of bytes) m.0.place m.0 m.1;
        path = e ∙ ap (λ (l : List Ancestor). l ++ a ∷ []) (sym m.3) ∙ ap (λ (b : Ancestor). m.0.path ++ b ∷ []) (sym m.2);
      })
]

-- ---- where a node may stand

pub one_place : (bytes : List ℕ) (n m : Node) → IsChecked bytes → Contains (nodes_of bytes) n → Contains (nodes_of bytes) m → n.place ≡ m.place → n ≡ m
one_place bytes n m checked v w e =
    let found : Some n ≡ Some m = sym (is_found bytes (tree_of bytes) n checked.spelled v) ∙ ap (node_at (nodes_of bytes)) e ∙ is_found bytes (tree_of bytes) m checked.spelled w in
    cc

-- what begins the scope of a node that wants an expression is an operator
pub is_operator_there : (bytes : List ℕ) (n : Node) → IsChecked bytes → Contains (nodes_of bytes) n → is_condition n ≡ true → is_operator (number n.op) ≡ true
is_operator_there bytes n checked within is = elim (around_it bytes n checked within) [
  | inl bare ↦ absurd (false≢true (ap (λ (l : List Ancestor). begins_scope n.place (innermost l)) (sym bare) ∙ is))
  | inr r ↦
      let m = r.outer in
      let begins : wants_expression (number m.op) && (n.place == m.place + length m.op) ≡ true = ap (begins_scope n.place) (sym (ap innermost r.path ∙ innermost-push m.path (as_ancestor m))) ∙ is in
      let h = has_condition bytes m checked r.within (and_first _ _ begins) in
      let child : Node = record { place = m.place + length m.op; op = h.op; path = m.path ++ as_ancestor m ∷ []; children = h.children } in
      let same : n ≡ child = one_place bytes n child checked within h.within (eqb-true n.place (m.place + length m.op) (and_second _ _ begins)) in
      ap (λ (p : Node). is_operator (number p.op)) same ∙ h.operator
]

-- and of one that wants a VALUE, a VALUE
pub is_value_there : (bytes : List ℕ) (n : Node) → IsChecked bytes → Contains (nodes_of bytes) n → begins_with_value n.place (parent n) ≡ true → number n.op ≡ VALUE
is_value_there bytes n checked within is = elim (around_it bytes n checked within) [
  | inl bare ↦ absurd (false≢true (ap (λ (l : List Ancestor). begins_with_value n.place (innermost l)) (sym bare) ∙ is))
  | inr r ↦
      let m = r.outer in
      let begins : wants_value m.op && (n.place == m.place + length m.op) ≡ true = ap (begins_with_value n.place) (sym (ap innermost r.path ∙ innermost-push m.path (as_ancestor m))) ∙ is in
      let h = has_value bytes m checked r.within (and_first _ _ begins) in
      let child : Node = record { place = m.place + length m.op; op = h.op; path = m.path ++ as_ancestor m ∷ []; children = h.children } in
      let same : n ≡ child = one_place bytes n child checked within h.within (eqb-true n.place (m.place + length m.op) (and_second _ _ begins)) in
      ap (λ (p : Node). number p.op) same ∙ h.is_value
]

-- what is neither is not wanted
pub not_wanted : (bytes : List ℕ) (n : Node) → IsChecked bytes → Contains (nodes_of bytes) n → is_operator (number n.op) ≡ false → eqb (number n.op) VALUE ≡ false → is_wanted n ≡ false
not_wanted bytes n checked within other plain = elim (cases_Bool (is_condition n)) [
  | inl is ↦ absurd (false≢true (sym other ∙ is_operator_there bytes n checked within is))
  | inr no_condition ↦ elim (cases_Bool (begins_with_value n.place (parent n))) [
    | inl is ↦ absurd (false≢true (sym plain ∙ eq-eqb (number n.op) VALUE (is_value_there bytes n checked within is)))
    | inr no_value ↦ or_from _ _ no_condition no_value
  ]
]

placed : (root wanted held : Bool) → root ≡ false → wanted ≡ false → not root && (not wanted && not held) ≡ false → held ≡ true
placed root wanted true r c e = refl
placed root wanted false r c e = let bad : true ≡ false = rw (r, c) at e in absurd (true≢false bad)

-- the form set alone is in no scope
pub no_root : (bytes : List ℕ) (n : Node) → IsChecked bytes → Contains (nodes_of bytes) n → eqb (number n.op) FORM_SET ≡ false → is_root n ≡ false
no_root bytes n checked within other = elim (cases_Bool (is_root n)) [
  | inr e ↦ e
  | inl root ↦ elim (cases_Bool (n.place == 4)) [
    | inl here ↦ let bad : true ≡ false = rw (here, other) at (no_fault bytes n NotFormSet checked within) in absurd (true≢false bad)
    | inr past ↦ let bad : true ≡ false = rw (root, past) at (no_fault bytes n AfterFormSet checked within) in absurd (true≢false bad)
  ]
]

pub held : (bytes : List ℕ) (n : Node) → IsChecked bytes → Contains (nodes_of bytes) n → is_wanted n ≡ false → is_root n ≡ false → admits (class_around n.path) (number n.op) ≡ true
held bytes n checked within other root = placed (is_root n) (is_wanted n) _ root other (no_fault bytes n Misplaced checked within)

-- a node of this number is held where it stands
held_as : (bytes : List ℕ) (n : Node) (code : ℕ) → IsChecked bytes → Contains (nodes_of bytes) n → number n.op ≡ code → is_operator code ≡ false → eqb code VALUE ≡ false → is_root n ≡ false → admits (class_around n.path) code ≡ true
held_as bytes n code checked within is other plain root =
    ap (admits (class_around n.path)) (sym is) ∙ held bytes n checked within (not_wanted bytes n checked within (ap is_operator is ∙ other) (ap (λ (k : ℕ). eqb k VALUE) is ∙ plain)) root

-- ---- the forms and rules on a path

-- the rules among ancestors
abbrev pub rules_on : List Ancestor → List Ancestor
rules_on path = filter (λ a. number a.op == RULE) path

-- one more of another number is no form and no rule
form_stays : (path : List Ancestor) (a : Ancestor) → eqb (number a.op) FORM ≡ false → forms_among (path ++ a ∷ []) ≡ forms_among path
form_stays path a other = filter-append (λ (b : Ancestor). number b.op == FORM) path (a ∷ []) ∙ rw other (append-nil (forms_among path))

rule_stays : (path : List Ancestor) (a : Ancestor) → eqb (number a.op) RULE ≡ false → rules_on (path ++ a ∷ []) ≡ rules_on path
rule_stays path a other = filter-append (λ (b : Ancestor). number b.op == RULE) path (a ∷ []) ∙ rw other (append-nil (rules_on path))

form_comes : (path : List Ancestor) (a : Ancestor) → eqb (number a.op) FORM ≡ true → forms_among path ≡ [] → forms_among (path ++ a ∷ []) ≡ a ∷ []
form_comes path a form bare = filter-append (λ (b : Ancestor). number b.op == FORM) path (a ∷ []) ∙ ap (λ (l : List Ancestor). l ++ forms_among (a ∷ [])) bare ∙ rw form refl

guard_other : (code other : ℕ) → is_guard code ≡ true → is_guard other ≡ false → eqb code other ≡ false
guard_other code other is plain = ne_eqb code other (λ e. false≢true (sym plain ∙ ap is_guard (sym e) ∙ is))

number_other : (code is other : ℕ) → code ≡ is → eqb is other ≡ false → eqb code other ≡ false
number_other code is other e h = ap (λ (k : ℕ). eqb k other) e ∙ h

shorter : (k : ℕ) (path before : List Ancestor) (a : Ancestor) → length path ≤ suc k → path ≡ before ++ a ∷ [] → length before ≤ k
shorter k path before a le e = omega (arith, le, ap (λ (l : List Ancestor). length l) e, length-append before (a ∷ []))

nothing_around : (path before : List Ancestor) (a : Ancestor) → length path ≤ 0 → path ≡ before ++ a ∷ [] → ⊥
nothing_around path before a le e = omega (arith, le, ap (λ (l : List Ancestor). length l) e, length-append before (a ∷ []))

-- What is on a path: these forms, and no rule.
record HasForms (path forms : List Ancestor) : Type 0 where
  forms_are : forms_among path ≡ forms
  no_rules : rules_on path ≡ []

has_none : HasForms [] []
has_none = record { forms_are = refl; no_rules = refl }

-- past a node that is neither
past : (path before : List Ancestor) (a : Ancestor) (forms : List Ancestor) → path ≡ before ++ a ∷ [] → eqb (number a.op) FORM ≡ false → eqb (number a.op) RULE ≡ false → HasForms before forms → HasForms path forms
past path before a forms e form rule h = record {
  forms_are = ap forms_among e ∙ form_stays before a form ∙ h.forms_are;
  no_rules = ap rules_on e ∙ rule_stays before a rule ∙ h.no_rules;
}

-- in a form set and its guards there is no form
in_form_set : (bytes : List ℕ) (k : ℕ) (n : Node) → IsChecked bytes → Contains (nodes_of bytes) n → length n.path ≤ k → class_around n.path ≡ OfFormSet → HasForms n.path []
in_form_set bytes zero n checked within le e = elim (around_it bytes n checked within) [
  | inl bare ↦ subst (λ (l : List Ancestor). HasForms l []) (sym bare) has_none
  | inr r ↦ absurd (nothing_around n.path r.outer.path (as_ancestor r.outer) le r.path)
]
in_form_set bytes (suc k) n checked within le e = elim (around_it bytes n checked within) [
  | inl bare ↦ subst (λ (l : List Ancestor). HasForms l []) (sym bare) has_none
  | inr r ↦
      let m = r.outer in
      let a = as_ancestor m in
      elim (cases_Bool (is_guard (number m.op))) [
        | inl guards ↦
            let inner = in_form_set bytes k m checked r.within (shorter k n.path m.path a le r.path) (guarded_form_set _ (sym (ap class_around r.path ∙ class-guard m.path a guards) ∙ e)) in
            past n.path m.path a [] r.path (guard_other (number m.op) FORM guards refl) (guard_other (number m.op) RULE guards refl) inner
        | inr other ↦
            let set : number m.op ≡ FORM_SET = of_form_set (number m.op) (sym (ap class_around r.path ∙ class-other m.path a other) ∙ e) in
            let bare : m.path ≡ [] = elim (around_it bytes m checked r.within) [
              | inl alone ↦ alone
              | inr s ↦
                  let root : is_root m ≡ false = ne_eqb (length m.path) 0 (λ z. omega (arith, z, ap (λ (l : List Ancestor). length l) s.path, length-append s.outer.path (as_ancestor s.outer ∷ []))) in
                  absurd (holds_form_set (class_around m.path) (held_as bytes m FORM_SET checked r.within set no_operators.0 refl root))
            ] in
            past n.path m.path a [] r.path (number_other (number m.op) FORM_SET FORM set refl) (number_other (number m.op) FORM_SET RULE set refl) (subst (λ (l : List Ancestor). HasForms l []) (sym bare) has_none)
      ]
]

-- around a form there is none
around_form : (bytes : List ℕ) (n : Node) → IsChecked bytes → Contains (nodes_of bytes) n → number n.op ≡ FORM → HasForms n.path []
around_form bytes n checked within form =
    let root = no_root bytes n checked within (number_other (number n.op) FORM FORM_SET form refl) in
    in_form_set bytes (length n.path) n checked within (omega arith) (holds_form (class_around n.path) (held_as bytes n FORM checked within form no_operators.1 refl root))

pub no_form_around : (bytes : List ℕ) (n : Node) → IsChecked bytes → Contains (nodes_of bytes) n → number n.op ≡ FORM → forms_among n.path ≡ []
no_form_around bytes n checked within form = (around_form bytes n checked within form).forms_are

-- a subtitle stands where statements do
pub around_subtitle : (bytes : List ℕ) (n : Node) → IsChecked bytes → Contains (nodes_of bytes) n → number n.op ≡ SUBTITLE → class_around n.path ≡ OfForm
around_subtitle bytes n checked within subtitle =
    let root = no_root bytes n checked within (number_other (number n.op) SUBTITLE FORM_SET subtitle refl) in
    holds_subtitle (class_around n.path) (held_as bytes n SUBTITLE checked within subtitle no_operators.3 refl root)

-- in a form, and in the subtitles and guards in it, there is this form
in_form : (bytes : List ℕ) (k : ℕ) (n : Node) → IsChecked bytes → Contains (nodes_of bytes) n → length n.path ≤ k → class_around n.path ≡ OfForm → (form : Ancestor) × HasForms n.path (form ∷ [])
in_form bytes zero n checked within le e = elim (around_it bytes n checked within) [
  | inl bare ↦ let bad : OfNothing ≡ OfForm = ap class_around (sym bare) ∙ e in absurd cc
  | inr r ↦ absurd (nothing_around n.path r.outer.path (as_ancestor r.outer) le r.path)
]
in_form bytes (suc k) n checked within le e = elim (around_it bytes n checked within) [
  | inl bare ↦ let bad : OfNothing ≡ OfForm = ap class_around (sym bare) ∙ e in absurd cc
  | inr r ↦
      let m = r.outer in
      let a = as_ancestor m in
      elim (cases_Bool (is_guard (number m.op))) [
        | inl guards ↦
            let inner = in_form bytes k m checked r.within (shorter k n.path m.path a le r.path) (guarded_form _ (sym (ap class_around r.path ∙ class-guard m.path a guards) ∙ e)) in
            (inner.0, past n.path m.path a (inner.0 ∷ []) r.path (guard_other (number m.op) FORM guards refl) (guard_other (number m.op) RULE guards refl) inner.1)
        | inr other ↦ elim (of_form (number m.op) (sym (ap class_around r.path ∙ class-other m.path a other) ∙ e)) [
          | inl form ↦
              let inner = around_form bytes m checked r.within form in (
                a,
                record {
                  forms_are = ap forms_among r.path ∙ form_comes m.path a (eq-eqb (number m.op) FORM form) inner.forms_are;
                  no_rules = ap rules_on r.path ∙ rule_stays m.path a (number_other (number m.op) FORM RULE form refl) ∙ inner.no_rules;
                },
              )
          | inr subtitle ↦
              let inner = in_form bytes k m checked r.within (shorter k n.path m.path a le r.path) (around_subtitle bytes m checked r.within subtitle) in
              (inner.0, past n.path m.path a (inner.0 ∷ []) r.path (number_other (number m.op) SUBTITLE FORM subtitle refl) (number_other (number m.op) SUBTITLE RULE subtitle refl) inner.1)
        ]
      ]
]

-- ---- what stands in a rule

of_rule : class_of (row RULE) ≡ OfNothing
unfolding row operands row_of
of_rule = refl

wants_of_rule : wants_expression RULE ≡ true
wants_of_rule = refl

-- beside the expression there is nothing
nothing_beside : (bytes : List ℕ) (n : Node) (op : List ℕ) (inner rest : Forest) → IsChecked bytes → Contains (nodes_of bytes) n → is_rule n ≡ true → n.children ≡ node op inner rest → rest ≡ none
nothing_beside bytes n op inner none checked within is e = refl
nothing_beside bytes n op inner (node next its more) checked within is e =
    let rule : number n.op ≡ RULE = eqb-true (number n.op) RULE is in
    let a = as_ancestor n in
    let from : ℕ = n.place + length n.op in
    let entered = n.path ++ a ∷ [] in
    let behind : ℕ = from + length (flat (node op inner none)) in
    let m : Node = record { place = behind; op = next; path = entered; children = its } in
    let first_child : Node = record { place = from; op = op; path = entered; children = inner } in
    let below_it : Contains (nodes_at from entered (node op inner (node next its more))) m =
    further first_child _ m (Contains-append_right (nodes_at (from + length op) (entered ++ as_ancestor first_child ∷ []) inner) (nodes_at behind entered (node next its more)) m (0, omega arith, refl)) in
    let there : Contains (nodes_of bytes) m = below_within (tree_of bytes) 4 [] n m within (subst (λ (f : Forest). Contains (nodes_at from entered f) m) (sym e) below_it) in
    let stood = node_stands bytes (tree_of bytes) n checked.spelled within in
    let nodes_are = subst AreNodes e stood.2.1.0 in
    let size = takes op inner (node next its more) nodes_are in
    let long : 2 ≤ length op = nodes_are.0.whole.long in
    let root : is_root m ≡ false = ne_eqb (length entered) 0 (λ z. omega (arith, z, length-append n.path (a ∷ []))) in
    let later : eqb behind from ≡ false = ne_eqb behind from (λ z. omega (arith, z, size.0, long)) in
    let no_start : is_wanted m ≡ false = or_from _ _
    (ap (begins_scope behind) (innermost-push n.path a) ∙ and_right (wants_expression (number n.op)) _ later)
    (ap (begins_with_value behind) (innermost-push n.path a) ∙ and_right (wants_value n.op) _ later) in
    let plain : is_guard (number n.op) ≡ false = ap is_guard rule in
    let class : class_around entered ≡ OfNothing = class-other n.path a plain ∙ ap (λ (k : ℕ). class_of (row k)) rule ∙ of_rule in
    let h = placed (is_root m) (is_wanted m) _ root no_start (no_fault bytes m Misplaced checked there) in
    absurd (false≢true (ap (λ (c : Class). admits c (number next)) (sym class) ∙ h))

pub rule_fact : (bytes : List ℕ) (n : Node) → IsChecked bytes → Contains (nodes_of bytes) n → is_rule n ≡ true → IsRuleNode n
rule_fact bytes n checked within is =
    let rule : number n.op ≡ RULE = eqb-true (number n.op) RULE is in
    let root = no_root bytes n checked within (number_other (number n.op) RULE FORM_SET rule refl) in
    let class : class_around n.path ≡ OfForm = holds_rule (class_around n.path) (held_as bytes n RULE checked within rule no_operators.2 refl root) in
    let forms = in_form bytes (length n.path) n checked within (omega arith) class in
    let its = has_condition bytes n checked within (ap wants_expression rule ∙ wants_of_rule) in
    record {
      op = its.op;
      inner = its.children;
      children = its.first ∙ ap (node its.op its.children) (nothing_beside bytes n its.op its.children its.rest checked within is its.first);
      operator = its.operator;
      sound = its.sound;
      form = forms.0;
      forms = forms.1.forms_are;
      outermost = forms.1.no_rules;
    }
