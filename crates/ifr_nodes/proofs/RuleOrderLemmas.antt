-- Rules end one after the other, and so do the forms in which they stand.
use Rattle.std.proofs.Common.{◌≡◌, ℕ, zero, suc, ◌+◌, ◌<◌, ◌≤◌, true, eqb, None, List, [], ◌∷◌, ◌++◌, append_assoc, length, reverse, refl, sym, ap, ◌∙◌, subst, arith, inl, inr}
use Rattle.std.specs.Prelude.{Contains, filter, ◌==◌}
use Rattle.std.specs.List.{AllByRecursion, last_or}
use Rattle.std.proofs.lemmas.List.{append-nil, length-append, reverse-append}
use Rattle.std.proofs.lemmas.List.Elements.{filter-append, Contains-append_cases, Contains-append_left, Contains-append_right}
use Rattle.std.proofs.lemmas.Bool.{cases_Bool}
use Rattle.ifr_opcodes.specs.declared.codes.TheConstants.{FORM, RULE}
use Rattle.ifr_opcodes.specs.Opcode.{number}
use Rattle.ifr_opcodes.specs.Forest.{Forest, none, node, flat, AreNodes, Ancestor, Node, nodes_at}
use Rattle.ifr_opcodes.specs.Reading.{tree_of}
use Rattle.ifr_opcodes.proofs.ForestLemmas.{takes}
use Rattle.ifr_nodes.specs.Checked.{IsChecked}
use Rattle.ifr_nodes.specs.Nodes.{nodes_of, end_of}
use Rattle.ifr_nodes.specs.Rules.{is_rule, forms_among, end_or_0, form_end, rule_nodes, scope_end}
use Rattle.ifr_nodes.specs.code.RuleNodes.{IsRuleNode, Descend}
use Rattle.ifr_nodes.proofs.RuleFacts.{rules_on, rule_fact}
use Rattle.ifr_nodes.proofs.ScopeLemmas.{path_inside}
use Rattle.ifr_nodes.proofs.ViewLemmas.{further}

-- ---- numbers that rise along a list

-- Each is by a gap at least greater than the one before it, from low on, and none is greater than high.
abbrev Rises : ℕ → (Node → ℕ) → ℕ → ℕ → List Node → Type 0
Rises gap f low high [] = low ≤ high
Rises gap f low high (n ∷ ns) = (low + gap ≤ f n) × Rises gap f (f n) high ns

wider : (gap : ℕ) (f : Node → ℕ) (ns : List Node) (low high low' high' : ℕ) → Rises gap f low high ns → low' ≤ low → high ≤ high' → Rises gap f low' high' ns
wider gap f [] low high low' high' r l h = omega arith
wider gap f (n ∷ ns) low high low' high' r l h = (omega (arith, r.0), wider gap f ns (f n) high (f n) high' r.1 (omega arith) h)

Rises-append : (gap : ℕ) (f : Node → ℕ) (xs ys : List Node) (low mid high : ℕ) → Rises gap f low mid xs → Rises gap f mid high ys → Rises gap f low high (xs ++ ys)
Rises-append gap f [] ys low mid high u v = wider gap f ys mid high low high v u (omega arith)
Rises-append gap f (x ∷ xs) ys low mid high u v = (u.0, Rises-append gap f xs ys (f x) mid high u.1 v)

-- the same number stays
same_rises : (f : Node → ℕ) (ns : List Node) (low at : ℕ) → low ≤ at → AllByRecursion (λ n. f n ≡ at) ns → Rises 0 f low at ns
same_rises f [] low at le all = le
same_rises f (n ∷ ns) low at le all = (omega (arith, all.0), same_rises f ns (f n) at (omega (arith, all.0)) all.1)

-- ---- the rules of some nodes

none_left : (ns : List Node) → ((n : Node) → Contains ns n → is_rule n ≡ true → ⊥) → filter is_rule ns ≡ []
none_left [] never = refl
none_left (n ∷ ns) never = elim (cases_Bool (is_rule n)) [
  | inl is ↦ absurd (never n (0, omega arith, refl) is)
  | inr other ↦ rw other (none_left ns (λ m w. never m (further n ns m w)))
]

all_left : (P : Node → Type 0) (ns : List Node) → ((n : Node) → Contains ns n → is_rule n ≡ true → P n) → AllByRecursion P (filter is_rule ns)
all_left P [] each = tt
all_left P (n ∷ ns) each = elim (cases_Bool (is_rule n)) [
  | inl is ↦ rw is (each n (0, omega arith, refl) is, all_left P ns (λ m w. each m (further n ns m w)))
  | inr other ↦ rw other (all_left P ns (λ m w. each m (further n ns m w)))
]

abbrev AreRules : List Node → Type 0
AreRules ns = (n : Node) → Contains ns n → is_rule n ≡ true → IsRuleNode n

-- the nodes of a forest part by part
record Parts (at : ℕ) (path : List Ancestor) (op : List ℕ) (children rest : Forest) : Type 0 where
  own : AreRules (record { place = at; op = op; path = path; children = children } ∷ [])
  inner : AreRules (nodes_at (at + length op) (path ++ record { place = at; op = op; children = children } ∷ []) children)
  outer : AreRules (nodes_at (at + length (flat (node op children none))) path rest)

parts : (at : ℕ) (path : List Ancestor) (op : List ℕ) (children rest : Forest) → AreRules (nodes_at at path (node op children rest)) → Parts at path op children rest
parts at path op children rest are =
    let here : Node = record { place = at; op = op; path = path; children = children } in
    let its = nodes_at (at + length op) (path ++ record { place = at; op = op; children = children } ∷ []) children in
    let after = nodes_at (at + length (flat (node op children none))) path rest in
    record {
      own = λ n w is. are n (Contains-append_left (here ∷ []) (its ++ after) n w) is;
      inner = λ n w is. are n (further here (its ++ after) n (Contains-append_left its after n w)) is;
      outer = λ n w is. are n (further here (its ++ after) n (Contains-append_right its after n w)) is;
    }

-- ---- their ends

-- below a rule there is none
below_none : (at : ℕ) (path : List Ancestor) (a : Ancestor) (f : Forest) → eqb (number a.op) RULE ≡ true → AreRules (nodes_at at (path ++ a ∷ []) f) → filter is_rule (nodes_at at (path ++ a ∷ []) f) ≡ []
below_none at path a f rule are = none_left (nodes_at at (path ++ a ∷ []) f) (λ n w is.
    let more = path_inside f at (path ++ a ∷ []) n w in
    let all : rules_on (path ++ (a ∷ more.0)) ≡ [] = ap rules_on (sym (more.1 ∙ append_assoc path (a ∷ []) more.0)) ∙ (are n w is).outermost in
    let split : rules_on path ++ a ∷ rules_on more.0 ≡ [] = ap (λ (l : List Ancestor). rules_on path ++ l) (rw rule refl) ∙ sym (filter-append (λ (b : Ancestor). number b.op == RULE) path (a ∷ more.0)) ∙ all in
    omega (arith, ap (λ (l : List Ancestor). length l) split, length-append (rules_on path) (a ∷ rules_on more.0)))

ends_rise : (f : Forest) (at : ℕ) (path : List Ancestor) → AreNodes f → AreRules (nodes_at at path f) → Rises 1 end_of at (at + length (flat f)) (filter is_rule (nodes_at at path f))
ends_rise none at path h are = omega arith
ends_rise (node op children rest) at path h are =
    let p = parts at path op children rest are in
    let size = takes op children rest h in
    let long : 2 ≤ length op = h.0.whole.long in
    let a : Ancestor = record { place = at; op = op; children = children } in
    let behind : ℕ = at + length (flat (node op children none)) in
    let its = nodes_at (at + length op) (path ++ a ∷ []) children in
    let after = nodes_at behind path rest in
    let outer : Rises 1 end_of behind (at + length (flat (node op children rest))) (filter is_rule after) =
    wider 1 end_of (filter is_rule after) behind (behind + length (flat rest)) behind (at + length (flat (node op children rest))) (ends_rise rest behind path h.1.1 p.outer) (omega arith) (omega (arith, size.1)) in
    elim (cases_Bool (eqb (number op) RULE)) [
      | inl rule ↦
          let bare : filter is_rule (its ++ after) ≡ filter is_rule after = filter-append is_rule its after ∙ ap (λ (l : List Node). l ++ filter is_rule after) (below_none (at + length op) path a children rule p.inner) in
          rw (rule, bare) (omega (arith, size.0), outer)
      | inr other ↦
          let inner : Rises 1 end_of at behind (filter is_rule its) =
          wider 1 end_of (filter is_rule its) (at + length op) (at + length op + length (flat children)) at behind (ends_rise children (at + length op) (path ++ a ∷ []) h.1.0 p.inner) (omega arith) (omega (arith, size.0)) in
          rw (other, filter-append is_rule its after) (Rises-append 1 end_of (filter is_rule its) (filter is_rule after) at behind (at + length (flat (node op children rest))) inner outer)
    ]

-- ---- the ends of their forms

abbrev its_end : Node → ℕ
its_end n = form_end n.path

forms_push : (path : List Ancestor) (a : Ancestor) (more : List Ancestor) → forms_among (path ++ (a ∷ more)) ≡ forms_among path ++ forms_among (a ∷ more)
forms_push path a more = filter-append (λ (b : Ancestor). number b.op == FORM) path (a ∷ more)

only : (xs : List Ancestor) (a b : Ancestor) → a ∷ xs ≡ b ∷ [] → a ≡ b
only xs a b e = cc

-- in a form all rules have its end
in_form : (f : Forest) (at : ℕ) (path : List Ancestor) (form : Ancestor) → forms_among path ≡ form ∷ [] → AreRules (nodes_at at path f) → AllByRecursion (λ n. its_end n ≡ scope_end form) (filter is_rule (nodes_at at path f))
in_form f at path form one are = all_left (λ n. its_end n ≡ scope_end form) (nodes_at at path f) (λ n w is.
    let fact = are n w is in
    let more = path_inside f at path n w in
    let split : form ∷ forms_among more.0 ≡ fact.form ∷ [] =
    ap (λ (l : List Ancestor). l ++ forms_among more.0) (sym one) ∙ sym (filter-append (λ (b : Ancestor). number b.op == FORM) path more.0) ∙ ap forms_among (sym more.1) ∙ fact.forms in
    ap (λ (l : List Ancestor). end_or_0 (last_or None l)) fact.forms ∙ ap scope_end (sym (only (forms_among more.0) form fact.form split)))

form_ends_rise : (f : Forest) (at : ℕ) (path : List Ancestor) → forms_among path ≡ [] → AreNodes f → AreRules (nodes_at at path f) → Rises 0 its_end at (at + length (flat f)) (filter is_rule (nodes_at at path f))
form_ends_rise none at path bare h are = omega arith
form_ends_rise (node op children rest) at path bare h are =
    let p = parts at path op children rest are in
    let size = takes op children rest h in
    let a : Ancestor = record { place = at; op = op; children = children } in
    let behind : ℕ = at + length (flat (node op children none)) in
    let its = nodes_at (at + length op) (path ++ a ∷ []) children in
    let after = nodes_at behind path rest in
    let outer : Rises 0 its_end behind (at + length (flat (node op children rest))) (filter is_rule after) =
    wider 0 its_end (filter is_rule after) behind (behind + length (flat rest)) behind (at + length (flat (node op children rest))) (form_ends_rise rest behind path bare h.1.1 p.outer) (omega arith) (omega (arith, size.1)) in
    let inner : Rises 0 its_end at behind (filter is_rule its) = elim (cases_Bool (eqb (number op) FORM)) [
      | inl form ↦
          let one : forms_among (path ++ a ∷ []) ≡ a ∷ [] = forms_push path a [] ∙ ap (λ (l : List Ancestor). l ++ forms_among (a ∷ [])) bare ∙ rw form refl in
          same_rises its_end (filter is_rule its) at behind (omega arith) (in_form children (at + length op) (path ++ a ∷ []) a one p.inner)
      | inr other ↦
          let none_yet : forms_among (path ++ a ∷ []) ≡ [] = forms_push path a [] ∙ ap (λ (l : List Ancestor). l ++ forms_among (a ∷ [])) bare ∙ rw other refl in
          wider 0 its_end (filter is_rule its) (at + length op) (at + length op + length (flat children)) at behind (form_ends_rise children (at + length op) (path ++ a ∷ []) none_yet h.1.0 p.inner) (omega arith) (omega (arith, size.0))
    ] in
    elim (cases_Bool (eqb (number op) RULE)) [
      | inl rule ↦
          let fact = p.own (record { place = at; op = op; path = path; children = children }) (0, omega arith, refl) rule in
          absurd (omega (arith, ap (λ (l : List Ancestor). length l) (sym bare ∙ fact.forms)))
      | inr other ↦ rw (other, filter-append is_rule its after) (Rises-append 0 its_end (filter is_rule its) (filter is_rule after) at behind (at + length (flat (node op children rest))) inner outer)
    ]

-- ---- the latest first

descends : (xs earlier : List Node) (low high flow fhigh : ℕ) → Rises 1 end_of low high xs → Rises 0 its_end flow fhigh xs → AllByRecursion (λ q. (end_of q ≤ low) × (its_end q ≤ flow)) earlier → Descend earlier → Descend (reverse xs ++ earlier)
descends [] earlier low high flow fhigh u v all d = d
descends (x ∷ xs) earlier low high flow fhigh u v all d =
    subst Descend (sym (ap (λ (l : List Node). l ++ earlier) (reverse-append (x ∷ []) xs) ∙ append_assoc (reverse xs) (x ∷ []) earlier))
    (descends xs (x ∷ earlier) (end_of x) high (its_end x) fhigh u.1 v.1 ((omega arith, omega arith), up earlier all) (before earlier all, d))
  where
    up : (qs : List Node) → AllByRecursion (λ q. (end_of q ≤ low) × (its_end q ≤ flow)) qs → AllByRecursion (λ q. (end_of q ≤ end_of x) × (its_end q ≤ its_end x)) qs
    up [] all = tt
    up (q ∷ qs) all = ((omega (arith, all.0.0, u.0), omega (arith, all.0.1, v.0)), up qs all.1)

    before : (qs : List Node) → AllByRecursion (λ q. (end_of q ≤ low) × (its_end q ≤ flow)) qs → AllByRecursion (λ q. (end_of q < end_of x) × (its_end q ≤ its_end x)) qs
    before [] all = tt
    before (q ∷ qs) all = ((omega (arith, all.0.0, u.0), omega (arith, all.0.1, v.0)), before qs all.1)

pub descend_of : (bytes : List ℕ) → IsChecked bytes → Descend (rule_nodes (nodes_of bytes))
descend_of bytes checked =
    let f = tree_of bytes in
    let are : AreRules (nodes_of bytes) = λ n w is. rule_fact bytes n checked w is in
    let nodes_are = checked.spelled.are_nodes in
    subst Descend (append-nil (rule_nodes (nodes_of bytes)))
    (descends (filter is_rule (nodes_of bytes)) [] 4 (4 + length (flat f)) 4 (4 + length (flat f)) (ends_rise f 4 [] nodes_are are) (form_ends_rise f 4 [] refl nodes_are are) tt tt)

behind_descends : (xs ys : List Node) → Descend (xs ++ ys) → Descend ys
behind_descends [] ys d = d
behind_descends (x ∷ xs) ys d = behind_descends xs ys d.1

-- so do those before a node
pub descend_before : (bytes : List ℕ) (before rest : List Node) → IsChecked bytes → before ++ rest ≡ nodes_of bytes → Descend (rule_nodes before)
descend_before bytes before rest checked e =
    let all : rule_nodes (nodes_of bytes) ≡ rule_nodes rest ++ rule_nodes before = ap rule_nodes (sym e) ∙ ap reverse (filter-append is_rule before rest) ∙ reverse-append (filter is_rule before) (filter is_rule rest) in
    behind_descends (rule_nodes rest) (rule_nodes before) (subst Descend all (descend_of bytes checked))

-- ---- the rules among nodes

filtered : (ns : List Node) (n : Node) → Contains (filter is_rule ns) n → Contains ns n × (is_rule n ≡ true)
filtered [] n w = absurd (nowhere w)
  where
    nowhere : Contains {X = Node} [] n → ⊥
    nowhere (k, lt, e) = omega arith
filtered (m ∷ ns) n w = elim (cases_Bool (is_rule m)) [
  | inl is ↦ go (rw is at w) is (filtered ns n)
  | inr other ↦ let those = filtered ns n (rw other at w) in (further m ns n those.0, those.1)
]
  where
    go : Contains (m ∷ filter is_rule ns) n → is_rule m ≡ true → (Contains (filter is_rule ns) n → Contains ns n × (is_rule n ≡ true)) → Contains (m ∷ ns) n × (is_rule n ≡ true)
    go (zero, lt, e) is rest = ((0, omega arith, e), ap is_rule (sym e) ∙ is)
    go (suc k, lt, e) is rest = let those = rest (k, omega arith, e) in (further m ns n those.0, those.1)

reversed : (xs : List Node) (n : Node) → Contains (reverse xs) n → Contains xs n
reversed [] n w = w
reversed (x ∷ xs) n w = elim (Contains-append_cases (reverse xs) (x ∷ []) n (subst (λ (l : List Node). Contains l n) (reverse-append (x ∷ []) xs) w)) [
  | inl inner ↦ further x xs n (reversed xs n inner)
  | inr last ↦ first last
]
  where
    first : Contains (x ∷ []) n → Contains (x ∷ xs) n
    first (zero, lt, e) = (0, omega arith, e)
    first (suc k, lt, e) = absurd (omega arith)

pub rule_there : (ns : List Node) (n : Node) → Contains (rule_nodes ns) n → Contains ns n × (is_rule n ≡ true)
rule_there ns n w = filtered ns n (reversed (filter is_rule ns) n w)
