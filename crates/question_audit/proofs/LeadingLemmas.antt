-- Which rules lead to a question, rule by rule in the order in which they end.
use Rattle.std.proofs.Common.{◌≡◌, ℕ, suc, ◌<◌, ◌≤◌, Bool, true, false, eqb, Option, Some, None, List, [], ◌∷◌, ◌++◌, map, reverse, refl, sym, ap, subst, ◌∙◌, arith, inl, inr}
use Rattle.std.specs.Prelude.{Contains, ◌==◌, ◌&&◌, ◌||◌, filter, ⊤}
use Rattle.std.specs.List.{AllByRecursion, find, flat_map, list_any}
use Rattle.std.proofs.lemmas.Bool.{and_from, and_left, and_parts, and_right, cases_Bool, cond-false, cond-true, eqb-true, eq-eqb, false≢true, ne_eqb, or_cases, or_from, or_left, or_right}
use Rattle.std.proofs.lemmas.List.{reverse-append}
use Rattle.std.proofs.lemmas.List.Elements.{All-filter}
use Rattle.std.proofs.lemmas.List.Folds.{list_any-append}
use Rattle.ifr_opcodes.specs.declared.codes.TheConstants.{RULE_REF, THIS}
use Rattle.ifr_opcodes.specs.Fields.{rule_ref_rule}
use Rattle.ifr_opcodes.specs.Forest.{Mark, Node, node_at}
use Rattle.ifr_opcodes.specs.Opcode.{number}
use Rattle.ifr_opcodes.specs.Reading.{tree_of}
use Rattle.ifr_opcodes.specs.Rows.{is_among}
use Rattle.ifr_expr.specs.Dependence.{dependence, ids_behind, own, rule_ids}
use Rattle.ifr_expr.specs.Meaning.{names}
use Rattle.ifr_expr.specs.References.{references_among}
use Rattle.ifr_expr.specs.Support.{ids_of}
use Rattle.ifr_expr.specs.Trees.{post}
use Rattle.ifr_expr.specs.code.Rules.{AreOrdered}
use Rattle.ifr_expr.specs.code.Names.{names_among, names_in}
use Rattle.ifr_expr.specs.declared.names.Name.TheVariants as name
use Rattle.ifr_expr.specs.declared.references.RuleReference.{RuleReference}
use Rattle.ifr_expr.proofs.DependenceLemmas.{found_ids, no_ids}
use Rattle.ifr_expr.proofs.RuleLemmas.{Below}
use Rattle.ifr_nodes.specs.Checked.{IsChecked}
use Rattle.ifr_nodes.specs.Nodes.{end_of, nodes_of}
use Rattle.ifr_nodes.specs.Rules.{as_rule, form_end, is_rule, rule_nodes, rules_among}
use Rattle.ifr_nodes.specs.code.Checked.{AreNodesOf, IsNodeOf}
use Rattle.ifr_nodes.specs.code.RuleNodes.{Descend}
use Rattle.ifr_nodes.proofs.PlaceLemmas.{is_found}
use Rattle.ifr_nodes.proofs.RuleOrderLemmas.{descend_of, rule_there}
use Rattle.ifr_nodes.proofs.ScopeLemmas.{all_nodes}
use Rattle.ifr_nodes.proofs.ViewLemmas.{further}
use Rattle.ifr_scopes.proofs.FormPlaceLemmas.{found}
use Rattle.ifr_scopes.proofs.RuleLookupLemmas.{named_before, named_none, named_some}
use Rattle.ifr_scopes.proofs.RulesOrderedLemmas.{are_ordered}
use Rattle.guard_policy.proofs.OptionLemmas.{first_of, rest_of}
use Rattle.question_audit.specs.code.NamedRules.{named_by}
use Rattle.question_audit.specs.code.Leading.{AreLeading, has_rule, leads}
use Rattle.question_audit.proofs.ClosureLemmas.{StandBefore, references_before, same_test}
use Rattle.question_audit.proofs.NamingLemmas.{or_false}

-- ---- an expression, by what is told of the rules that it names

-- what is told of the rule that a reference names
abbrev pub IsTold : List Node → (ℕ → Bool) → ℕ → RuleReference → Type 0
IsTold ns has id r = has_rule has (named_by ns r) ≡ is_among id (rule_ids (rules_among ns) r.id r.place)

by_ids : (ns : List Node) (has : ℕ → Bool) (this id : ℕ) (ids : List ℕ) → list_any (leads ns has this id) (map name.Question ids) ≡ is_among id ids
by_ids ns has this id [] = refl
by_ids ns has this id (other ∷ ids) = ap (λ (b : Bool). (other == id) || b) (by_ids ns has this id ids)

by_opcodes : (ns : List Node) (has : ℕ → Bool) (this id : ℕ) (ops : List Mark) → AllByRecursion (IsTold ns has id) (references_among ops)
    → list_any (leads ns has this id) (names_among ops) ≡ is_among id (flat_map (ids_behind (rule_ids (rules_among ns)) this) ops)
by_opcodes ns has this id [] told = refl
by_opcodes ns has this id (op ∷ ops) told =
    let lead = leads ns has this id in
    let ids : ℕ → Bool = λ m. m == id in
    let more = names_among ops in
    let behind = flat_map (ids_behind (rule_ids (rules_among ns)) this) ops in
    elim (cases_Bool (eqb (number op.op) RULE_REF)) [
      | inl is ↦
          let its = rule_ids (rules_among ns) (rule_ref_rule op.op) op.place in
          let all : AllByRecursion (IsTold ns has id) (record { id = rule_ref_rule op.op; place = op.place } ∷ references_among ops) = rw is at told in
          rw is (ap (λ (b : Bool). b || list_any lead more) all.0 ∙ ap (λ (b : Bool). is_among id its || b) (by_opcodes ns has this id ops all.1) ∙ sym (list_any-append ids its behind))
      | inr no_rule ↦
          let all : AllByRecursion (IsTold ns has id) (references_among ops) = rw no_rule at told in
          let rest = by_opcodes ns has this id ops all in
          elim (cases_Bool (eqb (number op.op) THIS)) [
            | inl is ↦ rw (no_rule, is) (ap (λ (b : Bool). is_among id (own this) || b) rest ∙ sym (list_any-append ids (own this) behind))
            | inr other ↦ rw (no_rule, other) (list_any-append lead (map name.Question (ids_of op.op)) more
                ∙ ap (λ (b : Bool). b || list_any lead more) (by_ids ns has this id (ids_of op.op))
                ∙ ap (λ (b : Bool). is_among id (ids_of op.op) || b) rest
                ∙ sym (list_any-append ids (ids_of op.op) behind))
          ]
    ]

every : (ns : List Node) (has : ℕ → Bool) (id : ℕ) (refs : List RuleReference) → AreLeading ns id has → AllByRecursion (IsTold ns has id) refs
every ns has id [] all = tt
every ns has id (r ∷ refs) all = (all r, every ns has id refs all)

pub by_rules : (ns : List Node) (has : ℕ → Bool) (this id : ℕ) (ops : List Mark) → AreLeading ns id has
    → list_any (leads ns has this id) (names_among ops) ≡ is_among id (flat_map (ids_behind (rule_ids (rules_among ns)) this) ops)
by_rules ns has this id ops all = by_opcodes ns has this id ops (every ns has id (references_among ops) all)

-- ---- rules one after the other

-- whether a rule stands at a place and depends on a question
abbrev pub depends : List Node → ℕ → Node → Bool
depends ns id n = is_among id (dependence (rules_among ns) 0 (as_rule n).tree)

abbrev pub here : List Node → ℕ → ℕ → Node → Bool
here ns id place n = (n.place == place) && depends ns id n

-- Rules of which each ends before those behind it.
abbrev pub Rise : List Node → Type 0
Rise [] = ⊤
Rise (n ∷ left) = AllByRecursion (λ q. end_of n < end_of q) left × Rise left

-- the opcodes of a rule stand before its end
abbrev pub HasBelow : Node → Type 0
HasBelow n = Below (end_of n) (post (as_rule n).tree)

-- What is known at a turn: what the rules that are left lead to is to be found out, and of the others it is known.
pub record IsKnown (bytes : List ℕ) (id : ℕ) (has : ℕ → Bool) (left : List Node) : Type 0 where
  pub places : (place : ℕ) → has place || list_any (here (nodes_of bytes) id place) left ≡ list_any (here (nodes_of bytes) id place) (rule_nodes (nodes_of bytes))
  pub rise : Rise left
  pub below : AllByRecursion HasBelow left
  pub nodes : AreNodesOf bytes left

-- ---- at its beginning

any_reversed : {X : Type 0} (test : X → Bool) (xs : List X) → list_any test xs ≡ list_any test (reverse xs)
any_reversed test [] = refl
any_reversed test (x ∷ xs) =
    ap (λ (b : Bool). test x || b) (any_reversed test xs) ∙ turn (test x) (list_any test (reverse xs))
    ∙ sym (ap (list_any test) (reverse-append (x ∷ []) xs) ∙ list_any-append test (reverse xs) (x ∷ []))
  where
    turn : (a b : Bool) → a || b ≡ b || (a || false)
    turn true true = refl
    turn true false = refl
    turn false true = refl
    turn false false = refl

all_but_last : (P : Node → Type 0) (ys : List Node) (x : Node) → AllByRecursion P (ys ++ x ∷ []) → AllByRecursion P ys × P x
all_but_last P [] x all = (tt, all.0)
all_but_last P (y ∷ ys) x all = let more = all_but_last P ys x all.1 in ((all.0, more.0), more.1)

backward : (P : Node → Type 0) (xs : List Node) → AllByRecursion P (reverse xs) → AllByRecursion P xs
backward P [] all = tt
backward P (x ∷ xs) all =
    let parts = all_but_last P (reverse xs) x (subst (AllByRecursion P) (reverse-append (x ∷ []) xs) all) in
    (parts.1, backward P xs parts.0)

last_ends : (ys : List Node) (x : Node) → Descend (ys ++ x ∷ []) → Descend ys × AllByRecursion (λ q. end_of x < end_of q) ys
last_ends [] x d = (tt, tt)
last_ends (y ∷ ys) x d =
    let its = all_but_last (λ q. (end_of q < end_of y) × (form_end q.path ≤ form_end y.path)) ys x d.0 in
    let more = last_ends ys x d.1 in
    ((its.0, more.0), (its.1.0, more.1))

rise : (xs : List Node) → Descend (reverse xs) → Rise xs
rise [] d = tt
rise (x ∷ xs) d =
    let parts = last_ends (reverse xs) x (subst Descend (reverse-append (x ∷ []) xs) d) in
    (backward (λ q. end_of x < end_of q) xs parts.1, rise xs parts.0)

all_below : (ns : List Node) → AreOrdered (map as_rule ns) → AllByRecursion HasBelow ns
all_below [] o = tt
all_below (n ∷ ns) o = (o.0, all_below ns o.1.1)

pub at_first : (bytes : List ℕ) (id : ℕ) (has : ℕ → Bool) (left : List Node) → IsChecked bytes → left ≡ filter is_rule (nodes_of bytes) → ((place : ℕ) → has place ≡ false) → IsKnown bytes id has left
at_first bytes id has left checked e none =
    let ns = nodes_of bytes in
    let all = filter is_rule ns in
    record {
      places = λ place. ap (λ (b : Bool). b || list_any (here ns id place) left) (none place) ∙ ap (list_any (here ns id place)) e ∙ any_reversed (here ns id place) all;
      rise = subst Rise (sym e) (rise all (descend_of bytes checked));
      below = subst (AllByRecursion HasBelow) (sym e) (backward HasBelow all (all_below (rule_nodes ns) (are_ordered bytes checked)));
      nodes = subst (AreNodesOf bytes) (sym e) (All-filter is_rule (IsNodeOf bytes) ns (all_nodes bytes checked.spelled));
    }

-- ---- what is known of a rule that is named

same_node : (bytes : List ℕ) (n m : Node) → IsNodeOf bytes n → IsNodeOf bytes m → n.place ≡ m.place → n ≡ m
same_node bytes n m e f same = some_node n m (sym e ∙ ap (node_at (nodes_of bytes)) same ∙ f)
  where
    some_node : (x y : Node) → Some x ≡ Some y → x ≡ y
    some_node x y e = cc

only_it : (bytes : List ℕ) (id : ℕ) (m : Node) (xs : List Node) → ((q : Node) → Contains xs q → IsNodeOf bytes q) → IsNodeOf bytes m → list_any (here (nodes_of bytes) id m.place) xs ≡ true → depends (nodes_of bytes) id m ≡ true
only_it bytes id m [] nodes node e = absurd (false≢true e)
only_it bytes id m (x ∷ xs) nodes node e =
    let ns = nodes_of bytes in
    elim (or_cases (here ns id m.place x) (list_any (here ns id m.place) xs) e) [
      | inl is ↦
          let parts = and_parts (x.place == m.place) (depends ns id x) is in
          ap (depends ns id) (sym (same_node bytes x m (nodes x (0, omega arith, refl)) node (eqb-true x.place m.place parts.0))) ∙ parts.1
      | inr later ↦ only_it bytes id m xs (λ q w. nodes q (further x xs q w)) node later
    ]

finds_it : (ns : List Node) (id : ℕ) (test : Node → Bool) (m : Node) (xs : List Node) → find test xs ≡ Some m → depends ns id m ≡ true → list_any (here ns id m.place) xs ≡ true
finds_it ns id test m [] e is = absurd cc
finds_it ns id test m (x ∷ xs) e is = elim (cases_Bool (test x)) [
  | inl passes ↦
      let same : x ≡ m = cc (sym (cond-true (test x) (Some x) (find test xs) passes) ∙ e) in
      or_left (here ns id m.place x) (list_any (here ns id m.place) xs) (and_from (x.place == m.place) (depends ns id x) (eq-eqb x.place m.place (ap (λ (k : Node). k.place) same)) (ap (depends ns id) same ∙ is))
  | inr other ↦ or_right (here ns id m.place x) (list_any (here ns id m.place) xs) (finds_it ns id test m xs (sym (cond-false (test x) (Some x) (find test xs) other) ∙ e) is)
]

its_node : (bytes : List ℕ) (q : Node) → IsChecked bytes → Contains (rule_nodes (nodes_of bytes)) q → IsNodeOf bytes q
its_node bytes q checked w = is_found bytes (tree_of bytes) q checked.spelled (rule_there (nodes_of bytes) q w).0

among_all : (bytes : List ℕ) (id : ℕ) (r : RuleReference) (m : Node) → IsChecked bytes → Some m ≡ named_by (nodes_of bytes) r
    → list_any (here (nodes_of bytes) id m.place) (rule_nodes (nodes_of bytes)) ≡ depends (nodes_of bytes) id m
among_all bytes id r m checked is =
    let ns = nodes_of bytes in
    let test : Node → Bool = λ n. names r.id r.place (as_rule n) in
    let node = its_node bytes m checked (found test (rule_nodes ns) m (sym is)).0 in
    same_test (list_any (here ns id m.place) (rule_nodes ns)) (depends ns id m)
    (only_it bytes id m (rule_nodes ns) (λ q w. its_node bytes q checked w) node)
    (finds_it ns id test m (rule_nodes ns) (sym is))

-- a rule that ends before others is none of them
none_of : (bytes : List ℕ) (id : ℕ) (m : Node) (end : ℕ) (xs : List Node) → AreNodesOf bytes xs → IsNodeOf bytes m → end_of m < end → AllByRecursion (λ q. end ≤ end_of q) xs → list_any (here (nodes_of bytes) id m.place) xs ≡ false
none_of bytes id m end [] nodes node before all = refl
none_of bytes id m end (x ∷ xs) nodes node before all =
    let ns = nodes_of bytes in
    let apart : (x.place == m.place) ≡ false = ne_eqb x.place m.place (λ e. omega (arith, before, all.0, ap end_of (same_node bytes x m (first_of bytes (x ∷ xs) x xs refl nodes) node e))) in
    or_from (here ns id m.place x) (list_any (here ns id m.place) xs) (and_left (x.place == m.place) (depends ns id x) apart)
    (none_of bytes id m end xs (rest_of bytes (x ∷ xs) x xs refl nodes) node before all.1)

weaker : (end : ℕ) (xs : List Node) → AllByRecursion (λ q. end < end_of q) xs → AllByRecursion (λ q. end ≤ end_of q) xs
weaker end [] all = tt
weaker end (x ∷ xs) all = (omega (arith, all.0), weaker end xs all.1)

told_of : (bytes : List ℕ) (id : ℕ) (has : ℕ → Bool) (left : List Node) (end : ℕ) (r : RuleReference) (o : Option Node) → IsChecked bytes → IsKnown bytes id has left → AllByRecursion (λ q. end ≤ end_of q) left → r.place < end → o ≡ named_by (nodes_of bytes) r
    → IsTold (nodes_of bytes) has id r
told_of bytes id has left end r None checked known later lt is =
    let ns = nodes_of bytes in
    ap (has_rule has) (sym is) ∙ sym (ap (is_among id) (no_ids (rules_among ns) r.id r.place (named_none (rule_nodes ns) r.id r.place (sym is))))
told_of bytes id has left end r (Some m) checked known later lt is =
    let ns = nodes_of bytes in
    let before = named_before (rule_nodes ns) r.id r.place m (sym is) in
    let node = its_node bytes m checked (found (λ n. names r.id r.place (as_rule n)) (rule_nodes ns) m (sym is)).0 in
    let none = none_of bytes id m end left known.nodes node (omega (arith, before, lt)) later in
    ap (has_rule has) (sym is)
    ∙ sym (or_false (has m.place)) ∙ ap (λ (b : Bool). has m.place || b) (sym none) ∙ known.places m.place ∙ among_all bytes id r m checked is
    ∙ sym (ap (is_among id) (found_ids (rules_among ns) r.id r.place (as_rule m) (are_ordered bytes checked) (named_some (rule_nodes ns) r.id r.place m (sym is))))

-- ---- the next rule, and the end

all_told : (bytes : List ℕ) (id : ℕ) (has : ℕ → Bool) (left : List Node) (end : ℕ) (refs : List RuleReference) → IsChecked bytes → IsKnown bytes id has left → AllByRecursion (λ q. end ≤ end_of q) left → StandBefore end refs
    → AllByRecursion (IsTold (nodes_of bytes) has id) refs
all_told bytes id has left end [] checked known later before = tt
all_told bytes id has left end (r ∷ refs) checked known later before =
    (told_of bytes id has left end r (named_by (nodes_of bytes) r) checked known later before.0 refl, all_told bytes id has left end refs checked known later before.1)

pub next_depends : (bytes : List ℕ) (id : ℕ) (has : ℕ → Bool) (left rest : List Node) (n : Node) → IsChecked bytes → left ≡ n ∷ rest → IsKnown bytes id has left
    → list_any (leads (nodes_of bytes) has 0 id) (names_in (as_rule n).tree) ≡ depends (nodes_of bytes) id n
next_depends bytes id has left rest n checked e known =
    let ns = nodes_of bytes in
    let k : IsKnown bytes id has (n ∷ rest) = rw e at known in
    let ops = post (as_rule n).tree in
    by_opcodes ns has 0 id ops (all_told bytes id has (n ∷ rest) (end_of n) (references_among ops) checked k (omega arith, weaker (end_of n) rest k.rise.0) (references_before (end_of n) (end_of n) ops (omega arith) k.below.0))

swap : (a b c : Bool) → (a || b) || c ≡ b || (a || c)
swap true true c = refl
swap true false c = refl
swap false b c = refl

pub comes_in : (bytes : List ℕ) (id : ℕ) (has new : ℕ → Bool) (left rest : List Node) (n : Node) → left ≡ n ∷ rest → depends (nodes_of bytes) id n ≡ true → ((place : ℕ) → new place ≡ n.place == place || has place)
    → IsKnown bytes id has left → IsKnown bytes id new rest
comes_in bytes id has new left rest n e is added known =
    let ns = nodes_of bytes in
    let k : IsKnown bytes id has (n ∷ rest) = rw e at known in
    record {
      places = λ place.
          let more = list_any (here ns id place) rest in
          ap (λ (b : Bool). b || more) (added place) ∙ swap (n.place == place) (has place) more
          ∙ ap (λ (b : Bool). has place || (b || more)) (sym (and_true (n.place == place) (depends ns id n) is)) ∙ k.places place;
      rise = k.rise.1;
      below = k.below.1;
      nodes = rest_of bytes (n ∷ rest) n rest refl k.nodes;
    }
  where
    and_true : (a b : Bool) → b ≡ true → (a && b) ≡ a
    and_true true b e = e
    and_true false b e = refl

pub stays_out : (bytes : List ℕ) (id : ℕ) (has : ℕ → Bool) (left rest : List Node) (n : Node) → left ≡ n ∷ rest → depends (nodes_of bytes) id n ≡ false → IsKnown bytes id has left → IsKnown bytes id has rest
stays_out bytes id has left rest n e other known =
    let ns = nodes_of bytes in
    let k : IsKnown bytes id has (n ∷ rest) = rw e at known in
    record {
      places = λ place.
          let more = list_any (here ns id place) rest in
          ap (λ (b : Bool). has place || (b || more)) (sym (and_right (n.place == place) (depends ns id n) other)) ∙ k.places place;
      rise = k.rise.1;
      below = k.below.1;
      nodes = rest_of bytes (n ∷ rest) n rest refl k.nodes;
    }

pub at_last : (bytes : List ℕ) (id : ℕ) (has : ℕ → Bool) (left : List Node) → IsChecked bytes → left ≡ [] → IsKnown bytes id has left → AreLeading (nodes_of bytes) id has
at_last bytes id has left checked e known =
    let k : IsKnown bytes id has [] = rw e at known in
    λ r. told_of bytes id has [] (suc r.place) r (named_by (nodes_of bytes) r) checked k tt (omega arith) refl
