-- On which questions conditions depend: those that they name by themselves, and those that each rule that is named in turn does.
use Rattle.std.proofs.Common.{◌≡◌, ℕ, zero, suc, ◌<◌, Bool, true, false, eqb, Option, Some, None, List, [], ◌∷◌, ◌++◌, refl, sym, ap, ◌∙◌, arith, inl, inr}
use Rattle.std.specs.Prelude.{◌==◌, ◌||◌, is_some}
use Rattle.std.specs.List.{AllByRecursion, flat_map, list_any}
use Rattle.std.proofs.lemmas.Bool.{cases_Bool, eqb-true, eq-eqb, false≢true, or_cases, or_left, or_right}
use Rattle.std.proofs.lemmas.List.Folds.{list_any-append}
use Rattle.hii_varstore.proofs.TableLemmas.{is_eq-nat_cmp}
use Rattle.ifr_opcodes.specs.declared.codes.TheConstants.{RULE_REF, THIS}
use Rattle.ifr_opcodes.specs.Fields.{rule_ref_rule}
use Rattle.ifr_opcodes.specs.Forest.{Mark, Node}
use Rattle.ifr_opcodes.specs.Opcode.{number}
use Rattle.ifr_opcodes.specs.Reading.{tree_of}
use Rattle.ifr_opcodes.specs.Rows.{is_among}
use Rattle.ifr_expr.specs.Dependence.{ids_behind, own, rule_ids}
use Rattle.ifr_expr.specs.References.{references, references_among}
use Rattle.ifr_expr.specs.Support.{ids_of}
use Rattle.ifr_expr.specs.Trees.{post}
use Rattle.ifr_expr.specs.declared.references.RuleReference.{RuleReference}
use Rattle.ifr_expr.proofs.DependenceLemmas.{found_ids, no_ids}
use Rattle.ifr_nodes.specs.Checked.{IsChecked}
use Rattle.ifr_nodes.specs.NodeExpressions.{expression_tree}
use Rattle.ifr_nodes.specs.Nodes.{nodes_of, this_of}
use Rattle.ifr_nodes.specs.Rules.{as_rule, is_rule, rule_nodes, rules_among}
use Rattle.ifr_nodes.specs.code.Checked.{has_node, node_in}
use Rattle.ifr_nodes.proofs.PlaceLemmas.{is_found}
use Rattle.ifr_scopes.proofs.RuleLookupLemmas.{named_none, named_some}
use Rattle.ifr_scopes.proofs.RulesOrderedLemmas.{are_ordered}
use Rattle.guard_policy.specs.Conditions.{condition_ids}
use Rattle.question_audit.specs.RuleFacts.{condition_references, names_rule, rule_references, stands_at}
use Rattle.question_audit.specs.code.NamedRules.{AreRulesAt, IsRuleAt, condition_own_ids, has_id_at, has_own_id, named_by}
use Rattle.question_audit.proofs.ClosureLemmas.{StandBefore, is_there, names_it, same_test, stand_before}
use Rattle.question_audit.proofs.IdLemmas.{hits}
use Rattle.question_audit.proofs.NamingLemmas.{nothing_behind, rule_behind, with_behind}

-- ---- an expression by itself, and what its references tell

outward : (a o q : Bool) → a || (o || q) ≡ o || (a || q)
outward true true q = refl
outward true false q = refl
outward false o q = refl

grouped : (a b c : Bool) → a || (b || c) ≡ (a || b) || c
grouped true b c = refl
grouped false b c = refl

-- whether what is told of a reference has an id
abbrev tells : (ℕ → ℕ → List ℕ) → ℕ → RuleReference → Bool
tells behind id r = is_among id (behind r.id r.place)

split : (id : ℕ) (behind : ℕ → ℕ → List ℕ) (this : ℕ) (ops : List Mark) → is_among id (flat_map (ids_behind behind this) ops)
    ≡ is_among id (flat_map (ids_behind (rule_ids []) this) ops) || list_any (tells behind id) (references_among ops)
split id behind this [] = refl
split id behind this (op ∷ ops) =
    let test : ℕ → Bool = λ m. m == id in
    let all = flat_map (ids_behind behind this) ops in
    let its = flat_map (ids_behind (rule_ids []) this) ops in
    let more = list_any (tells behind id) (references_among ops) in
    let rest = split id behind this ops in
    let beside : (ids : List ℕ) → is_among id (ids ++ all) ≡ is_among id (ids ++ its) || more = λ ids.
    list_any-append test ids all ∙ ap (λ (b : Bool). is_among id ids || b) rest ∙ grouped (is_among id ids) (is_among id its) more ∙ ap (λ (b : Bool). b || more) (sym (list_any-append test ids its)) in
    elim (cases_Bool (eqb (number op.op) RULE_REF)) [
      | inl is ↦
          let ids = behind (rule_ref_rule op.op) op.place in
          let none : is_among id (rule_ids [] (rule_ref_rule op.op) op.place ++ its) ≡ is_among id its = ap (λ (l : List ℕ). is_among id (l ++ its)) (no_ids [] (rule_ref_rule op.op) op.place refl) in
          rw is (list_any-append test ids all ∙ ap (λ (b : Bool). is_among id ids || b) rest ∙ outward (is_among id ids) (is_among id its) more ∙ ap (λ (b : Bool). b || (is_among id ids || more)) (sym none))
      | inr no_rule ↦ elim (cases_Bool (eqb (number op.op) THIS)) [
        | inl is ↦ rw (no_rule, is) (beside (own this))
        | inr other ↦ rw (no_rule, other) (beside (ids_of op.op))
      ]
    ]

-- ---- the rules that are named in turn

-- whether the rule that a reference names names a question by itself
abbrev pub named_has : List Node → ℕ → RuleReference → Bool
named_has ns id r = has_own_id id (named_by ns r)

-- what is told of a reference is what the rules name by themselves that it names in turn
abbrev Splits : List Node → ℕ → RuleReference → Type 0
Splits ns id r =
    is_among id (rule_ids (rules_among ns) r.id r.place) ≡ named_has ns id r || list_any (named_has ns id) (rule_references (rules_among ns) r.id r.place)

all_split : (ns : List Node) (id : ℕ) (refs : List RuleReference) → AllByRecursion (Splits ns id) refs
    → list_any (tells (rule_ids (rules_among ns)) id) refs ≡ list_any (named_has ns id) (flat_map (with_behind (rule_references (rules_among ns))) refs)
all_split ns id [] each = refl
all_split ns id (r ∷ refs) each =
    let test = named_has ns id in
    let behind = rule_references (rules_among ns) r.id r.place in
    let rest = flat_map (with_behind (rule_references (rules_among ns))) refs in
    ap (λ (b : Bool). b || list_any (tells (rule_ids (rules_among ns)) id) refs) each.0
    ∙ ap (λ (b : Bool). (test r || list_any test behind) || b) (all_split ns id refs each.1)
    ∙ sym (grouped (test r) (list_any test behind) (list_any test rest))
    ∙ ap (λ (b : Bool). test r || b) (sym (list_any-append test behind rest))

before_split : (ns : List Node) (id k : ℕ) (refs : List RuleReference) → StandBefore k refs → ((r : RuleReference) → r.place < k → Splits ns id r) → AllByRecursion (Splits ns id) refs
before_split ns id k [] all each = tt
before_split ns id k (r ∷ refs) all each = (each r all.0, before_split ns id k refs all.1 each)

splits_over : (bytes : List ℕ) (id k : ℕ) (r : RuleReference) (o : Option Node) → o ≡ named_by (nodes_of bytes) r → IsChecked bytes → r.place < suc k
    → ((q : RuleReference) → q.place < k → Splits (nodes_of bytes) id q) → Splits (nodes_of bytes) id r
splits_over bytes id k r None is checked lt each =
    let ns = nodes_of bytes in
    ap (is_among id) (no_ids (rules_among ns) r.id r.place (named_none (rule_nodes ns) r.id r.place (sym is)))
    ∙ sym (ap (λ (o : Option Node). has_own_id id o || list_any (named_has ns id) (rule_references (rules_among ns) r.id r.place)) (sym is) ∙ ap (list_any (named_has ns id)) (nothing_behind ns r is))
splits_over bytes id k r (Some n) is checked lt each =
    let ns = nodes_of bytes in
    let rules = rules_among ns in
    let tree = (as_rule n).tree in
    let named = named_some (rule_nodes ns) r.id r.place n (sym is) in
    ap (is_among id) (found_ids rules r.id r.place (as_rule n) (are_ordered bytes checked) named)
    ∙ split id (rule_ids rules) 0 (post tree)
    ∙ ap (λ (b : Bool). has_own_id id (Some n) || b) (all_split ns id (references tree) (before_split ns id k (references tree) (stand_before bytes r n k checked is lt) each))
    ∙ ap (λ (l : List RuleReference). has_own_id id (Some n) || list_any (named_has ns id) l) (sym (rule_behind bytes r n checked is))
    ∙ ap (λ (o : Option Node). has_own_id id o || list_any (named_has ns id) (rule_references rules r.id r.place)) is

splits : (bytes : List ℕ) (id k : ℕ) → IsChecked bytes → (r : RuleReference) → r.place < k → Splits (nodes_of bytes) id r
splits bytes id zero checked r lt = absurd (omega (arith, lt))
splits bytes id (suc k) checked r lt = splits_over bytes id k r (named_by (nodes_of bytes) r) refl checked lt (splits bytes id k checked)

every : (bytes : List ℕ) (id : ℕ) (refs : List RuleReference) → IsChecked bytes → AllByRecursion (Splits (nodes_of bytes) id) refs
every bytes id [] checked = tt
every bytes id (r ∷ refs) checked = (splits bytes id (suc r.place) checked r (omega arith), every bytes id refs checked)

-- ---- conditions

of_condition : (bytes : List ℕ) (id : ℕ) (c : Node) → IsChecked bytes → is_among id (condition_ids (nodes_of bytes) c)
    ≡ is_among id (condition_own_ids c) || list_any (named_has (nodes_of bytes) id) (condition_references (nodes_of bytes) c)
of_condition bytes id c checked =
    let ns = nodes_of bytes in
    let refs = references (expression_tree c) in
    split id (rule_ids (rules_among ns)) (this_of c) (post (expression_tree c))
    ∙ ap (λ (b : Bool). is_among id (condition_own_ids c) || b) (all_split ns id refs (every bytes id refs checked))

four : (a b c d : Bool) → (a || b) || (c || d) ≡ (a || c) || (b || d)
four true b c d = refl
four false true true d = refl
four false true false d = refl
four false false c d = refl

pub of_conditions : (bytes : List ℕ) (id : ℕ) (cs : List Node) → IsChecked bytes → is_among id (flat_map (condition_ids (nodes_of bytes)) cs)
    ≡ is_among id (flat_map condition_own_ids cs) || list_any (named_has (nodes_of bytes) id) (flat_map (condition_references (nodes_of bytes)) cs)
of_conditions bytes id [] checked = refl
of_conditions bytes id (c ∷ cs) checked =
    let ns = nodes_of bytes in
    let test : ℕ → Bool = λ m. m == id in
    let named = named_has ns id in
    let refs = flat_map (condition_references ns) cs in
    let a = is_among id (condition_own_ids c) in
    let b = list_any named (condition_references ns c) in
    let d = is_among id (flat_map condition_own_ids cs) in
    list_any-append test (condition_ids ns c) (flat_map (condition_ids ns) cs)
    ∙ ap (λ (x : Bool). x || is_among id (flat_map (condition_ids ns) cs)) (of_condition bytes id c checked)
    ∙ ap (λ (x : Bool). (a || b) || x) (of_conditions bytes id cs checked)
    ∙ four a b d (list_any named refs)
    ∙ ap (λ (x : Bool). x || (b || list_any named refs)) (sym (list_any-append test (condition_own_ids c) (flat_map condition_own_ids cs)))
    ∙ ap (λ (x : Bool). is_among id (flat_map condition_own_ids (c ∷ cs)) || x) (sym (list_any-append named (condition_references ns c) refs))

-- ---- the places of the rules that they name in turn

abbrev pub AreNamedBy : List Node → List ℕ → List RuleReference → Type 0
AreNamedBy ns places refs = (place : ℕ) → list_any (hits place) places ≡ list_any (names_rule ns place) refs

-- What is known of a reference that names the rule at a place.
record IsNamedAt (bytes : List ℕ) (place : ℕ) (r : RuleReference) : Type 0 where
  n : Node
  is : Some n ≡ named_by (nodes_of bytes) r
  at : n.place ≡ place

named_at : (bytes : List ℕ) (place : ℕ) (r : RuleReference) (o : Option Node) → o ≡ named_by (nodes_of bytes) r → names_rule (nodes_of bytes) place r ≡ true → IsNamedAt bytes place r
named_at bytes place r None is e = absurd (false≢true (ap (stands_at place) is ∙ e))
named_at bytes place r (Some n) is e = record { n = n; is = is; at = eqb-true n.place place (ap (stands_at place) is ∙ e) }

rule_at : (bytes : List ℕ) (place : ℕ) (r : RuleReference) → IsChecked bytes → IsNamedAt bytes place r → IsRuleAt bytes place
rule_at bytes place r checked k =
    let there = is_there bytes r k.n checked k.is in
    record {
      there = ap (has_node bytes) (sym k.at) ∙ ap is_some (is_found bytes (tree_of bytes) k.n checked.spelled there.within);
      rule = ap is_rule (ap (node_in bytes) (sym k.at) ∙ there.node) ∙ there.rule;
    }

some_rule_at : (bytes : List ℕ) (place : ℕ) (refs : List RuleReference) → IsChecked bytes → list_any (names_rule (nodes_of bytes) place) refs ≡ true → IsRuleAt bytes place
some_rule_at bytes place [] checked e = absurd (false≢true e)
some_rule_at bytes place (r ∷ refs) checked e = elim (or_cases (names_rule (nodes_of bytes) place r) (list_any (names_rule (nodes_of bytes) place) refs) e) [
  | inl here ↦ rule_at bytes place r checked (named_at bytes place r (named_by (nodes_of bytes) r) refl here)
  | inr later ↦ some_rule_at bytes place refs checked later
]

-- each place of a set is hit
hit : (k : ℕ) → hits k k ≡ true
hit k = is_eq-nat_cmp k k ∙ eq-eqb k k refl

rules_among_places : (bytes : List ℕ) (places : List ℕ) → ((place : ℕ) → list_any (hits place) places ≡ true → IsRuleAt bytes place) → AreRulesAt bytes places
rules_among_places bytes [] each = tt
rules_among_places bytes (k ∷ places) each =
    (each k (or_left (hits k k) (list_any (hits k) places) (hit k)), rules_among_places bytes places (λ p is. each p (or_right (hits p k) (list_any (hits p) places) is)))

pub are_rules : (bytes : List ℕ) (places : List ℕ) (refs : List RuleReference) → IsChecked bytes → AreNamedBy (nodes_of bytes) places refs → AreRulesAt bytes places
are_rules bytes places refs checked named = rules_among_places bytes places (λ place is. some_rule_at bytes place refs checked (sym (named place) ∙ is))

-- the questions that the rules name by themselves at these places are those that the rules do that are named
one_at : (bytes : List ℕ) (id place : ℕ) (r : RuleReference) → IsChecked bytes → IsNamedAt bytes place r → has_id_at bytes id place ≡ named_has (nodes_of bytes) id r
one_at bytes id place r checked k =
    ap (λ (m : Node). has_own_id id (Some m)) (ap (node_in bytes) (sym k.at) ∙ (is_there bytes r k.n checked k.is).node) ∙ ap (has_own_id id) k.is

place_to_reference : (bytes : List ℕ) (id place : ℕ) (refs : List RuleReference) → IsChecked bytes → list_any (names_rule (nodes_of bytes) place) refs ≡ true → has_id_at bytes id place ≡ true → list_any (named_has (nodes_of bytes) id) refs ≡ true
place_to_reference bytes id place [] checked e has = absurd (false≢true e)
place_to_reference bytes id place (r ∷ refs) checked e has =
    let ns = nodes_of bytes in
    elim (or_cases (names_rule ns place r) (list_any (names_rule ns place) refs) e) [
      | inl here ↦ or_left (named_has ns id r) (list_any (named_has ns id) refs) (sym (one_at bytes id place r checked (named_at bytes place r (named_by ns r) refl here)) ∙ has)
      | inr later ↦ or_right (named_has ns id r) (list_any (named_has ns id) refs) (place_to_reference bytes id place refs checked later has)
    ]

places_to_references : (bytes : List ℕ) (id : ℕ) (places : List ℕ) (refs : List RuleReference) → IsChecked bytes → ((place : ℕ) → list_any (hits place) places ≡ true → list_any (names_rule (nodes_of bytes) place) refs ≡ true)
    → list_any (has_id_at bytes id) places ≡ true → list_any (named_has (nodes_of bytes) id) refs ≡ true
places_to_references bytes id [] refs checked named has = absurd (false≢true has)
places_to_references bytes id (k ∷ places) refs checked named has = elim (or_cases (has_id_at bytes id k) (list_any (has_id_at bytes id) places) has) [
  | inl here ↦ place_to_reference bytes id k refs checked (named k (or_left (hits k k) (list_any (hits k) places) (hit k))) here
  | inr later ↦ places_to_references bytes id places refs checked (λ p is. named p (or_right (hits p k) (list_any (hits p) places) is)) later
]

passes : (test : ℕ → Bool) (q : ℕ) (places : List ℕ) → list_any (hits q) places ≡ true → test q ≡ true → list_any test places ≡ true
passes test q [] e is = absurd (false≢true e)
passes test q (k ∷ places) e is = elim (or_cases (hits q k) (list_any (hits q) places) e) [
  | inl here ↦ or_left (test k) (list_any test places) (ap test (sym (eqb-true q k (sym (is_eq-nat_cmp q k) ∙ here))) ∙ is)
  | inr later ↦ or_right (test k) (list_any test places) (passes test q places later is)
]

named_itself : (bytes : List ℕ) (id : ℕ) (r : RuleReference) (o : Option Node) → o ≡ named_by (nodes_of bytes) r → has_own_id id o ≡ true → (place : ℕ) × IsNamedAt bytes place r
named_itself bytes id r None is e = absurd (false≢true e)
named_itself bytes id r (Some n) is e = (n.place, record { n = n; is = is; at = refl })

references_to_places : (bytes : List ℕ) (id : ℕ) (places : List ℕ) (refs : List RuleReference) → IsChecked bytes → ((place : ℕ) → list_any (names_rule (nodes_of bytes) place) refs ≡ true → list_any (hits place) places ≡ true)
    → list_any (named_has (nodes_of bytes) id) refs ≡ true → list_any (has_id_at bytes id) places ≡ true
references_to_places bytes id places [] checked placed has = absurd (false≢true has)
references_to_places bytes id places (r ∷ refs) checked placed has =
    let ns = nodes_of bytes in
    elim (or_cases (named_has ns id r) (list_any (named_has ns id) refs) has) [
      | inl here ↦
          let k = named_itself bytes id r (named_by ns r) refl here in
          passes (has_id_at bytes id) k.0 places (placed k.0 (or_left (names_rule ns k.0 r) (list_any (names_rule ns k.0) refs) (ap (λ (p : ℕ). names_rule ns p r) (sym k.1.at) ∙ names_it ns r k.1.n k.1.is)))
          (one_at bytes id k.0 r checked k.1 ∙ here)
      | inr later ↦ references_to_places bytes id places refs checked (λ p is. placed p (or_right (names_rule ns p r) (list_any (names_rule ns p) refs) is)) later
    ]

pub at_places : (bytes : List ℕ) (id : ℕ) (places : List ℕ) (refs : List RuleReference) → IsChecked bytes → AreNamedBy (nodes_of bytes) places refs
    → list_any (has_id_at bytes id) places ≡ list_any (named_has (nodes_of bytes) id) refs
at_places bytes id places refs checked named =
    same_test (list_any (has_id_at bytes id) places) (list_any (named_has (nodes_of bytes) id) refs)
    (places_to_references bytes id places refs checked (λ place is. sym (named place) ∙ is))
    (references_to_places bytes id places refs checked (λ place is. named place ∙ is))
