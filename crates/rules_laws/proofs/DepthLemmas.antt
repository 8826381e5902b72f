-- Depth and weight of rules by the rules that their references name, and as the table of the rules has them.
use Rattle.std.proofs.Common.{◌≡◌, ℕ, zero, suc, ◌+◌, ◌<◌, ◌≤◌, true, false, Option, Some, None, List, [], ◌∷◌, ◌++◌, append_assoc, length, map, reverse, refl, sym, ap, ◌∙◌, subst, inl, inr, arith}
use Rattle.std.specs.Prelude.{Contains, filter, sum, option_map, nat_le, nat_lt, ◌&&◌, ◌==◌}
use Rattle.std.specs.List.{AllByRecursion, find}
use Rattle.std.proofs.lemmas.Bool.{cases_Bool, cond-true, cond-false, and_left, and_right, lt-leb}
use Rattle.std.proofs.lemmas.List.{reverse-append}
use Rattle.std.proofs.lemmas.List.Elements.{filter-append, Contains-append_right}
use Rattle.ifr_opcodes.specs.Fields.{rule_id, rule_ref_rule}
use Rattle.ifr_opcodes.specs.Forest.{Node, below}
use Rattle.ifr_opcodes.specs.Reading.{tree_of}
use Rattle.ifr_opcodes.proofs.TableLemmas.{and_first}
use Rattle.ifr_expr.specs.Meaning.{Rule, names}
use Rattle.ifr_expr.specs.References.{references}
use Rattle.ifr_expr.specs.declared.references.RuleReference.{RuleReference}
use Rattle.ifr_nodes.specs.Checked.{IsChecked}
use Rattle.ifr_nodes.specs.Nodes.{nodes_of, end_of}
use Rattle.ifr_nodes.specs.Rules.{is_rule, as_rule, form_end, rule_nodes, rules_among, rule_sizes, size, size_over, greatest}
use Rattle.ifr_nodes.specs.code.RuleNodes.{Descend}
use Rattle.ifr_nodes.specs.code.Rules.{rules_of}
use Rattle.ifr_nodes.specs.declared.rules.RuleSize.{RuleSize}
use Rattle.ifr_nodes.proofs.KeptRuleLemmas.{one_rule}
use Rattle.ifr_nodes.proofs.NamedLemmas.{each}
use Rattle.ifr_scopes.proofs.NamedSizeLemmas.{found_size}
use Rattle.ifr_index.proofs.OptionFacts.{between}
use Rattle.ifr_nodes.proofs.RuleOrderLemmas.{descend_of}
use Rattle.ifr_scopes.proofs.RulesOrderedLemmas.{are_ordered}
use Rattle.ifr_nodes.proofs.ViewLemmas.{below_within, further}
use Rattle.hii_questions.proofs.FieldLemmas.{passing}
use Rattle.rules_laws.specs.laws.Naming.{is_rule_reference, is_nameable, named_rule, references_in, HasDepth, weight, weight_of_named}
use Rattle.rules_laws.proofs.FoundLemmas.{first_or_later, given, gives, map_alike, last_is_there}
use Rattle.rules_laws.proofs.NameableLemmas.{named_by_place}
use Rattle.rules_laws.proofs.TreeLemmas.{reference_at, references_are, how_many}

-- ---- the rules before a rule are enough for its references

-- a rule is not named before its end
not_yet : (id place : ℕ) (q : Node) → place < end_of q → names id place (as_rule q) ≡ false
not_yet id place q lt = and_right (rule_id q.op == id) _ (and_left (nat_le (end_of q) place) (nat_lt place (form_end q.path)) (lt-leb (end_of q) place lt))

-- rules that end later add nothing
skipped : (later earlier : List Node) (id place : ℕ) → AllByRecursion (λ q. place < end_of q) later → rule_sizes (map as_rule (later ++ earlier)) id place ≡ rule_sizes (map as_rule earlier) id place
unfolding rule_sizes
skipped [] earlier id place all = refl
skipped (q ∷ later) earlier id place all = cond-false (names id place (as_rule q)) _ _ (not_yet id place q all.0) ∙ skipped later earlier id place all.1

end_later : (later : List Node) (r : Node) (earlier : List Node) (place : ℕ) → Descend (later ++ r ∷ earlier) → place < end_of r → AllByRecursion (λ q. place < end_of q) later
end_later [] r earlier place d lt = tt
end_later (q ∷ later) r earlier place d lt =
    let above = each _ (later ++ r ∷ earlier) r d.0 (Contains-append_right later (r ∷ earlier) r (0, omega arith, refl)) in
    (omega (arith, above.0, lt), end_later later r earlier place d.1 lt)

rules_split : (before : List Node) (r : Node) (rest : List Node) → is_rule r ≡ true → rule_nodes (before ++ r ∷ rest) ≡ rule_nodes rest ++ r ∷ rule_nodes before
rules_split before r rest is =
    ap rule_nodes (sym (append_assoc before (r ∷ []) rest))
    ∙ ap reverse (filter-append is_rule (before ++ r ∷ []) rest)
    ∙ reverse-append (filter is_rule (before ++ r ∷ [])) (filter is_rule rest)
    ∙ ap (λ (l : List Node). rule_nodes rest ++ l) (one_rule before r is)

-- A rule of a package, with the nodes before it and behind it.
pub record IsRuleAt (bytes : List ℕ) (before : List Node) (r : Node) : Type 0 where
  pub rest : List Node
  pub split : nodes_of bytes ≡ before ++ r ∷ rest
  pub is : is_rule r ≡ true

pub there : (bytes : List ℕ) (before : List Node) (r : Node) → IsRuleAt bytes before r → Contains (nodes_of bytes) r
there bytes before r a = subst (λ (l : List Node). Contains l r) (sym a.split) (Contains-append_right before (r ∷ a.rest) r (0, omega arith, refl))

sizes_before : (bytes : List ℕ) (before : List Node) (r : Node) (id place : ℕ) → IsChecked bytes → IsRuleAt bytes before r → place < end_of r → rule_sizes (rules_among before) id place ≡ rule_sizes (rules_of bytes) id place
sizes_before bytes before r id place checked a lt =
    let parts : rule_nodes (nodes_of bytes) ≡ rule_nodes a.rest ++ r ∷ rule_nodes before = ap rule_nodes a.split ∙ rules_split before r a.rest a.is in
    let later = end_later (rule_nodes a.rest) r (rule_nodes before) place (subst Descend parts (descend_of bytes checked)) lt in
    sym (ap (λ (l : List Node). rule_sizes (map as_rule l) id place) parts
    ∙ skipped (rule_nodes a.rest) (r ∷ rule_nodes before) id place later
    ∙ skipped (r ∷ []) (rule_nodes before) id place (lt, tt))

-- ---- the size of a rule, reference by reference

-- what a reference adds, by the sizes of the rules of an id for a place
abbrev at_reference : (RuleSize → ℕ) → (ℕ → ℕ → RuleSize) → Node → ℕ
at_reference part sizes n = part (sizes (rule_ref_rule n.op) n.place)

abbrev by_references : (RuleSize → ℕ) → (ℕ → ℕ → RuleSize) → Node → List ℕ
by_references part sizes r = map (at_reference part sizes) (references_in r)

twice : {X Y Z : Type 0} (f : Y → Z) (g : X → Y) (xs : List X) → map f (map g xs) ≡ map (λ x. f (g x)) xs
twice f g [] = refl
twice f g (x ∷ xs) = ap (λ l. f (g x) ∷ l) (twice f g xs)

referred : (part : RuleSize → ℕ) (sizes : ℕ → ℕ → RuleSize) (bytes : List ℕ) (r : Node) → IsChecked bytes → Contains (nodes_of bytes) r → is_rule r ≡ true
    → map (λ (q : RuleReference). part (sizes q.id q.place)) (references (as_rule r).tree) ≡ by_references part sizes r
referred part sizes bytes r checked within is =
    ap (map (λ (q : RuleReference). part (sizes q.id q.place))) (references_are bytes r checked within is) ∙ twice (λ (q : RuleReference). part (sizes q.id q.place)) reference_at (references_in r)

abbrev its_depth : RuleSize → ℕ
its_depth s = s.depth

abbrev its_weight : RuleSize → ℕ
its_weight s = s.weight

depth_over : (sizes : ℕ → ℕ → RuleSize) (bytes : List ℕ) (r : Node) → IsChecked bytes → Contains (nodes_of bytes) r → is_rule r ≡ true → (size_over sizes (as_rule r).tree).depth ≡ 1 + greatest (by_references its_depth sizes r)
depth_over sizes bytes r checked within is = ap (λ (l : List ℕ). 1 + greatest l) (referred its_depth sizes bytes r checked within is)

weight_over : (sizes : ℕ → ℕ → RuleSize) (bytes : List ℕ) (r : Node) → IsChecked bytes → Contains (nodes_of bytes) r → is_rule r ≡ true → (size_over sizes (as_rule r).tree).weight ≡ length (below r) + sum (by_references its_weight sizes r)
weight_over sizes bytes r checked within is =
    let many = how_many bytes r checked within is in
    let those = ap sum (referred its_weight sizes bytes r checked within is) in
    omega (arith, many, those)

-- the size of a rule over all rules
abbrev pub whole : List ℕ → Node → RuleSize
whole bytes r = size_over (rule_sizes (rules_of bytes)) (as_rule r).tree

same_references : (part : RuleSize → ℕ) (bytes : List ℕ) (before : List Node) (r : Node) → IsChecked bytes → IsRuleAt bytes before r → by_references part (rule_sizes (rules_among before)) r ≡ by_references part (rule_sizes (rules_of bytes)) r
same_references part bytes before r checked a =
    map_alike (at_reference part (rule_sizes (rules_among before))) (at_reference part (rule_sizes (rules_of bytes))) (references_in r) (λ n w.
    ap part (sizes_before bytes before r (rule_ref_rule n.op) n.place checked a (between bytes r n checked (there bytes before r a) (passing is_rule_reference (below r) n w).0).before))

-- is that over the rules before it
pub depth_before : (bytes : List ℕ) (before : List Node) (r : Node) → IsChecked bytes → IsRuleAt bytes before r → (size (rules_among before) (as_rule r)).depth ≡ (whole bytes r).depth
depth_before bytes before r checked a =
    let within = there bytes before r a in
    depth_over (rule_sizes (rules_among before)) bytes r checked within a.is ∙ ap (λ (l : List ℕ). 1 + greatest l) (same_references its_depth bytes before r checked a) ∙ sym (depth_over (rule_sizes (rules_of bytes)) bytes r checked within a.is)

pub weight_before : (bytes : List ℕ) (before : List Node) (r : Node) → IsChecked bytes → IsRuleAt bytes before r → (size (rules_among before) (as_rule r)).weight ≡ (whole bytes r).weight
weight_before bytes before r checked a =
    let within = there bytes before r a in
    weight_over (rule_sizes (rules_among before)) bytes r checked within a.is ∙ ap (λ (l : List ℕ). length (below r) + sum l) (same_references its_weight bytes before r checked a) ∙ sym (weight_over (rule_sizes (rules_of bytes)) bytes r checked within a.is)

-- ---- the rule that a reference names

none_sized : (rules : List Rule) (id place : ℕ) → find (names id place) rules ≡ None → rule_sizes rules id place ≡ record { depth = 0; weight = 0 }
unfolding rule_sizes
none_sized [] id place e = refl
none_sized (r ∷ earlier) id place e = elim (cases_Bool (names id place r)) [
  | inl is ↦ let bad : Some r ≡ None = sym (cond-true (names id place r) (Some r) (find (names id place) earlier) is) ∙ e in absurd cc
  | inr other ↦ cond-false (names id place r) _ _ other ∙ none_sized earlier id place (sym (cond-false (names id place r) (Some r) (find (names id place) earlier) other) ∙ e)
]

-- the size of what is named
abbrev of_named : List ℕ → Option Node → RuleSize
of_named bytes None = record { depth = 0; weight = 0 }
of_named bytes (Some m) = whole bytes m

named_sized : (bytes : List ℕ) (n : Node) → IsChecked bytes → Contains (nodes_of bytes) n → rule_sizes (rules_of bytes) (rule_ref_rule n.op) n.place ≡ of_named bytes (named_rule (nodes_of bytes) n)
named_sized bytes n checked within = go (named_rule (nodes_of bytes) n) (named_by_place bytes n checked within)
  where
    go : (o : Option Node) → find (names (rule_ref_rule n.op) n.place) (rules_of bytes) ≡ option_map as_rule o → rule_sizes (rules_of bytes) (rule_ref_rule n.op) n.place ≡ of_named bytes o
    go None e = none_sized (rules_of bytes) (rule_ref_rule n.op) n.place e
    go (Some m) e = found_size (rules_of bytes) (rule_ref_rule n.op) n.place (as_rule m) (are_ordered bytes checked) e

-- it is a rule of the package
pub named_is_rule : (bytes : List ℕ) (n m : Node) → named_rule (nodes_of bytes) n ≡ Some m → Contains (nodes_of bytes) m × (is_rule m ≡ true)
named_is_rule bytes n m e =
    let its = passing (is_nameable n) (nodes_of bytes) m (last_is_there (filter (is_nameable n) (nodes_of bytes)) m e) in
    (its.0, and_first (is_rule m) (rule_id m.op == rule_ref_rule n.op) (and_first (is_rule m && rule_id m.op == rule_ref_rule n.op) _ its.1))

reference_there : (bytes : List ℕ) (r n : Node) → Contains (nodes_of bytes) r → Contains (references_in r) n → Contains (nodes_of bytes) n
reference_there bytes r n within w = below_within (tree_of bytes) 4 [] r n within (passing is_rule_reference (below r) n w).0

-- what the references of a rule add is what the rules that they name have
abbrev by_named : (RuleSize → ℕ) → List ℕ → Node → ℕ
by_named part bytes n = part (of_named bytes (named_rule (nodes_of bytes) n))

named_references : (part : RuleSize → ℕ) (bytes : List ℕ) (r : Node) → IsChecked bytes → Contains (nodes_of bytes) r → by_references part (rule_sizes (rules_of bytes)) r ≡ map (by_named part bytes) (references_in r)
named_references part bytes r checked within =
    map_alike (at_reference part (rule_sizes (rules_of bytes))) (by_named part bytes) (references_in r) (λ n w. ap part (named_sized bytes n checked (reference_there bytes r n within w)))

whole_depth : (bytes : List ℕ) (r : Node) → IsChecked bytes → Contains (nodes_of bytes) r → is_rule r ≡ true → (whole bytes r).depth ≡ 1 + greatest (map (by_named its_depth bytes) (references_in r))
whole_depth bytes r checked within is = depth_over (rule_sizes (rules_of bytes)) bytes r checked within is ∙ ap (λ (l : List ℕ). 1 + greatest l) (named_references its_depth bytes r checked within)

whole_weight : (bytes : List ℕ) (r : Node) → IsChecked bytes → Contains (nodes_of bytes) r → is_rule r ≡ true → (whole bytes r).weight ≡ length (below r) + sum (map (by_named its_weight bytes) (references_in r))
whole_weight bytes r checked within is = weight_over (rule_sizes (rules_of bytes)) bytes r checked within is ∙ ap (λ (l : List ℕ). length (below r) + sum l) (named_references its_weight bytes r checked within)

-- ---- depth

up_to : (k : ℕ) (xs : List ℕ) → ((x : ℕ) → Contains xs x → x ≤ k) → greatest xs ≤ k
up_to k [] all = omega arith
up_to k (x ∷ xs) all =
    let own = all x (0, omega arith, refl) in
    let rest = up_to k xs (λ y w. all y (further x xs y w)) in
    omega arith

under_greatest : (xs : List ℕ) (x : ℕ) → Contains xs x → x ≤ greatest xs
under_greatest [] x (k, lt, e) = absurd (omega arith)
under_greatest (y ∷ xs) x w = elim (first_or_later y xs x w) [ inl e ↦ omega arith | inr later ↦ omega (arith, under_greatest xs x later) ]

pub depth_has : (bytes : List ℕ) (k : ℕ) (r : Node) → IsChecked bytes → Contains (nodes_of bytes) r → is_rule r ≡ true → (whole bytes r).depth ≤ k → HasDepth (nodes_of bytes) k r
depth_has bytes zero r checked within is le = omega (arith, le, whole_depth bytes r checked within is)
depth_has bytes (suc k) r checked within is le = λ n m w e.
    let there = named_is_rule bytes n m e in
    let its : by_named its_depth bytes n ≡ (whole bytes m).depth = ap (λ (o : Option Node). (of_named bytes o).depth) e in
    let under = under_greatest (map (by_named its_depth bytes) (references_in r)) (by_named its_depth bytes n) (gives (by_named its_depth bytes) (references_in r) n w) in
    depth_has bytes k m checked there.0 there.1 (omega (arith, le, whole_depth bytes r checked within is, its, under))

-- what is named is no deeper than each rule of some depth
named_up_to : (bytes : List ℕ) (k : ℕ) (r n : Node) → ((m : Node) → Contains (nodes_of bytes) m → is_rule m ≡ true → HasDepth (nodes_of bytes) k m → (whole bytes m).depth ≤ k)
    → HasDepth (nodes_of bytes) (suc k) r → Contains (references_in r) n → (o : Option Node) → named_rule (nodes_of bytes) n ≡ o → (of_named bytes o).depth ≤ k
named_up_to bytes k r n each h w None e = omega arith
named_up_to bytes k r n each h w (Some m) e = let there = named_is_rule bytes n m e in each m there.0 there.1 (h n m w e)

pub has_depth : (bytes : List ℕ) (k : ℕ) (r : Node) → IsChecked bytes → Contains (nodes_of bytes) r → is_rule r ≡ true → HasDepth (nodes_of bytes) k r → (whole bytes r).depth ≤ k
has_depth bytes zero r checked within is h = absurd h
has_depth bytes (suc k) r checked within is h =
    let each = λ (m : Node) (v : Contains (nodes_of bytes) m) (rule : is_rule m ≡ true) (d : HasDepth (nodes_of bytes) k m). has_depth bytes k m checked v rule d in
    let all = up_to k (map (by_named its_depth bytes) (references_in r)) (λ x w.
    let from = given (by_named its_depth bytes) (references_in r) x w in
    subst (λ (d : ℕ). d ≤ k) from.2 (named_up_to bytes k r from.0 each h from.1 (named_rule (nodes_of bytes) from.0) refl)) in
    omega (arith, all, whole_depth bytes r checked within is)

-- ---- weight

named_weight : (bytes : List ℕ) (k : ℕ) (r n : Node) → ((m : Node) → Contains (nodes_of bytes) m → is_rule m ≡ true → HasDepth (nodes_of bytes) k m → weight (nodes_of bytes) k m ≡ (whole bytes m).weight)
    → HasDepth (nodes_of bytes) (suc k) r → Contains (references_in r) n → (o : Option Node) → named_rule (nodes_of bytes) n ≡ o → weight_of_named (weight (nodes_of bytes) k) o ≡ (of_named bytes o).weight
named_weight bytes k r n each h w None e = refl
named_weight bytes k r n each h w (Some m) e = let there = named_is_rule bytes n m e in each m there.0 there.1 (h n m w e)

pub weight_is : (bytes : List ℕ) (k : ℕ) (r : Node) → IsChecked bytes → Contains (nodes_of bytes) r → is_rule r ≡ true → HasDepth (nodes_of bytes) k r → weight (nodes_of bytes) k r ≡ (whole bytes r).weight
weight_is bytes zero r checked within is h = absurd h
weight_is bytes (suc k) r checked within is h =
    let each = λ (m : Node) (v : Contains (nodes_of bytes) m) (rule : is_rule m ≡ true) (d : HasDepth (nodes_of bytes) k m). weight_is bytes k m checked v rule d in
    ap (λ (l : List ℕ). length (below r) + sum l)
    (map_alike (λ (n : Node). weight_of_named (weight (nodes_of bytes) k) (named_rule (nodes_of bytes) n)) (by_named its_weight bytes) (references_in r) (λ n w.
    named_weight bytes k r n each h w (named_rule (nodes_of bytes) n) refl))
    ∙ sym (whole_weight bytes r checked within is)
