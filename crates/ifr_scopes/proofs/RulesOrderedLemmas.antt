-- The rules of a package are ordered, each with the places of its expression's opcodes.
use Rattle.std.proofs.Common.{◌≡◌, ℕ, zero, suc, ◌+◌, ◌-◌, ◌<◌, ◌≤◌, true, Option, Some, None, List, [], ◌∷◌, ◌++◌, length, drop, map, refl, sym, ap, subst, arith}
use Rattle.std.specs.Prelude.{Contains}
use Rattle.std.proofs.lemmas.List.{length-take}
use Rattle.std.specs.List.{AllByRecursion}
use Rattle.ifr_opcodes.specs.Forest.{Forest, none, node, flat, AreNodes, Mark, Node}
use Rattle.ifr_opcodes.proofs.ForestLemmas.{takes}
use Rattle.ifr_expr.specs.Meaning.{Rule}
use Rattle.ifr_expr.specs.code.Rules.{AreOrdered}
use Rattle.ifr_expr.specs.Reading.{over, trees_of, first_tree, tree_of_opcodes}
use Rattle.ifr_expr.specs.Trees.{Tree, post, siblings, expression}
use Rattle.ifr_expr.specs.Trees as trees
use Rattle.ifr_nodes.specs.Checked.{IsChecked}
use Rattle.ifr_nodes.specs.Nodes.{nodes_of, end_of}
use Rattle.ifr_nodes.specs.Rules.{is_rule, as_rule, rule_nodes, expression_place, form_end}
use Rattle.ifr_nodes.specs.code.Rules.{rules_of}
use Rattle.ifr_nodes.specs.code.RuleNodes.{Descend}
use Rattle.ifr_nodes.proofs.RuleExpressionLemmas.{holds}
use Rattle.ifr_nodes.proofs.RuleOrderLemmas.{descend_of, rule_there}
use Rattle.ifr_nodes.proofs.ViewLemmas.{further}

-- ---- places in an expression

abbrev Below : ℕ → List Mark → Type 0
Below to ops = AllByRecursion (λ (op : Mark). op.place < to) ops

abbrev AllBelow : ℕ → List Tree → Type 0
AllBelow to ts = AllByRecursion (λ (t : Tree). Below to (post t)) ts

below_append : (to : ℕ) (xs ys : List Mark) → Below to xs → Below to ys → Below to (xs ++ ys)
below_append to [] ys u v = v
below_append to (x ∷ xs) ys u v = (u.0, below_append to xs ys u.1 v)

over_below : (to : ℕ) (n : Option ℕ) (op : Mark) (ts : List Tree) → op.place < to → AllBelow to ts → AllBelow to (over n op ts)
over_below to None op ts u all = all
over_below to (Some zero) op ts u all = ((u, tt), all)
over_below to (Some (suc zero)) op [] u all = all
over_below to (Some (suc zero)) op (t ∷ ts) u all = (below_append to (post t) (op ∷ []) all.0 (u, tt), all.1)
over_below to (Some (suc (suc n))) op [] u all = all
over_below to (Some (suc (suc n))) op (right ∷ []) u all = all
over_below to (Some (suc (suc n))) op (right ∷ left ∷ ts) u all =
    (below_append to (post left) (post right ++ op ∷ []) all.1.0 (below_append to (post right) (op ∷ []) all.0 (u, tt)), all.1.1)

trees_below : (to : ℕ) (ts : List Tree) (ops : List Mark) → AllBelow to ts → Below to ops → AllBelow to (trees_of ts ops)
unfolding trees_of
trees_below to ts [] all below = all
trees_below to ts (op ∷ ops) all below = trees_below to (over (trees.takes op) op ts) ops (over_below to (trees.takes op) op ts below.0 all) below.1

first_below : (to : ℕ) (ts : List Tree) → 0 < to → AllBelow to ts → Below to (post (first_tree ts))
first_below to [] some all = (some, tt)
first_below to (t ∷ ts) some all = all.0

tree_below : (to : ℕ) (ops : List Mark) → 0 < to → Below to ops → Below to (post (tree_of_opcodes ops))
unfolding tree_of_opcodes
tree_below to ops some below = first_below to (trees_of [] ops) some (trees_below to [] ops tt below)

siblings_below : (to at : ℕ) (f : Forest) → AreNodes f → at + length (flat f) ≤ to → Below to (siblings at f)
siblings_below to at none h le = tt
siblings_below to at (node op children rest) h le =
    let size = takes op children rest h in
    let long : 2 ≤ length op = h.0.whole.long in
    (omega (arith, size.0, size.1), siblings_below to (at + length (flat (node op children none))) rest h.1.1 (omega (arith, size.1)))

-- the opcodes of a rule's expression stand before the rule's end
rule_below : (bytes : List ℕ) (n : Node) → IsChecked bytes → Contains (nodes_of bytes) n → is_rule n ≡ true → Below (end_of n) (post (as_rule n).tree)
rule_below bytes n checked within is =
    let h = holds bytes n checked within is in
    let from : ℕ = expression_place n in
    let size = takes h.op h.inner none h.are_nodes in
    let long : 2 ≤ length h.op = h.are_nodes.0.whole.long in
    let all : from + length (flat (node h.op h.inner none)) ≤ end_of n = omega (arith, h.ends, h.ordered, ap (λ (l : List ℕ). length l) h.bytes_there, length-take (end_of n - 2 - from) (drop from bytes)) in
    let below : Below (end_of n) (expression from h.op h.inner) = (omega (arith, all, size.0), siblings_below (end_of n) (from + length h.op) h.inner h.are_nodes.1.0 (omega (arith, all, size.0))) in
    subst (λ (t : Tree). Below (end_of n) (post t)) (sym h.tree) (tree_below (end_of n) (expression from h.op h.inner) (omega (arith, h.ends)) below)

earlier_end : (n : Node) (ns : List Node) → AllByRecursion (λ q. (end_of q < end_of n) × (form_end q.path ≤ form_end n.path)) ns → AllByRecursion (λ (q : Rule). q.ends ≤ end_of n) (map as_rule ns)
earlier_end n [] all = tt
earlier_end n (q ∷ ns) all = (omega (arith, all.0.0), earlier_end n ns all.1)

ordered : (ns : List Node) → Descend ns → ((n : Node) → Contains ns n → Below (end_of n) (post (as_rule n).tree)) → AreOrdered (map as_rule ns)
ordered [] d below = tt
ordered (n ∷ ns) d below = (below n (0, omega arith, refl), (earlier_end n ns d.0, ordered ns d.1 (λ m w. below m (further n ns m w))))

pub are_ordered : (bytes : List ℕ) → IsChecked bytes → AreOrdered (rules_of bytes)
are_ordered bytes checked = ordered (rule_nodes (nodes_of bytes)) (descend_of bytes checked) (λ n w.
    let there = rule_there (nodes_of bytes) n w in
    rule_below bytes n checked there.0 there.1)
