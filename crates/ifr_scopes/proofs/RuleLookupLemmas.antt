-- The rule that was kept for a reference is the one that it names.
use Rattle.std.proofs.Common.{◌≡◌, ℕ, ◌≤◌, true, Option, Some, None, List, [], ◌∷◌, map, refl, sym, ap, ◌∙◌, arith, inl, inr}
use Rattle.std.specs.Prelude.{Contains, is_some, option_map}
use Rattle.std.specs.List.{find}
use Rattle.std.proofs.lemmas.Bool.{cases_Bool}
use Rattle.ifr_opcodes.specs.Forest.{Node}
use Rattle.ifr_opcodes.specs.Reading.{tree_of}
use Rattle.ifr_expr.specs.Meaning.{names}
use Rattle.ifr_expr.specs.code.Rules.{named}
use Rattle.ifr_nodes.specs.Checked.{IsChecked}
use Rattle.ifr_nodes.specs.code.Checked.{node_in, has_node}
use Rattle.ifr_nodes.specs.code.KeptRules.{kept_rule, kept_named}
use Rattle.ifr_nodes.specs.Nodes.{nodes_of, end_of}
use Rattle.ifr_nodes.specs.Rules.{is_rule, as_rule, rule_nodes}
use Rattle.ifr_nodes.specs.declared.rules.KeptRule.{KeptRule}
use Rattle.ifr_scopes.proofs.FormPlaceLemmas.{found}
use Rattle.ifr_nodes.proofs.NamedLemmas.{is_named}
use Rattle.ifr_nodes.proofs.PlaceLemmas.{is_found}
use Rattle.ifr_nodes.proofs.RuleOrderLemmas.{rule_there}
use Rattle.ifr_nodes.proofs.ViewLemmas.{further, node_in_place}

-- the node of the rule that a reference names
abbrev pub named_node : List Node → ℕ → ℕ → Option Node
named_node ns id place = find (λ n. names id place (as_rule n)) ns

record Names (ns : List Node) (id place : ℕ) (kept : KeptRule) : Type 0 where
  node : Node
  within : Contains ns node
  same : kept.place ≡ node.place
  is : named_node ns id place ≡ Some node

its_names : (ns : List Node) (id place : ℕ) (kept : KeptRule) → Some kept ≡ kept_named ns id place → Names ns id place kept
its_names [] id place kept e = absurd cc
its_names (n ∷ earlier) id place kept e = elim (cases_Bool (names id place (as_rule n))) [
  | inl here ↦
      let is : kept ≡ kept_rule earlier n = cc (rw here at e) in
      record { node = n; within = (0, omega arith, refl); same = ap (λ (k : KeptRule). k.place) is; is = rw here refl }
  | inr other ↦
      let k = its_names earlier id place kept (rw other at e) in
      record { node = k.node; within = further n earlier k.node k.within; same = k.same; is = rw other k.is }
]

-- The rule that was found is a node, and the one that is named.
pub record IsFoundRule (bytes : List ℕ) (id place : ℕ) (kept : KeptRule) : Type 0 where
  pub there : has_node bytes kept.place ≡ true
  pub rule : is_rule (node_in bytes kept.place) ≡ true
  pub is : named_node (rule_nodes (nodes_of bytes)) id place ≡ Some (node_in bytes kept.place)

pub found_rule : (bytes : List ℕ) (id place : ℕ) (kept : KeptRule) → IsChecked bytes → Some kept ≡ kept_named (rule_nodes (nodes_of bytes)) id place → IsFoundRule bytes id place kept
found_rule bytes id place kept checked e =
    let k = its_names (rule_nodes (nodes_of bytes)) id place kept e in
    let n = k.node in
    let of_package = rule_there (nodes_of bytes) n k.within in
    let same : node_in bytes kept.place ≡ n = ap (node_in bytes) k.same ∙ node_in_place bytes n checked.spelled of_package.0 in
    record {
      there = ap (has_node bytes) k.same ∙ ap is_some (is_found bytes (tree_of bytes) n checked.spelled of_package.0);
      rule = ap is_rule same ∙ of_package.1;
      is = k.is ∙ ap (λ (m : Node). Some m) (sym same);
    }

pub no_rule_named : (ns : List Node) (id place : ℕ) → None ≡ kept_named ns id place → named_node ns id place ≡ None
no_rule_named [] id place e = refl
no_rule_named (n ∷ earlier) id place e = elim (cases_Bool (names id place (as_rule n))) [
  | inl here ↦ let bad : None ≡ Some (kept_rule earlier n) = rw here at e in absurd cc
  | inr other ↦ rw other (no_rule_named earlier id place (rw other at e))
]

-- it is the rule of that node
named_among : (ns : List Node) (id place : ℕ) → named (map as_rule ns) id place ≡ option_map as_rule (named_node ns id place)
named_among [] id place = refl
named_among (n ∷ earlier) id place = elim (cases_Bool (names id place (as_rule n))) [
  | inl here ↦ rw here refl
  | inr other ↦ rw other (named_among earlier id place)
]

pub named_none : (ns : List Node) (id place : ℕ) → named_node ns id place ≡ None → named (map as_rule ns) id place ≡ None
named_none ns id place e = named_among ns id place ∙ ap (option_map as_rule) e

pub named_some : (ns : List Node) (id place : ℕ) (n : Node) → named_node ns id place ≡ Some n → named (map as_rule ns) id place ≡ Some (as_rule n)
named_some ns id place n e = named_among ns id place ∙ ap (option_map as_rule) e

-- and ends before the reference
pub named_before : (ns : List Node) (id place : ℕ) (n : Node) → named_node ns id place ≡ Some n → end_of n ≤ place
named_before ns id place n e = (is_named id place n (found (λ m. names id place (as_rule m)) ns n e).1).ends
