-- The size of a rule, reference by reference.
use Rattle.std.proofs.Common.{◌≡◌, ℕ, ◌+◌, max, eqb, ltb, Option, Some, None, List, [], ◌∷◌, length, map, refl, sym, ap, ◌∙◌, arith, inl, inr}
use Rattle.std.specs.Prelude.{sum}
use Rattle.std.specs.Ordering.{ord_max, nat_cmp}
use Rattle.std.proofs.lemmas.List.Sums.{sum_by-cons}
use Rattle.std.proofs.lemmas.Bool.{cases_Bool, ltb-true, ltb-false}
use Rattle.ifr_opcodes.specs.Forest.{Node}
use Rattle.ifr_expr.specs.Meaning.{names}
use Rattle.ifr_expr.specs.References.{references}
use Rattle.ifr_expr.specs.Trees.{Tree, post}
use Rattle.ifr_expr.specs.declared.references.RuleReference.{RuleReference}
use Rattle.ifr_nodes.specs.Rules.{as_rule, rule_nodes, rules_among, rule_sizes, greatest}
use Rattle.ifr_nodes.specs.code.RuleNodes.{Descend}
use Rattle.ifr_nodes.specs.code.KeptRules.{AreKeptRules, kept_named}
use Rattle.ifr_nodes.specs.declared.rules.KeptRule.{KeptRule}
use Rattle.ifr_nodes.specs.declared.rules.RuleSize.{RuleSize}
use Rattle.ifr_nodes.specs.declared.rules.RuleTable.{RuleTable}

abbrev pub size_of : Option KeptRule → RuleSize
size_of None = record { depth = 0; weight = 0 }
size_of (Some rule) = rule.size

-- the size of what is named is that of what was kept
pub named_size : (ns : List Node) (id place : ℕ) → rule_sizes (map as_rule ns) id place ≡ size_of (kept_named ns id place)
unfolding rule_sizes
named_size [] id place = refl
named_size (n ∷ earlier) id place = elim (cases_Bool (names id place (as_rule n))) [
  | inl e ↦ rw e refl
  | inr e ↦ rw e (named_size earlier id place)
]

-- the greatest depth and all weights of what references name
abbrev depths : List Node → List RuleReference → ℕ
depths ns rs = greatest (map (λ r. (rule_sizes (rules_among ns) r.id r.place).depth) rs)

abbrev weights : List Node → List RuleReference → ℕ
weights ns rs = sum (map (λ r. (rule_sizes (rules_among ns) r.id r.place).weight) rs)

-- A table knows what references before these add to the size of an expression.
pub record Measures (table : RuleTable) (tree : Tree) (left : List RuleReference) (depth weight : ℕ) : Type 0 where
  pub deep : (ns : List Node) → AreKeptRules ns table → Descend (rule_nodes ns) → max depth (depths ns left) ≡ depths ns (references tree)
  pub heavy : (ns : List Node) → AreKeptRules ns table → Descend (rule_nodes ns) → weight + weights ns left ≡ length (post tree) + weights ns (references tree)

pub measured : (table : RuleTable) (tree : Tree) (old left : List RuleReference) (r : RuleReference) (depth weight : ℕ) (found : Option KeptRule) → old ≡ r ∷ left
    → ((ns : List Node) → AreKeptRules ns table → Descend (rule_nodes ns) → found ≡ kept_named (rule_nodes ns) r.id r.place)
    → Measures table tree old depth weight → Measures table tree left (max depth (size_of found).depth) (weight + (size_of found).weight)
measured table tree old left r depth weight found split told m = record {
  deep = λ ns kept descend.
      let its : rule_sizes (rules_among ns) r.id r.place ≡ size_of found = named_size (rule_nodes ns) r.id r.place ∙ ap size_of (sym (told ns kept descend)) in
      let before = m.deep ns kept descend in
      omega (arith, before, ap (depths ns) split, ap (λ (s : RuleSize). s.depth) its);
  heavy = λ ns kept descend.
      let its : rule_sizes (rules_among ns) r.id r.place ≡ size_of found = named_size (rule_nodes ns) r.id r.place ∙ ap size_of (sym (told ns kept descend)) in
      let before = m.heavy ns kept descend in
      omega (arith, before, ap (weights ns) split, ap (λ (s : RuleSize). s.weight) its, sum_by-cons (λ (x : ℕ). x) (rule_sizes (rules_among ns) r.id r.place).weight (map (λ q. (rule_sizes (rules_among ns) q.id q.place).weight) left));
}

pub greater : (a b : ℕ) → ord_max nat_cmp a b ≡ max a b
greater a b = elim (cases_Bool (ltb b a)) [
  | inl less ↦ let lt = ltb-true b a less in rw less (omega arith)
  | inr past ↦ let le = ltb-false b a past in elim (cases_Bool (eqb b a)) [ inl same ↦ rw (past, same) (omega arith) | inr other ↦ rw (past, other) (omega arith) ]
]
