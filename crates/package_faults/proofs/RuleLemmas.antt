-- Rules that were met: the one that a reference names, and the size of one that is next.
use Rattle.std.proofs.Common.{◌≡◌, ℕ, ◌+◌, ◌<◌, min, max, Bool, false, leb, ltb, Option, Some, None, List, [], ◌∷◌, ◌++◌, length, map, reverse, refl, sym, ap, subst, ◌∙◌, arith, inl, inr}
use Rattle.std.specs.Prelude.{option_map, sum}
use Rattle.std.specs.List.{find}
use Rattle.std.specs.List.Sorted.{IsNonDecreasingBy}
use Rattle.std.proofs.lemmas.Bool.{cases_Bool}
use Rattle.std.proofs.lemmas.List.{get_or-map, length-map, map-append, reverse-append, reverse-reverse}
use Rattle.std.proofs.lemmas.List.Sums.{sum_by-cons}
use Rattle.std.proofs.lemmas.Map.Entries.{option_filter}
use Rattle.ifr_opcodes.specs.Forest.{Node}
use Rattle.ifr_expr.specs.References.{references}
use Rattle.ifr_expr.specs.Trees.{Tree, post}
use Rattle.ifr_expr.specs.declared.references.RuleReference.{RuleReference}
use Rattle.ifr_nodes.specs.Rules.{greatest, is_rule, rule_nodes, rule_sizes, rules_among}
use Rattle.ifr_nodes.specs.code.KeptRules.{kept_named, kept_rules}
use Rattle.ifr_nodes.specs.code.RuleNodes.{Descend}
use Rattle.ifr_nodes.specs.declared.rules.KeptRule.{KeptRule}
use Rattle.ifr_nodes.specs.declared.rules.RuleSize.{RuleSize}
use Rattle.ifr_nodes.proofs.KeptRuleLemmas.{no_rule}
use Rattle.ifr_nodes.proofs.NamedLemmas.{ends_rise, named_last}
use Rattle.ifr_nodes.proofs.SizeLemmas.{named_size, size_of}
use Rattle.package_faults.specs.code.MetRules.{AreMetRules, capped_rule}
use Rattle.package_faults.specs.declared.met_rules.MetRules.{MetRules}

-- ---- the rule that a reference names

found_mapped : {X Y : Type 0} (f : X → Y) (p : Y → Bool) (xs : List X) → find p (map f xs) ≡ option_map f (find (λ x. p (f x)) xs)
found_mapped f p [] = refl
found_mapped f p (x ∷ xs) = elim (cases_Bool (p (f x))) [
  | inl here ↦ rw here refl
  | inr other ↦ rw other (found_mapped f p xs)
]

map_reverse : {X Y : Type 0} (f : X → Y) (xs : List X) → map f (reverse xs) ≡ reverse (map f xs)
map_reverse f [] = refl
map_reverse f (x ∷ xs) =
    ap (map f) (reverse-append (x ∷ []) xs) ∙ map-append f (reverse xs) (x ∷ []) ∙ ap (λ l. l ++ f x ∷ []) (map_reverse f xs) ∙ sym (reverse-append (f x ∷ []) (map f xs))

-- capped sizes do not change the order
capped_rise : (xs : List KeptRule) → IsNonDecreasingBy (λ (r : KeptRule). r.ends) xs → IsNonDecreasingBy (λ (r : KeptRule). r.ends) (map capped_rule xs)
capped_rise xs rise = λ i j d le lt.
    let inside : j < length xs = omega (arith, lt, length-map xs capped_rule) in
    let before : i < length xs = omega (arith, le, inside) in
    omega (arith, ap (λ (r : KeptRule). r.ends) (get_or-map capped_rule xs i d d before), ap (λ (r : KeptRule). r.ends) (get_or-map capped_rule xs j d d inside), rise i j d le inside)

-- a rule whose form goes on at a place
abbrev pub going_on : ℕ → Option KeptRule → Option KeptRule
going_on place found = option_filter (λ (r : KeptRule). ltb place r.form_ends) found

on_capped : (place : ℕ) (o : Option KeptRule) → going_on place (option_map capped_rule o) ≡ option_map capped_rule (going_on place o)
on_capped place None = refl
on_capped place (Some r) = elim (cases_Bool (ltb place r.form_ends)) [ inl on ↦ rw on refl | inr off ↦ rw off refl ]

-- what the last that ended tells
pub named_is : (ns : List Node) (id place : ℕ) (list : List KeptRule) (found : Option KeptRule) → Descend ns → list ≡ map capped_rule (reverse (kept_rules id ns))
    → (IsNonDecreasingBy (λ (r : KeptRule). r.ends) list → found ≡ find (λ r. leb r.ends place) (reverse list)) → going_on place found ≡ option_map capped_rule (kept_named ns id place)
named_is ns id place list found d is told =
    let those = kept_rules id ns in
    let there = told (subst (IsNonDecreasingBy (λ (r : KeptRule). r.ends)) (sym is) (capped_rise (reverse those) (ends_rise ns id d))) in
    let seen : reverse list ≡ map capped_rule those = ap reverse is ∙ sym (map_reverse capped_rule (reverse those)) ∙ ap (map capped_rule) (reverse-reverse those) in
    ap (going_on place) (there ∙ ap (find (λ r. leb r.ends place)) seen ∙ found_mapped capped_rule (λ r. leb r.ends place) those)
    ∙ on_capped place (find (λ r. leb r.ends place) those) ∙ ap (option_map capped_rule) (sym (named_last ns id place d))

-- ---- the size of a rule, reference by reference

abbrev depths : List Node → List RuleReference → ℕ
depths ns rs = greatest (map (λ r. (rule_sizes (rules_among ns) r.id r.place).depth) rs)

abbrev weights : List Node → List RuleReference → ℕ
weights ns rs = sum (map (λ r. (rule_sizes (rules_among ns) r.id r.place).weight) rs)

-- A table knows what references before these add to the size of an expression, as far as it is not too large.
pub record Measures (table : MetRules) (tree : Tree) (left : List RuleReference) (depth weight : ℕ) : Type 0 where
  pub deep : (ns : List Node) → AreMetRules ns table → Descend (rule_nodes ns) → min 17 (1 + max depth (depths ns left)) ≡ min 17 (1 + depths ns (references tree))
  pub heavy : (ns : List Node) → AreMetRules ns table → Descend (rule_nodes ns) → min 4097 (weight + weights ns left) ≡ min 4097 (length (post tree) + weights ns (references tree))

abbrev pub depth_of : Option KeptRule → ℕ
depth_of found = (size_of found).depth

abbrev pub weight_of : Option KeptRule → ℕ
weight_of found = (size_of found).weight

capped_depth : (o : Option KeptRule) → depth_of (option_map capped_rule o) ≡ min 17 (depth_of o)
capped_depth None = refl
capped_depth (Some r) = refl

capped_weight : (o : Option KeptRule) → weight_of (option_map capped_rule o) ≡ min 4097 (weight_of o)
capped_weight None = refl
capped_weight (Some r) = refl

pub measured : (table : MetRules) (tree : Tree) (old left : List RuleReference) (r : RuleReference) (depth weight : ℕ) (found : Option KeptRule) → old ≡ r ∷ left
    → ((ns : List Node) → AreMetRules ns table → Descend (rule_nodes ns) → found ≡ option_map capped_rule (kept_named (rule_nodes ns) r.id r.place))
    → Measures table tree old depth weight → Measures table tree left (max depth (depth_of found)) (min 4097 (weight + weight_of found))
measured table tree old left r depth weight found split told m = record {
  deep = λ ns kept descend.
      let named = kept_named (rule_nodes ns) r.id r.place in
      let its : (rule_sizes (rules_among ns) r.id r.place).depth ≡ depth_of named = ap (λ (s : RuleSize). s.depth) (named_size (rule_nodes ns) r.id r.place) in
      let own : depth_of found ≡ min 17 (depth_of named) = ap depth_of (told ns kept descend) ∙ capped_depth named in
      let before = m.deep ns kept descend in
      omega (arith, before, ap (depths ns) split, its, own);
  heavy = λ ns kept descend.
      let named = kept_named (rule_nodes ns) r.id r.place in
      let its : (rule_sizes (rules_among ns) r.id r.place).weight ≡ weight_of named = ap (λ (s : RuleSize). s.weight) (named_size (rule_nodes ns) r.id r.place) in
      let own : weight_of found ≡ min 4097 (weight_of named) = ap weight_of (told ns kept descend) ∙ capped_weight named in
      let before = m.heavy ns kept descend in
      omega (arith, before, ap (weights ns) split, its, own, sum_by-cons (λ (x : ℕ). x) (rule_sizes (rules_among ns) r.id r.place).weight (map (λ q. (rule_sizes (rules_among ns) q.id q.place).weight) left));
}

-- ---- one node more

pub rules_stay : (before : List Node) (n : Node) (table : MetRules) → is_rule n ≡ false → AreMetRules before table → AreMetRules (before ++ n ∷ []) table
rules_stay before n table other kept = λ id. kept id ∙ ap (λ (l : List Node). map capped_rule (reverse (kept_rules id l))) (sym (no_rule before n other))
