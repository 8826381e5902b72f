-- The sizes of rules: that of the rule which a reference names, and that no rule of an accepted package is too deep.
use Rattle.std.proofs.Common.{◌≡◌, ℕ, ◌+◌, ◌<◌, ◌≤◌, true, false, eqb, ltb, Some, List, [], ◌∷◌, ◌++◌, append_assoc, length, map, refl, sym, ap, ◌∙◌, subst, arith, inl, inr}
use Rattle.std.specs.Prelude.{Contains, sum}
use Rattle.std.proofs.lemmas.Bool.{cases_Bool, cond-true, cond-false, ltb-false}
use Rattle.std.proofs.lemmas.List.{append-nil}
use Rattle.hii_bytes.specs.declared.cause.Cause.TheVariants.{RuleTooLarge}
use Rattle.ifr_opcodes.specs.declared.codes.TheConstants.{RULE_REF}
use Rattle.ifr_opcodes.specs.Fields.{rule_ref_rule}
use Rattle.ifr_opcodes.specs.Forest.{Mark, Node}
use Rattle.ifr_opcodes.specs.Opcode.{number}
use Rattle.ifr_expr.specs.Meaning.{Rule, names}
use Rattle.ifr_expr.specs.code.Rules.{AreOrdered, named}
use Rattle.ifr_expr.specs.References.{references, references_among}
use Rattle.ifr_expr.specs.Trees.{Tree, post}
use Rattle.ifr_expr.specs.declared.references.RuleReference.{RuleReference}
use Rattle.ifr_expr.proofs.RuleLemmas.{Below, found_by}
use Rattle.ifr_nodes.specs.Accepted.{IsAccepted}
use Rattle.ifr_nodes.specs.Nodes.{nodes_of}
use Rattle.ifr_nodes.specs.ReferenceFaults.{Ranked, ranked}
use Rattle.ifr_nodes.specs.Rules.{is_rule, as_rule, rules_among, rule_sizes, size, size_over, greatest}
use Rattle.ifr_nodes.specs.code.Rules.{rules_of}
use Rattle.ifr_nodes.specs.declared.rules.RuleSize.{RuleSize}
use Rattle.ifr_nodes.proofs.KeptRuleLemmas.{one_rule, no_rule}
use Rattle.ifr_nodes.proofs.ViewLemmas.{further}

-- ---- the rule that a reference names

abbrev sized : ℕ → ℕ → RuleSize
sized d w = record { depth = d; weight = w }

abbrev each : (RuleSize → ℕ) → (ℕ → ℕ → RuleSize) → List RuleReference → List ℕ
each part sizes rs = map (λ r. part (sizes r.id r.place)) rs

each_near : (part : RuleSize → ℕ) (f g : ℕ → ℕ → RuleSize) (ends : ℕ) (ops : List Mark) → ((id place : ℕ) → place < ends → f id place ≡ g id place) → Below ends ops → each part f (references_among ops) ≡ each part g (references_among ops)
each_near part f g ends [] same h = refl
each_near part f g ends (op ∷ ops) same h = elim (cases_Bool (eqb (number op.op) RULE_REF)) [
  | inl is ↦ rw is (ap (λ (k : ℕ). k ∷ each part f (references_among ops)) (ap part (same (rule_ref_rule op.op) op.place h.0)) ∙ ap (λ (l : List ℕ). part (g (rule_ref_rule op.op) op.place) ∷ l) (each_near part f g ends ops same h.1))
  | inr other ↦ rw other (each_near part f g ends ops same h.1)
]

size_near : (f g : ℕ → ℕ → RuleSize) (ends : ℕ) (t : Tree) → ((id place : ℕ) → place < ends → f id place ≡ g id place) → Below ends (post t) → size_over f t ≡ size_over g t
size_near f g ends t same h =
    ap (λ (l : List ℕ). sized (1 + greatest l) (length (post t) + sum (each (λ s. s.weight) f (references t)))) (each_near (λ s. s.depth) f g ends (post t) same h)
    ∙ ap (λ (l : List ℕ). sized (1 + greatest (each (λ s. s.depth) g (references t))) (length (post t) + sum l)) (each_near (λ s. s.weight) f g ends (post t) same h)

size_taken : (r : Rule) (earlier : List Rule) (id place : ℕ) → names id place r ≡ true → rule_sizes (r ∷ earlier) id place ≡ size_over (rule_sizes earlier) r.tree
unfolding rule_sizes
size_taken r earlier id place e = cond-true (names id place r) _ _ e

size_skipped : (r : Rule) (earlier : List Rule) (id place : ℕ) → names id place r ≡ false → rule_sizes (r ∷ earlier) id place ≡ rule_sizes earlier id place
unfolding rule_sizes
size_skipped r earlier id place e = cond-false (names id place r) _ _ e

-- A reference has the size of the rule's expression over all rules.
pub found_size : (rules : List Rule) (id place : ℕ) (r : Rule) → AreOrdered rules → named rules id place ≡ Some r → rule_sizes rules id place ≡ size_over (rule_sizes rules) r.tree
found_size rules id place r o e = found_by size_over rule_sizes size_taken size_skipped size_near rules id place r o e

-- ---- rules that are not too deep

abbrev pub AreShallow : List Rule → Type 0
AreShallow rules = (id place : ℕ) → (rule_sizes rules id place).depth ≤ 16

none_deep : AreShallow []
unfolding rule_sizes
none_deep id place = omega arith

one_more : (r : Rule) (earlier : List Rule) → (size earlier r).depth ≤ 16 → AreShallow earlier → AreShallow (r ∷ earlier)
one_more r earlier own before id place = elim (cases_Bool (names id place r)) [
  | inl is ↦ subst (λ (s : RuleSize). s.depth ≤ 16) (sym (size_taken r earlier id place is)) own
  | inr other ↦ subst (λ (s : RuleSize). s.depth ≤ 16) (sym (size_skipped r earlier id place other)) (before id place)
]

-- no rule among ranked nodes is too deep
abbrev NoneDeep : List Ranked → Type 0
NoneDeep rs = (r : Ranked) → Contains rs r → is_rule r.node ≡ true → (size (rules_among r.before) (as_rule r.node)).depth ≤ 16

shallow_with : (before : List Node) (n : Node) → (is_rule n ≡ true → (size (rules_among before) (as_rule n)).depth ≤ 16) → AreShallow (rules_among before) → AreShallow (rules_among (before ++ n ∷ []))
shallow_with before n own have = elim (cases_Bool (is_rule n)) [
  | inl is ↦ subst (λ (l : List Node). AreShallow (map as_rule l)) (sym (one_rule before n is)) (one_more (as_rule n) (rules_among before) (own is) have)
  | inr other ↦ subst (λ (l : List Node). AreShallow (map as_rule l)) (sym (no_rule before n other)) have
]

all_shallow : (before ns : List Node) → NoneDeep (ranked before ns) → AreShallow (rules_among before) → AreShallow (rules_among (before ++ ns))
all_shallow before [] none have = subst (λ (l : List Node). AreShallow (rules_among l)) (sym (append-nil before)) have
all_shallow before (n ∷ ns) none have =
    let here : Ranked = record { before = before; node = n } in
    let others = ranked (before ++ n ∷ []) ns in
    subst (λ (l : List Node). AreShallow (rules_among l)) (append_assoc before (n ∷ []) ns)
    (all_shallow (before ++ n ∷ []) ns (λ r w. none r (further here others r w)) (shallow_with before n (none here (0, omega arith, refl)) have))

pub are_shallow : (bytes : List ℕ) → IsAccepted bytes → AreShallow (rules_of bytes)
are_shallow bytes accepted = all_shallow [] (nodes_of bytes) none none_deep
  where
    none : NoneDeep (ranked [] (nodes_of bytes))
    none r w is = elim (cases_Bool (ltb 16 (size (rules_among r.before) (as_rule r.node)).depth)) [
      | inl deep ↦ absurd (accepted.referred RuleTooLarge r.node.place (inr (r, w, refl, rw (is, deep) refl)))
      | inr past ↦ ltb-false 16 (size (rules_among r.before) (as_rule r.node)).depth past
    ]
