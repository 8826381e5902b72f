-- The rule that a reference names is the last in the list of its id that ends before it, if its form goes on there.
use Rattle.std.proofs.Common.{◌≡◌, ℕ, zero, suc, ◌-◌, ◌<◌, ◌≤◌, true, eqb, ltb, leb, Option, None, List, [], ◌∷◌, length, get_or, reverse, refl, sym, ap, ◌∙◌, subst, arith, inl, inr}
use Rattle.std.specs.Prelude.{Contains}
use Rattle.std.specs.List.{AllByRecursion, find}
use Rattle.std.specs.List.Sorted.{IsNonDecreasingBy}
use Rattle.std.proofs.lemmas.Bool.{cases_Bool, eqb-true, ltb-true, ltb-false, leb-true}
use Rattle.std.proofs.lemmas.List.{get_or-reverse, length-reverse, reverse-append, reverse-reverse}
use Rattle.std.proofs.lemmas.List.Sorted.{IsNonDecreasingBy-push, IsNonDecreasingBy-short}
use Rattle.std.proofs.lemmas.Map.Entries.{option_filter}
use Rattle.ifr_opcodes.specs.Fields.{rule_id}
use Rattle.ifr_opcodes.specs.Forest.{Node}
use Rattle.ifr_expr.specs.Meaning.{names}
use Rattle.ifr_nodes.specs.Nodes.{end_of}
use Rattle.ifr_nodes.specs.Rules.{as_rule, form_end}
use Rattle.ifr_nodes.specs.code.RuleNodes.{Descend}
use Rattle.ifr_nodes.specs.code.KeptRules.{kept_rule, kept_rules, kept_named}
use Rattle.ifr_nodes.specs.declared.rules.KeptRule.{KeptRule}
use Rattle.ifr_opcodes.proofs.TableLemmas.{and_first, and_second}
use Rattle.ifr_nodes.proofs.ViewLemmas.{further}

-- ---- lists

pub each : {X : Type 0} (P : X → Type 0) (xs : List X) (x : X) → AllByRecursion P xs → Contains xs x → P x
each P [] x all (k, lt, e) = absurd (omega arith)
each P (y ∷ xs) x all (zero, lt, e) = subst P e all.0
each P (y ∷ xs) x all (suc k, lt, e) = each P xs x all.1 (k, omega arith, e)

-- what it means that a rule is named
pub record IsNamed (id place : ℕ) (n : Node) : Type 0 where
  pub same : rule_id n.op ≡ id
  pub ends : end_of n ≤ place
  pub goes_on : place < form_end n.path

pub is_named : (id place : ℕ) (n : Node) → names id place (as_rule n) ≡ true → IsNamed id place n
is_named id place n e =
    let rest = and_second (eqb (rule_id n.op) id) _ e in
    record {
      same = eqb-true (rule_id n.op) id (and_first (eqb (rule_id n.op) id) _ e);
      ends = leb-true (end_of n) place (and_first (leb (end_of n) place) (ltb place (form_end n.path)) rest);
      goes_on = ltb-true place (form_end n.path) (and_second (leb (end_of n) place) (ltb place (form_end n.path)) rest);
    }

-- ---- the last that ends up to a place

pub none_named : (ns : List Node) (id place : ℕ) → ((n : Node) → Contains ns n → IsNamed id place n → ⊥) → kept_named ns id place ≡ None
none_named [] id place none = refl
none_named (n ∷ earlier) id place none = elim (cases_Bool (names id place (as_rule n))) [
  | inl e ↦ absurd (none n (0, omega arith, refl) (is_named id place n e))
  | inr e ↦ rw e (none_named earlier id place (λ m w. none m (further n earlier m w)))
]

-- The last of an id that ends up to a place is named, if its form goes on there.
pub named_last : (ns : List Node) (id place : ℕ) → Descend ns
    → kept_named ns id place ≡ option_filter (λ r. ltb place r.form_ends) (find (λ r. leb r.ends place) (kept_rules id ns))
named_last [] id place d = refl
named_last (n ∷ earlier) id place d =
    let later = named_last earlier id place d.1 in
    elim (cases_Bool (eqb (rule_id n.op) id)) [
      | inl own ↦ elim (cases_Bool (leb (end_of n) place)) [
        | inl passed ↦ elim (cases_Bool (ltb place (form_end n.path))) [
          | inl on ↦ rw (own, passed, on) refl
          | inr off ↦ rw (own, passed, off) (none_named earlier id place (λ m w i. let before = each _ earlier m d.0 w in omega (arith, before.1, i.goes_on, ltb-false place (form_end n.path) off)))
        ]
        | inr ahead ↦ rw (own, ahead) later
      ]
      | inr other ↦ rw other later
    ]

-- ---- the rules of an id end one after the other

first_below : (ns : List Node) (id high : ℕ) (d : KeptRule) → ((q : Node) → Contains ns q → end_of q ≤ high) → 0 < length (kept_rules id ns) → (get_or (kept_rules id ns) 0 d).ends ≤ high
first_below [] id high d below some = absurd (omega arith)
first_below (n ∷ earlier) id high d below some = elim (cases_Bool (eqb (rule_id n.op) id)) [
  | inl own ↦ rw own (below n (0, omega arith, refl))
  | inr other ↦ rw other (first_below earlier id high d (λ q w. below q (further n earlier q w)) (rw other at some))
]

pub ends_rise : (ns : List Node) (id : ℕ) → Descend ns → IsNonDecreasingBy (λ (r : KeptRule). r.ends) (reverse (kept_rules id ns))
ends_rise [] id d = IsNonDecreasingBy-short (λ (r : KeptRule). r.ends) [] (omega arith)
ends_rise (n ∷ earlier) id d = elim (cases_Bool (eqb (rule_id n.op) id)) [
  | inl own ↦
      let those = kept_rules id earlier in
      let same : length (reverse those) ≡ length those = length-reverse those in
      rw own (subst (IsNonDecreasingBy (λ (r : KeptRule). r.ends)) (sym (reverse-append (kept_rule earlier n ∷ []) those))
      (IsNonDecreasingBy-push (λ (r : KeptRule). r.ends) (reverse those) (kept_rule earlier n) (ends_rise earlier id d.1) (λ e some.
      let first : get_or (reverse those) (length (reverse those) - 1) e ≡ get_or those 0 e =
      get_or-reverse those (length (reverse those) - 1) e (omega (arith, some, same)) ∙ ap (λ (k : ℕ). get_or those k e) (omega (arith, some, same)) in
      subst (λ (r : KeptRule). r.ends ≤ end_of n) (sym first) (first_below earlier id (end_of n) e (λ q w. omega (arith, (each _ earlier q d.0 w).0)) (omega (arith, some, same))))))
  | inr other ↦ rw other (ends_rise earlier id d.1)
]

-- what is found in the list of an id
pub named_found : (ns : List Node) (id place : ℕ) (list : List KeptRule) (found : Option KeptRule) → Descend ns → list ≡ reverse (kept_rules id ns)
    → (IsNonDecreasingBy (λ (r : KeptRule). r.ends) list → found ≡ find (λ r. leb r.ends place) (reverse list))
    → kept_named ns id place ≡ option_filter (λ r. ltb place r.form_ends) found
named_found ns id place list found d is told =
    let ended : Option KeptRule → Option KeptRule = option_filter (λ r. ltb place r.form_ends) in
    let there = told (subst (IsNonDecreasingBy (λ (r : KeptRule). r.ends)) (sym is) (ends_rise ns id d)) in
    named_last ns id place d
    ∙ ap (λ (l : List KeptRule). ended (find (λ r. leb r.ends place) l)) (sym (ap reverse is ∙ reverse-reverse (kept_rules id ns)))
    ∙ ap ended (sym there)
