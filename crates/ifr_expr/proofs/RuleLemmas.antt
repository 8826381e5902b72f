-- The value of the rule that a reference names.
use Rattle.std.proofs.Common.{◌≡◌, ℕ, ◌≤◌, ◌<◌, Bool, true, false, Option, Some, None, List, [], ◌∷◌, ◌++◌, refl, sym, ap, subst, ◌∙◌, arith, inl, inr}
use Rattle.std.specs.List.{AllByRecursion}
use Rattle.std.specs.Prelude.{◌==◌, nat_lt, ◌&&◌, option_map}
use Rattle.std.proofs.lemmas.Bool.{cases_Bool, cond-true, cond-false, lt-leb}
use Rattle.ifr_opcodes.specs.declared.codes.TheConstants.{RULE_REF}
use Rattle.ifr_opcodes.specs.Opcode.{number}
use Rattle.ifr_opcodes.specs.Fields.{rule_ref_rule}
use Rattle.ifr_opcodes.specs.Forest.{Mark}
use Rattle.ifr_expr.specs.Meaning.{leaf_value, value_over, Rule, names, rule_values, value}
use Rattle.ifr_expr.specs.code.Rules.{named, AreOrdered}
use Rattle.ifr_expr.specs.Trees.{Tree, leaf, one, two, post}
use Rattle.ifr_expr.specs.Values.{Value, undefined, unary_value, binary_value}

abbrev pub Below : ℕ → List Mark → Type 0
Below ends marks = AllByRecursion (λ op. op.place < ends) marks

front_below : (ends : ℕ) (xs ys : List Mark) → Below ends (xs ++ ys) → Below ends xs
front_below ends [] ys h = tt
front_below ends (x ∷ xs) ys h = (h.0, front_below ends xs ys h.1)

back_below : (ends : ℕ) (xs ys : List Mark) → Below ends (xs ++ ys) → Below ends ys
back_below ends [] ys h = h
back_below ends (x ∷ xs) ys h = back_below ends xs ys h.1

more_below : (low high : ℕ) (xs : List Mark) → low ≤ high → Below low xs → Below high xs
more_below low high [] le h = tt
more_below low high (x ∷ xs) le h = (omega (arith, h.0), more_below low high xs le h.1)

-- ---- a tree asks for the rules at the places of its opcodes alone

leaf_same : (f g : ℕ → ℕ → Value) (answers : ℕ → Value) (this : ℕ) (op : Mark) → f (rule_ref_rule op.op) op.place ≡ g (rule_ref_rule op.op) op.place → leaf_value f answers this op ≡ leaf_value g answers this op
unfolding leaf_value
leaf_same f g answers this op e = ap (λ (v : Value). leaf_value (λ _ _. v) answers this op) e

value_same : (f g : ℕ → ℕ → Value) (answers : ℕ → Value) (this ends : ℕ) (t : Tree) → ((id place : ℕ) → place < ends → f id place ≡ g id place) → Below ends (post t) → value_over f answers this t ≡ value_over g answers this t
value_same f g answers this ends (leaf op) same h = leaf_same f g answers this op (same (rule_ref_rule op.op) op.place h.0)
value_same f g answers this ends (one op operand) same h = ap (unary_value (number op.op)) (value_same f g answers this ends operand same (front_below ends (post operand) (op ∷ []) h))
value_same f g answers this ends (two op left right) same h =
    let behind : Below ends (post right ++ op ∷ []) = back_below ends (post left) (post right ++ op ∷ []) h in
    ap (λ (v : Value). binary_value (number op.op) v (value_over f answers this right)) (value_same f g answers this ends left same (front_below ends (post left) (post right ++ op ∷ []) h))
    ∙ ap (binary_value (number op.op) (value_over g answers this left)) (value_same f g answers this ends right same (front_below ends (post right) (op ∷ []) behind))

-- ---- the rules from the latest on

taken : (r : Rule) (earlier : List Rule) (answers : ℕ → Value) (id place : ℕ) → names id place r ≡ true → rule_values (r ∷ earlier) answers id place ≡ value_over (rule_values earlier answers) answers 0 r.tree
unfolding rule_values
taken r earlier answers id place e = cond-true (names id place r) _ _ e

skipped : (r : Rule) (earlier : List Rule) (answers : ℕ → Value) (id place : ℕ) → names id place r ≡ false → rule_values (r ∷ earlier) answers id place ≡ rule_values earlier answers id place
unfolding rule_values
skipped r earlier answers id place e = cond-false (names id place r) _ _ e

no_rules : (answers : ℕ → Value) (id place : ℕ) → rule_values [] answers id place ≡ undefined
unfolding rule_values
no_rules answers id place = refl

both_false : (a c : Bool) → (a && (false && c)) ≡ false
both_false true c = refl
both_false false c = refl

-- a rule is not named before its end
not_yet : (r : Rule) (id place : ℕ) → place < r.ends → names id place r ≡ false
not_yet r id place lt = ap (λ (b : Bool). (r.id == id) && (b && nat_lt place r.form_ends)) (lt-leb r.ends place lt) ∙ both_false (r.id == id) (nat_lt place r.form_ends)

some_same : (x y : Rule) → Some x ≡ Some y → x ≡ y
some_same x y e = cc

found_below : (rules : List Rule) (id place ends : ℕ) (r : Rule) → AreOrdered rules → AllByRecursion (λ q. q.ends ≤ ends) rules → named rules id place ≡ Some r → Below ends (post r.tree)
found_below [] id place ends r o h e = absurd cc
found_below (q ∷ earlier) id place ends r o h e = elim (cases_Bool (names id place q)) [
  | inl is ↦ subst (λ (x : Rule). Below ends (post x.tree)) (some_same q r (sym (cond-true (names id place q) (Some q) (named earlier id place) is) ∙ e)) (more_below q.ends ends (post q.tree) h.0 o.0)
  | inr is ↦ found_below earlier id place ends r o.1.1 h.1 (sym (cond-false (names id place q) (Some q) (named earlier id place) is) ∙ e)
]

-- What is told of references by rules, from the latest on: of the first rule that is named what its tree tells, over the rules
-- before it. A tree asks for the rules at the places of its opcodes alone, so it tells the same over all rules.
module _ {X : Type 0} (over : (ℕ → ℕ → X) → Tree → X) (told : List Rule → ℕ → ℕ → X)
    (takes : (r : Rule) (earlier : List Rule) (id place : ℕ) → names id place r ≡ true → told (r ∷ earlier) id place ≡ over (told earlier) r.tree)
    (skips : (r : Rule) (earlier : List Rule) (id place : ℕ) → names id place r ≡ false → told (r ∷ earlier) id place ≡ told earlier id place)
    (asks : (f g : ℕ → ℕ → X) (ends : ℕ) (t : Tree) → ((id place : ℕ) → place < ends → f id place ≡ g id place) → Below ends (post t) → over f t ≡ over g t) where
  -- a tree that stands before the end of the latest rule
  as_before : (r : Rule) (earlier : List Rule) (t : Tree) → Below r.ends (post t) → over (told (r ∷ earlier)) t ≡ over (told earlier) t
  as_before r earlier t h = asks (told (r ∷ earlier)) (told earlier) r.ends t (λ id place lt. skips r earlier id place (not_yet r id place lt)) h

  pub found_by : (rules : List Rule) (id place : ℕ) (r : Rule) → AreOrdered rules → named rules id place ≡ Some r → told rules id place ≡ over (told rules) r.tree
  found_by [] id place r o e = absurd cc
  found_by (q ∷ earlier) id place r o e = elim (cases_Bool (names id place q)) [
    | inl is ↦
        takes q earlier id place is
        ∙ sym (as_before q earlier q.tree o.0)
        ∙ ap (λ (x : Rule). over (told (q ∷ earlier)) x.tree) (some_same q r (sym (cond-true (names id place q) (Some q) (named earlier id place) is) ∙ e))
    | inr is ↦
        let found : named earlier id place ≡ Some r = sym (cond-false (names id place q) (Some q) (named earlier id place) is) ∙ e in
        skips q earlier id place is
        ∙ found_by earlier id place r o.1.1 found
        ∙ sym (as_before q earlier r.tree (found_below earlier id place q.ends r o.1.1 o.1.0 found))
  ]

pub found_value : (rules : List Rule) (answers : ℕ → Value) (id place : ℕ) (r : Rule) → AreOrdered rules → named rules id place ≡ Some r → rule_values rules answers id place ≡ value rules answers 0 r.tree
found_value rules answers id place r o e =
    found_by (λ f t. value_over f answers 0 t) (λ rs. rule_values rs answers) (λ q earlier i at is. taken q earlier answers i at is) (λ q earlier i at is. skipped q earlier answers i at is)
    (λ f g ends t same h. value_same f g answers 0 ends t same h) rules id place r o e

none_value : (rules : List Rule) (answers : ℕ → Value) (id place : ℕ) → named rules id place ≡ None → rule_values rules answers id place ≡ undefined
none_value [] answers id place e = no_rules answers id place
none_value (q ∷ earlier) answers id place e = elim (cases_Bool (names id place q)) [
  | inl is ↦ let bad : Some q ≡ None = sym (cond-true (names id place q) (Some q) (named earlier id place) is) ∙ e in absurd cc
  | inr is ↦ skipped q earlier answers id place is ∙ none_value earlier answers id place (sym (cond-false (names id place q) (Some q) (named earlier id place) is) ∙ e)
]

-- ---- a reference to a rule

pub rule_given : (rules : List Rule) (answers : ℕ → Value) (id place : ℕ) (t : Tree) → AreOrdered rules → Some t ≡ option_map (λ r. r.tree) (named rules id place) → rule_values rules answers id place ≡ value rules answers 0 t
rule_given rules answers id place t o e = go (named rules id place) refl e
  where
    go : (found : Option Rule) → named rules id place ≡ found → Some t ≡ option_map (λ r. r.tree) found → rule_values rules answers id place ≡ value rules answers 0 t
    go None is e = absurd cc
    go (Some r) is e = let same : r.tree ≡ t = cc in found_value rules answers id place r o is ∙ ap (value rules answers 0) same

pub rule_missing : (rules : List Rule) (answers : ℕ → Value) (id place : ℕ) → ◌≡◌ {A = Option Tree} None (option_map (λ r. r.tree) (named rules id place)) → rule_values rules answers id place ≡ undefined
rule_missing rules answers id place e = go (named rules id place) refl e
  where
    go : (found : Option Rule) → named rules id place ≡ found → ◌≡◌ {A = Option Tree} None (option_map (λ r. r.tree) found) → rule_values rules answers id place ≡ undefined
    go None is e = none_value rules answers id place is
    go (Some r) is e = absurd cc

pub reference_value : (rules : ℕ → ℕ → Value) (answers : ℕ → Value) (this : ℕ) (op : Mark) → number op.op ≡ RULE_REF → leaf_value rules answers this op ≡ rules (rule_ref_rule op.op) op.place
unfolding leaf_value
reference_value rules answers this op e = rw e refl
