-- A value depends on the answers of its questions alone.
use Rattle.std.proofs.Common.{◌≡◌, ℕ, ◌<◌, true, false, eqb, Some, None, List, [], ◌∷◌, ◌++◌, refl, sym, ap, ◌∙◌, subst, inl, inr}
use Rattle.std.specs.List.{flat_map}
use Rattle.std.proofs.lemmas.Bool.{cases_Bool, eqb-true, cond-true, cond-false}
use Rattle.std.proofs.lemmas.Grind.{flat_map-append}
use Rattle.ifr_opcodes.specs.declared.codes.TheConstants.{EQ_ID_VAL, EQ_ID_ID, EQ_ID_VAL_LIST, QUESTION_REF1, RULE_REF, THIS}
use Rattle.ifr_opcodes.specs.Fields.{eq_id_val_value, eq_id_id_first, eq_id_id_second, eq_id_val_list_values, rule_ref_rule}
use Rattle.ifr_opcodes.specs.Opcode.{number}
use Rattle.ifr_opcodes.specs.Forest.{Mark}
use Rattle.ifr_expr.specs.Dependence.{own, ids_behind, ids_over, rule_ids, dependence}
use Rattle.ifr_expr.specs.laws.Agreement.{Agree}
use Rattle.ifr_expr.specs.Meaning.{Rule, answered, names, leaf_value, value_over, rule_values, value}
use Rattle.ifr_expr.specs.code.Rules.{named, AreOrdered}
use Rattle.ifr_expr.specs.Support.{ids_of}
use Rattle.ifr_expr.specs.Trees.{Tree, leaf, one, two, post}
use Rattle.ifr_expr.specs.Values.{Value, natural, are_same, is_one_of, unary_value, binary_value}
use Rattle.ifr_expr.proofs.RuleLemmas.{Below, found_by}

agree_front : (a b : ℕ → Value) (xs ys : List ℕ) → Agree a b (xs ++ ys) → Agree a b xs
agree_front a b [] ys h = tt
agree_front a b (x ∷ xs) ys h = (h.0, agree_front a b xs ys h.1)

agree_back : (a b : ℕ → Value) (xs ys : List ℕ) → Agree a b (xs ++ ys) → Agree a b ys
agree_back a b [] ys h = h
agree_back a b (x ∷ xs) ys h = agree_back a b xs ys h.1

-- Rules have the same values where answers agree on their questions.
abbrev AgreeOver : (ℕ → Value) → (ℕ → Value) → (ℕ → ℕ → Value) → (ℕ → ℕ → Value) → (ℕ → ℕ → List ℕ) → Type 0
AgreeOver a b v w ids = (id place : ℕ) → Agree a b (ids id place) → v id place ≡ w id place

own_same : (a b : ℕ → Value) (this : ℕ) → Agree a b (own this) → answered a this ≡ answered b this
own_same a b this h = elim (cases_Bool (eqb this 0)) [
  | inl none ↦ rw none refl
  | inr some ↦ let g = rw some at h in g.0
]

leaf_same : (a b : ℕ → Value) (v w : ℕ → ℕ → Value) (ids : ℕ → ℕ → List ℕ) (this : ℕ) (op : Mark) → AgreeOver a b v w ids → Agree a b (ids_behind ids this op) → leaf_value v a this op ≡ leaf_value w b this op
unfolding leaf_value ids_of
leaf_same a b v w ids this op over h = elim (cases_Bool (eqb (number op.op) EQ_ID_VAL)) [
  | inl e ↦
      let is = eqb-true (number op.op) EQ_ID_VAL e in
      let g = rw is at h in
      rw is (ap (λ (x : Value). are_same x (natural (eq_id_val_value op.op))) g.0)
  | inr o1 ↦ elim (cases_Bool (eqb (number op.op) EQ_ID_ID)) [
    | inl e ↦
        let is = eqb-true (number op.op) EQ_ID_ID e in
        let g = rw is at h in
        rw is (ap (λ (x : Value). are_same x (answered a (eq_id_id_second op.op))) g.0 ∙ ap (are_same (answered b (eq_id_id_first op.op))) g.1.0)
    | inr o2 ↦ elim (cases_Bool (eqb (number op.op) EQ_ID_VAL_LIST)) [
      | inl e ↦
          let is = eqb-true (number op.op) EQ_ID_VAL_LIST e in
          let g = rw is at h in
          rw is (ap (λ (x : Value). is_one_of x (eq_id_val_list_values op.op)) g.0)
      | inr o3 ↦ elim (cases_Bool (eqb (number op.op) QUESTION_REF1)) [
        | inl e ↦
            let is = eqb-true (number op.op) QUESTION_REF1 e in
            let g = rw is at h in
            rw is g.0
        | inr o4 ↦ elim (cases_Bool (eqb (number op.op) RULE_REF)) [
          | inl e ↦
              let is = eqb-true (number op.op) RULE_REF e in
              let g = rw is at h in
              rw is (over (rule_ref_rule op.op) op.place g)
          | inr o5 ↦ elim (cases_Bool (eqb (number op.op) THIS)) [
            | inl e ↦
                let is = eqb-true (number op.op) THIS e in
                let g = rw is at h in
                rw is (own_same a b this g)
            | inr o6 ↦ rw (o1, o2, o3, o4, o5, o6) refl
          ]
        ]
      ]
    ]
  ]
]

-- the opcodes of a tree's operands, and its own
split_ids : (ids : ℕ → ℕ → List ℕ) (this : ℕ) (a b : ℕ → Value) (xs ys : List Mark) → Agree a b (flat_map (ids_behind ids this) (xs ++ ys))
    → Agree a b (flat_map (ids_behind ids this) xs) × Agree a b (flat_map (ids_behind ids this) ys)
split_ids ids this a b xs ys h =
    let g = subst (Agree a b) (flat_map-append (ids_behind ids this) xs ys) h in
    (agree_front a b (flat_map (ids_behind ids this) xs) (flat_map (ids_behind ids this) ys) g, agree_back a b (flat_map (ids_behind ids this) xs) (flat_map (ids_behind ids this) ys) g)

same : (a b : ℕ → Value) (v w : ℕ → ℕ → Value) (ids : ℕ → ℕ → List ℕ) (this : ℕ) (tree : Tree) → AgreeOver a b v w ids → Agree a b (ids_over ids this tree) → value_over v a this tree ≡ value_over w b this tree
same a b v w ids this (leaf op) over h = leaf_same a b v w ids this op over (agree_front a b (ids_behind ids this op) [] h)
same a b v w ids this (one op operand) over h =
    let parts = split_ids ids this a b (post operand) (op ∷ []) h in
    ap (unary_value (number op.op)) (same a b v w ids this operand over parts.0)
same a b v w ids this (two op left right) over h =
    let parts = split_ids ids this a b (post left) (post right ++ op ∷ []) h in
    let others = split_ids ids this a b (post right) (op ∷ []) parts.1 in
    ap (λ (x : Value). binary_value (number op.op) x (value_over v a this right)) (same a b v w ids this left over parts.0)
    ∙ ap (binary_value (number op.op) (value_over w b this left)) (same a b v w ids this right over others.0)

rules_same : (rules : List Rule) (a b : ℕ → Value) → AgreeOver a b (rule_values rules a) (rule_values rules b) (rule_ids rules)
unfolding rule_values rule_ids
rules_same [] a b id place h = refl
rules_same (r ∷ earlier) a b id place h = elim (cases_Bool (names id place r)) [
  | inl is ↦ rw is (same a b (rule_values earlier a) (rule_values earlier b) (rule_ids earlier) 0 r.tree (rules_same earlier a b) (rw is at h))
  | inr other ↦ rw other (rules_same earlier a b id place (rw other at h))
]

pub depends : (rules : List Rule) (a b : ℕ → Value) (this : ℕ) (tree : Tree) → Agree a b (dependence rules this tree) → value rules a this tree ≡ value rules b this tree
depends rules a b this tree h = same a b (rule_values rules a) (rule_values rules b) (rule_ids rules) this tree (rules_same rules a b) h

-- ---- the rule that a reference names

op_near : (f g : ℕ → ℕ → List ℕ) (this : ℕ) (op : Mark) → f (rule_ref_rule op.op) op.place ≡ g (rule_ref_rule op.op) op.place → ids_behind f this op ≡ ids_behind g this op
op_near f g this op e = ap (λ (ids : List ℕ). ids_behind (λ _ _. ids) this op) e

ids_near : (f g : ℕ → ℕ → List ℕ) (this ends : ℕ) (ops : List Mark) → ((id place : ℕ) → place < ends → f id place ≡ g id place) → Below ends ops → flat_map (ids_behind f this) ops ≡ flat_map (ids_behind g this) ops
ids_near f g this ends [] same h = refl
ids_near f g this ends (op ∷ ops) same h =
    ap (λ (l : List ℕ). l ++ flat_map (ids_behind f this) ops) (op_near f g this op (same (rule_ref_rule op.op) op.place h.0))
    ∙ ap (λ (l : List ℕ). ids_behind g this op ++ l) (ids_near f g this ends ops same h.1)

ids_taken : (r : Rule) (earlier : List Rule) (id place : ℕ) → names id place r ≡ true → rule_ids (r ∷ earlier) id place ≡ ids_over (rule_ids earlier) 0 r.tree
unfolding rule_ids
ids_taken r earlier id place e = cond-true (names id place r) _ _ e

ids_skipped : (r : Rule) (earlier : List Rule) (id place : ℕ) → names id place r ≡ false → rule_ids (r ∷ earlier) id place ≡ rule_ids earlier id place
unfolding rule_ids
ids_skipped r earlier id place e = cond-false (names id place r) _ _ e

-- A reference depends on what the rule's expression depends on, over all rules.
pub found_ids : (rules : List Rule) (id place : ℕ) (r : Rule) → AreOrdered rules → named rules id place ≡ Some r → rule_ids rules id place ≡ dependence rules 0 r.tree
found_ids rules id place r o e =
    found_by (λ f t. ids_over f 0 t) rule_ids ids_taken ids_skipped (λ f g ends t same h. ids_near f g 0 ends (post t) same h) rules id place r o e

-- A reference that names no rule depends on nothing.
pub no_ids : (rules : List Rule) (id place : ℕ) → named rules id place ≡ None → rule_ids rules id place ≡ []
unfolding rule_ids
no_ids [] id place e = refl
no_ids (r ∷ earlier) id place e = elim (cases_Bool (names id place r)) [
  | inl is ↦ let bad : Some r ≡ None = sym (cond-true (names id place r) (Some r) (named earlier id place) is) ∙ e in absurd cc
  | inr is ↦ ids_skipped r earlier id place is ∙ no_ids earlier id place (sym (cond-false (names id place r) (Some r) (named earlier id place) is) ∙ e)
]
