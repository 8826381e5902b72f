-- What an expression says decides its value.
use Rattle.std.proofs.Common.{◌≡◌, ℕ, inl, inr, refl, sym, ap, ◌∙◌}
use Rattle.std.specs.Prelude.{◌==◌}
use Rattle.std.proofs.lemmas.Bool.{cases_Bool, eqb-true}
use Rattle.ifr_opcodes.specs.Forest.{Mark}
use Rattle.ifr_opcodes.specs.Opcode.{number}
use Rattle.ifr_opcodes.specs.Rows.{is_among}
use Rattle.ifr_opcodes.specs.Fields.{uints}
use Rattle.ifr_opcodes.specs.declared.codes.TheConstants.{EQ_ID_VAL, EQ_ID_ID, EQ_ID_VAL_LIST, QUESTION_REF1, RULE_REF, THIS}
use Rattle.ifr_expr.specs.Meaning.{leaf_value, value_over}
use Rattle.ifr_expr.specs.Trees.{Tree, leaf, one, two}
use Rattle.ifr_expr.specs.Values.{Value, unary_value}
use Rattle.condition_text.specs.Senses.{IsGood, leaf_sense, sense}
use Rattle.condition_text.specs.SenseValues.{value_of_sense}
use Rattle.condition_text.specs.Texts.{text}
use Rattle.condition_text.proofs.ReadLemmas.{one_sense}

leaf_value_said : (rules answers : ℕ → Value) (this : ℕ) (op : Mark) → leaf_value (λ id place. rules id) answers this op ≡ value_of_sense rules answers this (leaf_sense op.op)
unfolding leaf_value leaf_sense
leaf_value_said rules answers this op = elim (cases_Bool (number op.op == THIS)) [
  | inl is ↦ rw (eqb-true _ _ is) refl
  | inr h ↦ elim (cases_Bool (number op.op == EQ_ID_VAL)) [
    | inl is ↦ rw is refl
    | inr a ↦ elim (cases_Bool (number op.op == EQ_ID_ID)) [
      | inl is ↦ rw (a, is) refl
      | inr b ↦ elim (cases_Bool (number op.op == EQ_ID_VAL_LIST)) [
        | inl is ↦ rw (a, b, is) refl
        | inr c ↦ elim (cases_Bool (number op.op == QUESTION_REF1)) [
          | inl is ↦ rw (a, b, c, is) refl
          | inr d ↦ elim (cases_Bool (number op.op == RULE_REF)) [
            | inl is ↦ rw (a, b, c, d, is) refl
            | inr e ↦ elim (cases_Bool (is_among (number op.op) uints)) [
              | inl is ↦ rw (a, b, c, d, e, h, is) refl
              | inr f ↦ rw (a, b, c, d, e, h, f) (rw h refl)
            ]
          ]
        ]
      ]
    ]
  ]
]

pub value_said : (rules answers : ℕ → Value) (this : ℕ) (t : Tree) → value_over (λ id place. rules id) answers this t ≡ value_of_sense rules answers this (sense t)
value_said rules answers this (leaf op) = leaf_value_said rules answers this op
value_said rules answers this (one op operand) = ap (unary_value (number op.op)) (value_said rules answers this operand)
value_said rules answers this (two op left right) = rw (value_said rules answers this left, value_said rules answers this right) refl

pub one_value : (rules answers : ℕ → Value) (this : ℕ) (s t : Tree) → IsGood (sense s) → IsGood (sense t) → text (sense s) ≡ text (sense t)
    → value_over (λ id place. rules id) answers this s ≡ value_over (λ id place. rules id) answers this t
one_value rules answers this s t good too same =
    value_said rules answers this s ∙ ap (value_of_sense rules answers this) (one_sense (sense s) (sense t) good too same)
    ∙ sym (value_said rules answers this t)
