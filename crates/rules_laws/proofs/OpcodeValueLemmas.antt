-- Operators make the same values.
use Rattle.std.proofs.Common.{◌≡◌, ◌==◌, ℕ, ◌/◌, ◌^◌, ◌<◌, Bool, true, false, cond, Some, List, [], ◌∷◌, refl, sym, ap, subst, ◌∙◌, arith, inl, inr}
use Rattle.std.specs.Prelude.{◌&&◌, ◌||◌, nat_lt, if◌then◌else◌}
use Rattle.std.specs.List.{AllByRecursion}
use Rattle.std.proofs.Math.Nat.{div-le_self, mod-eq_of_lt}
use Rattle.std.proofs.lemmas.Bool.{cases_Bool, eqb-true, false≢true}
use Rattle.browser_rules.specs.Expressions.{sense_of}
use Rattle.browser_rules.specs.Opcodes.{row_of, listed_values}
use Rattle.browser_rules.specs.Values as rules
use Rattle.ifr_opcodes.specs.ExpressionFields.{eq_id_val_question, eq_id_val_value, eq_id_id_first, eq_id_id_second, eq_id_val_list_question, eq_id_val_list_values, question_ref_question}
use Rattle.ifr_opcodes.specs.Forest.{Mark}
use Rattle.ifr_opcodes.specs.Opcode.{number}
use Rattle.ifr_opcodes.specs.Rows.{is_among, operands}
use Rattle.ifr_opcodes.specs.code.Tables.{without_operands, with_one_operand, with_two_operands}
use Rattle.ifr_opcodes.specs.declared.codes.TheConstants.{EQ_ID_VAL, EQ_ID_ID, EQ_ID_VAL_LIST, QUESTION_REF1, SHIFT_RIGHT}
use Rattle.ifr_expr.specs.Meaning.{answered, leaf_value}
use Rattle.ifr_expr.specs.Values as values
use Rattle.ifr_expr.specs.Values.{Value, as_number, on_numbers, on_booleans, is_one_of, unary_value, number_value, binary_value, constant_value}
use Rattle.rules_laws.specs.laws.Opcodes.{value_for, around_at, made_of_none, made_of_one, made_of_two, IsSmall}
use Rattle.rules_laws.proofs.OpcodeListLemmas.{listed_same}
use Rattle.ifr_opcodes.proofs.OperatorLemmas.{takes_none, takes_one, takes_two}

-- ---- what is made of two numbers, of two Booleans, of an answer

both_numbers : (f : ℕ → ℕ → rules.Value) (g : ℕ → ℕ → Value) (left right : Value) → ((x y : ℕ) → as_number left ≡ Some x → f x y ≡ value_for (g x y))
    → rules.numbers f (value_for left) (value_for right) ≡ value_for (on_numbers g left right)
both_numbers f g values.undefined right same = refl
both_numbers f g (values.text units) right same = refl
both_numbers f g (values.buffer bytes) right same = refl
both_numbers f g (values.boolean a) values.undefined same = refl
both_numbers f g (values.boolean a) (values.boolean b) same = same (cond a 1 0) (cond b 1 0) refl
both_numbers f g (values.boolean a) (values.natural y) same = same (cond a 1 0) y refl
both_numbers f g (values.boolean a) (values.text units) same = refl
both_numbers f g (values.boolean a) (values.buffer bytes) same = refl
both_numbers f g (values.natural x) values.undefined same = refl
both_numbers f g (values.natural x) (values.boolean b) same = same x (cond b 1 0) refl
both_numbers f g (values.natural x) (values.natural y) same = same x y refl
both_numbers f g (values.natural x) (values.text units) same = refl
both_numbers f g (values.natural x) (values.buffer bytes) same = refl

both_booleans : (f : Bool → Bool → Bool) (left right : Value) → rules.booleans f (value_for left) (value_for right) ≡ value_for (on_booleans f left right)
both_booleans f values.undefined right = refl
both_booleans f (values.text units) right = refl
both_booleans f (values.buffer bytes) right = refl
both_booleans f (values.natural x) right = refl
both_booleans f (values.boolean a) values.undefined = refl
both_booleans f (values.boolean a) (values.boolean b) = refl
both_booleans f (values.boolean a) (values.natural y) = refl
both_booleans f (values.boolean a) (values.text units) = refl
both_booleans f (values.boolean a) (values.buffer bytes) = refl

same_number : (left right : Value) → rules.are_same_number (value_for left) (value_for right) ≡ value_for (values.are_same left right)
same_number left right = both_numbers _ _ left right (λ x y e. refl)

both_equal : (left right : Value) → rules.are_equal (value_for left) (value_for right) ≡ value_for (values.are_equal left right)
both_equal values.undefined right = refl
both_equal (values.boolean a) right = same_number (values.boolean a) right
both_equal (values.natural x) right = same_number (values.natural x) right
both_equal (values.text xs) values.undefined = refl
both_equal (values.text xs) (values.boolean b) = refl
both_equal (values.text xs) (values.natural y) = refl
both_equal (values.text xs) (values.text ys) = refl
both_equal (values.text xs) (values.buffer ys) = refl
both_equal (values.buffer xs) values.undefined = refl
both_equal (values.buffer xs) (values.boolean b) = refl
both_equal (values.buffer xs) (values.natural y) = refl
both_equal (values.buffer xs) (values.text ys) = refl
both_equal (values.buffer xs) (values.buffer ys) = refl

negated_same : (v : Value) → rules.negated (value_for v) ≡ value_for (values.negated v)
negated_same values.undefined = refl
negated_same (values.boolean b) = refl
negated_same (values.natural n) = refl
negated_same (values.text units) = refl
negated_same (values.buffer bytes) = refl

listed_value : (ns : List ℕ) (v : Value) → rules.is_listed ns (value_for v) ≡ value_for (is_one_of v ns)
listed_value ns values.undefined = refl
listed_value ns (values.boolean b) = refl
listed_value ns (values.natural n) = refl
listed_value ns (values.text units) = refl
listed_value ns (values.buffer bytes) = refl

chosen : (b : Bool) (v w : Value) → cond b (value_for v) (value_for w) ≡ value_for (cond b v w)
chosen true v w = refl
chosen false v w = refl

-- ---- what holds of each of some numbers

pub each : (P : ℕ → Type 0) (codes : List ℕ) (code : ℕ) → AllByRecursion P codes → is_among code codes ≡ true → P code
each P [] code all e = absurd (false≢true e)
each P (c ∷ codes) code all e = elim (cases_Bool (c == code)) [
  | inl here ↦ subst P (eqb-true c code here) all.0
  | inr other ↦ each P codes code all.1 (sym (ap (λ (b : Bool). b || is_among code codes) other) ∙ e)
]

-- ---- operators with two operands

pub small_number : (v : Value) (x : ℕ) → IsSmall v → as_number v ≡ Some x → x < 2 ^ 64
small_number values.undefined x small e = absurd cc
small_number (values.text units) x small e = absurd cc
small_number (values.buffer bytes) x small e = absurd cc
small_number (values.natural n) x small e = let it : n ≡ x = cc in subst (λ k. k < 2 ^ 64) it small
small_number (values.boolean true) x small e = let it : 1 ≡ x = cc in omega (arith, it)
small_number (values.boolean false) x small e = let it : 0 ≡ x = cc in omega (arith, it)

shifted_right : (x y : ℕ) → x < 2 ^ 64 → rules.shifted (λ x y. x / 2 ^ y) x y ≡ value_for (if nat_lt y 64 then values.natural (x / 2 ^ y) else values.natural 0)
shifted_right x y small =
    let less : x / 2 ^ y < 2 ^ 64 = omega (arith, div-le_self x (2 ^ y)) in
    ap (λ (n : ℕ). cond (nat_lt y 64) (rules.natural n) (rules.natural 0)) (mod-eq_of_lt less)
    ∙ chosen (nat_lt y 64) (values.natural (x / 2 ^ y)) (values.natural 0)

abbrev IsSameOfTwo : Value → Value → ℕ → Type 0
IsSameOfTwo left right code = (code ≡ SHIFT_RIGHT → IsSmall left) → made_of_two (sense_of (code ∷ [])) (value_for left) (value_for right) ≡ value_for (binary_value code left right)

of_each_two : (left right : Value) → AllByRecursion (IsSameOfTwo left right) with_two_operands
unfolding row_of binary_value number_value
of_each_two left right = (
  λ small. both_booleans (λ a b. a && b) left right,
  (
    λ small. both_booleans (λ a b. a || b) left right,
    (
      λ small. both_equal left right,
      (
        λ small. ap (λ (v : rules.Value). rules.negated v) (both_equal left right) ∙ negated_same (values.are_equal left right),
        (
          λ small. both_numbers _ _ left right (λ x y e. refl),
          (
            λ small. both_numbers _ _ left right (λ x y e. refl),
            (
              λ small. both_numbers _ _ left right (λ x y e. refl),
              (
                λ small. both_numbers _ _ left right (λ x y e. refl),
                (
                  λ small. both_numbers _ _ left right (λ x y e. refl),
                  (
                    λ small. both_numbers _ _ left right (λ x y e. refl),
                    (
                      λ small. both_numbers _ _ left right (λ x y e. chosen (nat_lt y 64) _ _),
                      (
                        λ small. both_numbers _ _ left right (λ x y e. shifted_right x y (small_number left x (small refl) e)),
                        (
                          λ small. both_numbers _ _ left right (λ x y e. refl),
                          (
                            λ small. both_numbers _ _ left right (λ x y e. refl),
                            (
                              λ small. both_numbers _ _ left right (λ x y e. refl),
                              (
                                λ small. both_numbers _ _ left right (λ x y e. chosen (y == 0) _ _),
                                (
                                  λ small. both_numbers _ _ left right (λ x y e. chosen (y == 0) _ _),
                                  tt,
                                ),
                              ),
                            ),
                          ),
                        ),
                      ),
                    ),
                  ),
                ),
              ),
            ),
          ),
        ),
      ),
    ),
  ),
)

pub same_of_two : (op : List ℕ) (left right : Value) → operands (number op) ≡ Some 2 → (number op ≡ SHIFT_RIGHT → IsSmall left)
    → made_of_two (sense_of op) (value_for left) (value_for right) ≡ value_for (binary_value (number op) left right)
same_of_two op left right takes small = each (IsSameOfTwo left right) with_two_operands (number op) (of_each_two left right) (takes_two (number op) takes) small

-- ---- operators with one operand

abbrev IsSameOfOne : Value → ℕ → Type 0
IsSameOfOne v code = made_of_one (sense_of (code ∷ [])) (value_for v) ≡ value_for (unary_value code v)

of_each_one : (v : Value) → AllByRecursion (IsSameOfOne v) with_one_operand
unfolding row_of unary_value
of_each_one v = (negated_same v, (both_numbers _ _ v v (λ x y e. refl), tt))

pub same_of_one : (op : List ℕ) (v : Value) → operands (number op) ≡ Some 1 → made_of_one (sense_of op) (value_for v) ≡ value_for (unary_value (number op) v)
same_of_one op v takes = each (IsSameOfOne v) with_one_operand (number op) (of_each_one v) (takes_one (number op) takes)

-- ---- operators without operands

answer_same : (answers : ℕ → Value) (id : ℕ) → cond (id == 0) rules.undefined (value_for (answers id)) ≡ value_for (answered answers id)
answer_same answers id = chosen (id == 0) values.undefined (answers id)

abbrev IsSameOfNone : (ℕ → ℕ → Value) → (ℕ → Value) → ℕ → ℕ → List ℕ → ℕ → Type 0
IsSameOfNone named answers this place rest code =
    made_of_none (sense_of (code ∷ [])) (around_at named answers this place) (code ∷ rest) ≡ value_for (leaf_value named answers this (record { place = place; op = code ∷ rest }))

of_each_none : (named : ℕ → ℕ → Value) (answers : ℕ → Value) (this place : ℕ) (rest : List ℕ) → AllByRecursion (IsSameOfNone named answers this place rest) without_operands
unfolding row_of leaf_value constant_value
of_each_none named answers this place rest =
    let val : List ℕ = EQ_ID_VAL ∷ rest in
    let ids : List ℕ = EQ_ID_ID ∷ rest in
    let many : List ℕ = EQ_ID_VAL_LIST ∷ rest in
    let around : rules.Around = around_at named answers this place in (
      ap (λ (v : rules.Value). rules.are_same_number v (rules.natural (eq_id_val_value val))) (answer_same answers (eq_id_val_question val)) ∙ same_number (answered answers (eq_id_val_question val)) (values.natural (eq_id_val_value val)),
      (
        ap (λ (v : rules.Value). rules.are_same_number v (rules.answer around (eq_id_id_second ids))) (answer_same answers (eq_id_id_first ids)) ∙ ap (λ (v : rules.Value). rules.are_same_number (value_for (answered answers (eq_id_id_first ids))) v) (answer_same answers (eq_id_id_second ids)) ∙ same_number (answered answers (eq_id_id_first ids)) (answered answers (eq_id_id_second ids)),
        (
          ap (λ (v : rules.Value). rules.is_listed (listed_values many) v) (answer_same answers (eq_id_val_list_question many)) ∙ ap (λ (ns : List ℕ). rules.is_listed ns (value_for (answered answers (eq_id_val_list_question many)))) (listed_same many) ∙ listed_value (eq_id_val_list_values many) (answered answers (eq_id_val_list_question many)),
          (
            refl,
            (
              answer_same answers (question_ref_question (QUESTION_REF1 ∷ rest)),
              (
                refl,
                (
                  refl,
                  (
                    refl,
                    (
                      refl,
                      (
                        answer_same answers this,
                        (
                          refl,
                          (
                            refl,
                            (
                              refl,
                              (
                                refl,
                                (
                                  refl,
                                  (
                                    refl,
                                    tt,
                                  ),
                                ),
                              ),
                            ),
                          ),
                        ),
                      ),
                    ),
                  ),
                ),
              ),
            ),
          ),
        ),
      ),
    )

same_at : (named : ℕ → ℕ → Value) (answers : ℕ → Value) (this place : ℕ) (op : List ℕ) → operands (number op) ≡ Some 0
    → made_of_none (sense_of op) (around_at named answers this place) op ≡ value_for (leaf_value named answers this (record { place = place; op = op }))
same_at named answers this place [] takes = absurd (false≢true (takes_none 0 takes))
same_at named answers this place (code ∷ rest) takes = each (IsSameOfNone named answers this place rest) without_operands code (of_each_none named answers this place rest) (takes_none code takes)

pub same_of_none : (named : ℕ → ℕ → Value) (answers : ℕ → Value) (this : ℕ) (m : Mark) → operands (number m.op) ≡ Some 0
    → made_of_none (sense_of m.op) (around_at named answers this m.place) m.op ≡ value_for (leaf_value named answers this m)
same_of_none named answers this m takes = same_at named answers this m.place m.op takes
