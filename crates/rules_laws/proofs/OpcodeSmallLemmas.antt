-- What operators make of numbers of at most 64 bits has at most 64 bits.
use Rattle.std.proofs.Common.{◌≡◌, ◌==◌, ℕ, ◌+◌, ◌-◌, ◌*◌, ◌%◌, ◌^◌, ◌≤◌, ◌<◌, Bool, true, false, cond, Some, List, refl, arith}
use Rattle.std.specs.Prelude.{nat_lt}
use Rattle.std.proofs.Math.Nat.{div-le_self, mod-le, mod-lt}
use Rattle.std.proofs.lemmas.Nat.{and_le_l, or_lt}
use Rattle.hii_bytes.specs.Numbers.{AreBytes}
use Rattle.hii_bytes.proofs.NumberLemmas.{number_in-lt}
use Rattle.ifr_opcodes.specs.ExpressionFields.{eq_id_val_question, eq_id_val_value, eq_id_id_first, eq_id_id_second, eq_id_val_list_question, eq_id_val_list_values, question_ref_question, rule_ref_rule, uint_width, uint_value}
use Rattle.ifr_opcodes.specs.Forest.{Mark}
use Rattle.ifr_opcodes.specs.Opcode.{number}
use Rattle.ifr_opcodes.specs.Rows.{is_among}
use Rattle.ifr_opcodes.specs.Fields.{uints}
use Rattle.ifr_opcodes.specs.declared.codes.TheConstants.{EQ_ID_VAL, EQ_ID_ID, EQ_ID_VAL_LIST, AND, OR, NOT, EQUAL, NOT_EQUAL, GREATER_THAN, GREATER_EQUAL, LESS_THAN, LESS_EQUAL, BITWISE_AND, BITWISE_OR, BITWISE_NOT, SHIFT_LEFT, SHIFT_RIGHT, ADD, SUBTRACT, MULTIPLY, DIVIDE, MODULO, RULE_REF, QUESTION_REF1, UINT8, UINT16, UINT32, TRUE, FALSE, ZERO, ONE, ONES, THIS}
use Rattle.ifr_expr.specs.Meaning.{answered, leaf_value}
use Rattle.ifr_expr.specs.Values as values
use Rattle.ifr_expr.specs.Values.{Value, as_number, on_numbers, on_booleans, is_one_of, unary_value, number_value, binary_value, constant_value}
use Rattle.rules_laws.specs.laws.Opcodes.{IsSmall}
use Rattle.rules_laws.proofs.OpcodeValueLemmas.{small_number}

small_choice : (b : Bool) (v w : Value) → IsSmall v → IsSmall w → IsSmall (cond b v w)
small_choice true v w here there = here
small_choice false v w here there = there

small_numbers : (makes : ℕ → ℕ → Value) (left right : Value) → ((x y : ℕ) → as_number left ≡ Some x → as_number right ≡ Some y → IsSmall (makes x y)) → IsSmall (on_numbers makes left right)
small_numbers makes values.undefined right small = tt
small_numbers makes (values.text units) right small = tt
small_numbers makes (values.buffer bytes) right small = tt
small_numbers makes (values.boolean a) values.undefined small = tt
small_numbers makes (values.boolean a) (values.boolean b) small = small (cond a 1 0) (cond b 1 0) refl refl
small_numbers makes (values.boolean a) (values.natural y) small = small (cond a 1 0) y refl refl
small_numbers makes (values.boolean a) (values.text units) small = tt
small_numbers makes (values.boolean a) (values.buffer bytes) small = tt
small_numbers makes (values.natural x) values.undefined small = tt
small_numbers makes (values.natural x) (values.boolean b) small = small x (cond b 1 0) refl refl
small_numbers makes (values.natural x) (values.natural y) small = small x y refl refl
small_numbers makes (values.natural x) (values.text units) small = tt
small_numbers makes (values.natural x) (values.buffer bytes) small = tt

small_booleans : (makes : Bool → Bool → Bool) (left right : Value) → IsSmall (on_booleans makes left right)
small_booleans makes values.undefined right = tt
small_booleans makes (values.text units) right = tt
small_booleans makes (values.buffer bytes) right = tt
small_booleans makes (values.natural x) right = tt
small_booleans makes (values.boolean a) values.undefined = tt
small_booleans makes (values.boolean a) (values.boolean b) = tt
small_booleans makes (values.boolean a) (values.natural y) = tt
small_booleans makes (values.boolean a) (values.text units) = tt
small_booleans makes (values.boolean a) (values.buffer bytes) = tt

small_same : (left right : Value) → IsSmall (values.are_same left right)
small_same left right = small_numbers _ left right (λ x y e f. tt)

small_equal : (left right : Value) → IsSmall (values.are_equal left right)
small_equal values.undefined right = tt
small_equal (values.boolean a) right = small_same (values.boolean a) right
small_equal (values.natural x) right = small_same (values.natural x) right
small_equal (values.text xs) values.undefined = tt
small_equal (values.text xs) (values.boolean b) = tt
small_equal (values.text xs) (values.natural y) = tt
small_equal (values.text xs) (values.text ys) = tt
small_equal (values.text xs) (values.buffer ys) = tt
small_equal (values.buffer xs) values.undefined = tt
small_equal (values.buffer xs) (values.boolean b) = tt
small_equal (values.buffer xs) (values.natural y) = tt
small_equal (values.buffer xs) (values.text ys) = tt
small_equal (values.buffer xs) (values.buffer ys) = tt

small_negated : (v : Value) → IsSmall (values.negated v)
small_negated values.undefined = tt
small_negated (values.boolean b) = tt
small_negated (values.natural n) = tt
small_negated (values.text units) = tt
small_negated (values.buffer bytes) = tt

small_listed : (ns : List ℕ) (v : Value) → IsSmall (is_one_of v ns)
small_listed ns values.undefined = tt
small_listed ns (values.boolean b) = tt
small_listed ns (values.natural n) = tt
small_listed ns (values.text units) = tt
small_listed ns (values.buffer bytes) = tt

small_wrapped : (n : ℕ) → n % 2 ^ 64 < 2 ^ 64
small_wrapped n = mod-lt n (omega arith)

-- ---- operators with two operands, and with one

small_made : (code x y : ℕ) → x < 2 ^ 64 → y < 2 ^ 64 → IsSmall (number_value code x y)
unfolding number_value
small_made code x y a b =
    small_choice (code == GREATER_THAN) _ _ tt
    (small_choice (code == GREATER_EQUAL) _ _ tt
    (small_choice (code == LESS_THAN) _ _ tt
    (small_choice (code == LESS_EQUAL) _ _ tt
    (small_choice (code == BITWISE_AND) _ _ (omega (arith, and_le_l x y, a))
    (small_choice (code == BITWISE_OR) _ _ (or_lt 64 x y a b)
    (small_choice (code == SHIFT_LEFT) _ _ (small_choice (nat_lt y 64) _ _ (small_wrapped (x * 2 ^ y)) (omega arith))
    (small_choice (code == SHIFT_RIGHT) _ _ (small_choice (nat_lt y 64) _ _ (omega (arith, div-le_self x (2 ^ y), a)) (omega arith))
    (small_choice (code == ADD) _ _ (small_wrapped (x + y))
    (small_choice (code == SUBTRACT) _ _ (small_wrapped (x + 2 ^ 64 - y))
    (small_choice (code == MULTIPLY) _ _ (small_wrapped (x * y))
    (small_choice (code == DIVIDE) _ _ (small_choice (y == 0) _ _ tt (omega (arith, div-le_self x y, a)))
    (small_choice (code == MODULO) _ _ (small_choice (y == 0) _ _ tt (omega (arith, mod-le x y, a))) tt))))))))))))

pub small_of_two : (code : ℕ) (left right : Value) → IsSmall left → IsSmall right → IsSmall (binary_value code left right)
unfolding binary_value
small_of_two code left right a b =
    small_choice (code == AND) _ _ (small_booleans _ left right)
    (small_choice (code == OR) _ _ (small_booleans _ left right)
    (small_choice (code == EQUAL) _ _ (small_equal left right)
    (small_choice (code == NOT_EQUAL) _ _ (small_negated (values.are_equal left right))
    (small_numbers (number_value code) left right (λ x y e f. small_made code x y (small_number left x a e) (small_number right y b f))))))

pub small_of_one : (code : ℕ) (v : Value) → IsSmall (unary_value code v)
unfolding unary_value
small_of_one code v =
    small_choice (code == NOT) _ _ (small_negated v)
    (small_choice (code == BITWISE_NOT) _ _ (small_numbers _ v v (λ x y e f. omega arith)) tt)

-- ---- operators without operands

small_answer : (answers : ℕ → Value) → ((id : ℕ) → IsSmall (answers id)) → (id : ℕ) → IsSmall (answered answers id)
small_answer answers small id = small_choice (id == 0) _ _ tt (small id)

small_constant : (code : ℕ) → IsSmall (constant_value code)
unfolding constant_value
small_constant code =
    small_choice (code == TRUE) _ _ tt
    (small_choice (code == FALSE) _ _ tt
    (small_choice (code == ZERO) _ _ (omega arith)
    (small_choice (code == ONE) _ _ (omega arith)
    (small_choice (code == ONES) _ _ (omega arith) tt))))

-- a number of one, two, four or eight bytes
few_bytes : (a b c : Bool) → 256 ^ cond a 1 (cond b 2 (cond c 4 8)) ≤ 2 ^ 64
few_bytes true b c = omega arith
few_bytes false true c = omega arith
few_bytes false false true = omega arith
few_bytes false false false = omega arith

small_uint : (op : List ℕ) → AreBytes op → uint_value op < 2 ^ 64
small_uint op bytes =
    let code : ℕ = number op in
    omega (arith, number_in-lt op 2 (uint_width code) bytes, few_bytes (code == UINT8) (code == UINT16) (code == UINT32))

pub small_of_none : (named : ℕ → ℕ → Value) (answers : ℕ → Value) (this : ℕ) (m : Mark) → ((id place : ℕ) → IsSmall (named id place)) → ((id : ℕ) → IsSmall (answers id)) → AreBytes m.op
    → IsSmall (leaf_value named answers this m)
unfolding leaf_value
small_of_none named answers this m few small bytes =
    let op : List ℕ = m.op in
    small_choice (number op == EQ_ID_VAL) _ _ (small_same (answered answers (eq_id_val_question op)) (values.natural (eq_id_val_value op)))
    (small_choice (number op == EQ_ID_ID) _ _ (small_same (answered answers (eq_id_id_first op)) (answered answers (eq_id_id_second op)))
    (small_choice (number op == EQ_ID_VAL_LIST) _ _ (small_listed (eq_id_val_list_values op) (answered answers (eq_id_val_list_question op)))
    (small_choice (number op == QUESTION_REF1) _ _ (small_answer answers small (question_ref_question op))
    (small_choice (number op == RULE_REF) _ _ (few (rule_ref_rule op) m.place)
    (small_choice (number op == THIS) _ _ (small_answer answers small this)
    (small_choice (is_among (number op) uints) _ _ (small_uint op bytes) (small_constant (number op))))))))
