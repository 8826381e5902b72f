-- Values that are collected.
use Rattle.std.proofs.Common.{◌≡◌, ℕ, ℤ, Bool, true, false, List, [], ◌∷◌, ◌++◌, refl, sym, ap, ◌∙◌, inl, inr}
use Rattle.std.specs.Prelude.{filter, pos, nat_lt, not, ◌^◌, ◌==◌, ◌&&◌, if◌then◌else◌}
use Rattle.std.specs.List.{flat_map}
use Rattle.std.specs.Ordering.{int_cmp}
use Rattle.std.proofs.lemmas.List.Concat.{flat_map-append}
use Rattle.std.proofs.lemmas.Bool.{cases_Bool, cond-false, cond-true}
use Rattle.ifr_opcodes.specs.declared.codes.TheConstants.{EQ_ID_ID, EQ_ID_VAL, EQ_ID_VAL_LIST, QUESTION_REF1, RULE_REF, THIS}
use Rattle.ifr_opcodes.specs.code.Codes.{binary_code, constant_code, unary_code}
use Rattle.ifr_opcodes.specs.declared.operators.Binary.{Binary}
use Rattle.ifr_opcodes.specs.declared.operators.Binary.TheVariants.{And, Or, Equal, NotEqual, GreaterThan, GreaterEqual, LessThan, LessEqual, BitwiseAnd, BitwiseOr, ShiftLeft, ShiftRight, Add, Subtract, Multiply, Divide, Modulo}
use Rattle.ifr_opcodes.specs.declared.operators.Constant.{Constant}
use Rattle.ifr_opcodes.specs.declared.operators.Constant.TheVariants.{True, False, Zero, One, Ones, Undefined}
use Rattle.ifr_opcodes.specs.declared.operators.Unary.{Unary}
use Rattle.ifr_opcodes.specs.declared.operators.Unary.TheVariants.{Not, BitwiseNot}
use Rattle.ifr_opcodes.specs.Fields.{eq_id_val_list_values, eq_id_val_value, numeric_maximum, numeric_minimum, numeric_width, uint_value, uints}
use Rattle.ifr_opcodes.specs.Opcode.{number}
use Rattle.ifr_opcodes.specs.Rows.{is_among}
use Rattle.ifr_expr.specs.Values.{constant_value}
use Rattle.hii_questions.specs.Fields.{Asked}
use Rattle.ifr_opcodes.specs.Forest.{Node}
use Rattle.unlock_audit.specs.Constants.{constants, number_in, op_constants}
use Rattle.unlock_audit.specs.Moves.{as_read, asks, constants_about, near, near_constant, numeric_values, takes}
use Rattle.unlock_audit.specs.Rising.{added_each}
use Rattle.unlock_audit.specs.code.Offered.{offered, offered_near}
use Rattle.unlock_audit.proofs.RisingLemmas.{added_append}

module _ {X : Type 0} (test : X → Bool) where
  filtered : (xs ys : List X) → filter test (xs ++ ys) ≡ filter test xs ++ filter test ys
  filtered [] ys = refl
  filtered (x ∷ xs) ys = elim (cases_Bool (test x)) [
    | inl is ↦
        cond-true (test x) (x ∷ filter test (xs ++ ys)) (filter test (xs ++ ys)) is ∙ ap (λ (l : List X). x ∷ l) (filtered xs ys)
        ∙ ap (λ (l : List X). l ++ filter test ys) (sym (cond-true (test x) (x ∷ filter test xs) (filter test xs) is))
    | inr not ↦
        cond-false (test x) (x ∷ filter test (xs ++ ys)) (filter test (xs ++ ys)) not ∙ filtered xs ys
        ∙ ap (λ (l : List X). l ++ filter test ys) (sym (cond-false (test x) (x ∷ filter test xs) (filter test xs) not))
  ]

-- values behind others
pub offered_append : (q : Asked) (its xs ys : List ℤ) → offered q its (xs ++ ys) ≡ offered q (offered q its xs) ys
offered_append q its xs ys = ap (added_each int_cmp its) (filtered (takes q) xs ys) ∙ added_append int_cmp its (filter (takes q) xs) (filter (takes q) ys)

-- some were offered, and then others
pub offered_more : (q : Asked) (old mid new xs ys : List ℤ) → mid ≡ offered q old xs → new ≡ offered q mid ys → new ≡ offered q old (xs ++ ys)
offered_more q old mid new xs ys e f = f ∙ ap (λ l. offered q l ys) e ∙ sym (offered_append q old xs ys)

pub near_more : (q : Asked) (old mid new : List ℤ) (ks ls : List ℕ) → mid ≡ offered_near q old ks → new ≡ offered_near q mid ls → new ≡ offered_near q old (ks ++ ls)
near_more q old mid new ks ls e f =
    offered_more q old mid new (flat_map (near_constant q.node) ks) (flat_map (near_constant q.node) ls) e f
    ∙ ap (offered q old) (sym (flat_map-append (near_constant q.node) ks ls))

-- what is left, behind a part of it
pub near_left : (q : Asked) (old new : List ℤ) (left front rest all : List ℕ) (first : List ℤ) → left ≡ front ++ rest → new ≡ offered_near q old front → offered_near q old left ≡ offered_near q first all → offered_near q new rest ≡ offered_near q first all
near_left q old new left front rest all first e f inv =
    near_more q old new (offered_near q new rest) front rest f refl ∙ ap (offered_near q old) (sym e) ∙ inv

-- ---- one constant

-- a constant that the field can hold, and one that it cannot
pub constant_held : (q : Asked) (old mid new : List ℤ) (k : ℕ) → nat_lt k (256 ^ numeric_width q.node.op) ≡ true → mid ≡ offered q old (near (pos k)) → new ≡ offered q mid (near (as_read q.node k)) → new ≡ offered_near q old (k ∷ [])
constant_held q old mid new k held e f =
    let both : new ≡ offered q old (near (pos k) ++ near (as_read q.node k)) = offered_more q old mid new (near (pos k)) (near (as_read q.node k)) e f in
    both ∙ ap (λ (b : Bool). offered q old (near (pos k) ++ (flat_map near (if b then as_read q.node k ∷ [] else []) ++ []))) (sym held)

pub constant_wide : (q : Asked) (old new : List ℤ) (k : ℕ) → nat_lt k (256 ^ numeric_width q.node.op) ≡ false → new ≡ offered q old (near (pos k)) → new ≡ offered_near q old (k ∷ [])
constant_wide q old new k wide e = e ∙ ap (λ (b : Bool). offered q old (near (pos k) ++ (flat_map near (if b then as_read q.node k ∷ [] else []) ++ []))) (sym wide)

-- ---- opcodes that name no number

abbrev is_none : List ℕ → Bool
is_none [] = true
is_none (k ∷ ks) = false

abbrev pub names_no_number : ℕ → Bool
names_no_number code = not (code == EQ_ID_VAL) && not (code == EQ_ID_VAL_LIST) && not (is_among code uints) && is_none (number_in (constant_value code))

none_is : (ks : List ℕ) → is_none ks ≡ true → ks ≡ []
none_is [] e = refl
none_is (k ∷ ks) e = absurd cc

module _ (a b c : Bool) (x y z w : List ℕ) where
  last_of : not a && not b && not c && is_none w ≡ true → (if a then x else if b then y else if c then z else w) ≡ []
  last_of e = elim (cases_Bool a) [
    | inl is ↦ absurd (no (rw is at e))
    | inr one ↦ elim (cases_Bool b) [
      | inl is ↦ absurd (no (rw (one, is) at e))
      | inr two ↦ elim (cases_Bool c) [
        | inl is ↦ absurd (no (rw (one, two, is) at e))
        | inr three ↦ rw (one, two, three) (none_is w (rw (one, two, three) at e))
      ]
    ]
  ]
    where
      no : false ≡ true → ⊥
      no h = cc

pub no_number : (op : List ℕ) (code : ℕ) → number op ≡ code → names_no_number code ≡ true → op_constants op ≡ []
no_number op code is e =
    last_of (number op == EQ_ID_VAL) (number op == EQ_ID_VAL_LIST) (is_among (number op) uints) (eq_id_val_value op ∷ []) (eq_id_val_list_values op) (uint_value op ∷ []) (number_in (constant_value (number op)))
    (ap names_no_number is ∙ e)

pub plain_other : (k : Constant) → (k ≡ Zero → ⊥) → (k ≡ One → ⊥) → (k ≡ Ones → ⊥) → number_in (constant_value (constant_code k)) ≡ []
unfolding constant_value
plain_other True a b c = refl
plain_other False a b c = refl
plain_other Zero a b c = absurd (a refl)
plain_other One a b c = absurd (b refl)
plain_other Ones a b c = absurd (c refl)
plain_other Undefined a b c = refl

pub of_zero : (k : Constant) → k ≡ Zero → number_in (constant_value (constant_code k)) ≡ 0 ∷ []
unfolding constant_value
of_zero k e = ap (λ (k : Constant). number_in (constant_value (constant_code k))) e

pub of_one : (k : Constant) → k ≡ One → number_in (constant_value (constant_code k)) ≡ 1 ∷ []
unfolding constant_value
of_one k e = ap (λ (k : Constant). number_in (constant_value (constant_code k))) e

pub of_ones : (k : Constant) → k ≡ Ones → number_in (constant_value (constant_code k)) ≡ 18446744073709551615 ∷ []
unfolding constant_value
of_ones k e = ap (λ (k : Constant). number_in (constant_value (constant_code k))) e

pub unary_none : (u : Unary) → names_no_number (unary_code u) ≡ true
unfolding constant_value
unary_none Not = refl
unary_none BitwiseNot = refl

pub binary_none : (b : Binary) → names_no_number (binary_code b) ≡ true
unfolding constant_value
binary_none And = refl
binary_none Or = refl
binary_none Equal = refl
binary_none NotEqual = refl
binary_none GreaterThan = refl
binary_none GreaterEqual = refl
binary_none LessThan = refl
binary_none LessEqual = refl
binary_none BitwiseAnd = refl
binary_none BitwiseOr = refl
binary_none ShiftLeft = refl
binary_none ShiftRight = refl
binary_none Add = refl
binary_none Subtract = refl
binary_none Multiply = refl
binary_none Divide = refl
binary_none Modulo = refl

pub ids_none : names_no_number EQ_ID_ID ≡ true
unfolding constant_value
ids_none = refl

pub reference_none : names_no_number QUESTION_REF1 ≡ true
unfolding constant_value
reference_none = refl

pub this_none : names_no_number THIS ≡ true
unfolding constant_value
this_none = refl

pub rule_none : names_no_number RULE_REF ≡ true
unfolding constant_value
rule_none = refl

pub passes_over : (q : Asked) (keys : List ℤ) (ks : List ℕ) → ks ≡ [] → keys ≡ offered_near q keys ks
passes_over q keys ks e = ap (offered_near q keys) (sym e)

-- what names no number adds nothing
pub near_passed : (q : Asked) (old : List ℤ) (left rest all : List ℕ) (first : List ℤ) → left ≡ rest → offered_near q old left ≡ offered_near q first all → offered_near q old rest ≡ offered_near q first all
near_passed q old left rest all first e inv = ap (offered_near q old) (sym e) ∙ inv

-- ---- conditions that ask

pub asked_next : (ns : List Node) (q : Asked) (id : ℕ) (old new first : List ℤ) (left rest : List Node) (all : List ℕ) (c : Node) → left ≡ c ∷ rest → asks ns id c ≡ true → new ≡ offered_near q old (constants ns c)
    → offered_near q old (constants_about ns left id) ≡ offered_near q first all → offered_near q new (constants_about ns rest id) ≡ offered_near q first all
asked_next ns q id old new first left rest all c e is f inv =
    near_left q old new (constants_about ns left id) (constants ns c) (constants_about ns rest id) all first
    (ap (λ (l : List Node). constants_about ns l id) e ∙ ap (flat_map (constants ns)) (cond-true (asks ns id c) (c ∷ filter (asks ns id) rest) (filter (asks ns id) rest) is)) f inv

pub asked_passed : (ns : List Node) (q : Asked) (id : ℕ) (old first : List ℤ) (left rest : List Node) (all : List ℕ) (c : Node) → left ≡ c ∷ rest → asks ns id c ≡ false
    → offered_near q old (constants_about ns left id) ≡ offered_near q first all → offered_near q old (constants_about ns rest id) ≡ offered_near q first all
asked_passed ns q id old first left rest all c e not inv =
    near_passed q old (constants_about ns left id) (constants_about ns rest id) all first
    (ap (λ (l : List Node). constants_about ns l id) e ∙ ap (flat_map (constants ns)) (cond-false (asks ns id c) (c ∷ filter (asks ns id) rest) (filter (asks ns id) rest) not)) inv

-- the bounds, and what is near to some constants
pub all_offered : (q : Asked) (start one two new : List ℤ) (low high : ℤ) (ks : List ℕ) → start ≡ [] → one ≡ offered q start (low ∷ []) → two ≡ offered q one (high ∷ []) → new ≡ offered_near q two ks → low ≡ as_read q.node (numeric_minimum q.node.op) → high ≡ as_read q.node (numeric_maximum q.node.op)
    → new ≡ numeric_values q ks
all_offered q start one two new low high ks begun e f g h k =
    let both : two ≡ offered q [] (low ∷ high ∷ []) = offered_more q [] one two (low ∷ []) (high ∷ []) (e ∙ ap (λ (l : List ℤ). offered q l (low ∷ [])) begun) f in
    let all : new ≡ offered q [] (low ∷ high ∷ flat_map (near_constant q.node) ks) = offered_more q [] two new (low ∷ high ∷ []) (flat_map (near_constant q.node) ks) both g in
    all ∙ ap (λ (z : ℤ). offered q [] (z ∷ high ∷ flat_map (near_constant q.node) ks)) h ∙ ap (λ (z : ℤ). offered q [] (as_read q.node (numeric_minimum q.node.op) ∷ z ∷ flat_map (near_constant q.node) ks)) k
