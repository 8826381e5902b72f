-- The rows refuse the same opcodes as the code, and have the operators that the tables list.
use Rattle.std.proofs.Common.{◌≡◌, ◌==◌, ◌≤◌, ℕ, Bool, true, false, not, Option, Some, None, is_some, List, [], ◌∷◌, length, refl, sym, ap, ◌∙◌, map}
use Rattle.std.specs.Prelude.{◌&&◌, ◌||◌, nat_lt, nat_le, if◌then◌else◌, slice_index, option_map, unwrap_or}
use Rattle.std.proofs.lemmas.Bool.{and_from, and_parts, eqb-true, le-leb, ltb-false, not-true, or_from, or_parts, eq-eqb, ne_eqb, not-false, not_from_true, not_from_false, false≢true}
use Rattle.browser_rules.specs.Opcodes.{Row, row_of, is_a, an_operator, no_operator}
use Rattle.browser_rules.specs.Words.{is_among, is_some_and}
use Rattle.ifr_opcodes.specs.Opcode.{number, has_scope}
use Rattle.ifr_opcodes.specs.OptionFields.{option_kind, default_kind}
use Rattle.ifr_opcodes.specs.Rows.{operands_of, operands, is_operator, is_listed, is_left_out, is_outside, is_row}
use Rattle.ifr_opcodes.specs.code.Tables.{without_operands, with_one_operand, with_two_operands, operands_among}
use Rattle.ifr_opcodes.specs.declared.codes.TheConstants.{GUID, VARSTORE_EFI, ONE_OF_OPTION, DEFAULT}
use Rattle.ifr_opcodes.proofs.FieldLemmas.{number_of_byte}
use Rattle.ifr_opcodes.proofs.TableLemmas.{numbers, agree, not_this, not_among}

-- ---- operators

none_among : (code : ℕ) → row_of code ≡ None → operands_among code ≡ None
none_among code none =
    rw (not_among without_operands code refl none, not_among with_one_operand code refl none, not_among with_two_operands code refl none) refl

takes_in_rows : map operands numbers ≡ map operands_among numbers
unfolding operands row_of
takes_in_rows = refl

pub none_takes : (code : ℕ) → row_of code ≡ None → operands code ≡ None
unfolding operands
none_takes code none = rw none refl

pub takes : (code : ℕ) → operands code ≡ operands_among code
takes code = agree operands operands_among takes_in_rows (λ c none. none_takes c none ∙ sym (none_among c none)) code

operator_in_rows : map (λ c. is_a an_operator (c ∷ [])) numbers ≡ map is_operator numbers
unfolding row_of operands
operator_in_rows = refl

pub operator_same : (code : ℕ) → is_a an_operator (code ∷ []) ≡ is_operator code
operator_same code = agree (λ c. is_a an_operator (c ∷ [])) is_operator operator_in_rows (λ c none. rw (none, none_takes c none) refl) code

-- ---- which are refused

-- as the numbers of some opcodes are, by their bytes
left_out : List ℕ → ℕ → Bool
left_out op code =
    if code == GUID then has_scope op
    else (if code == VARSTORE_EFI then length op == 24
    else (if code == ONE_OF_OPTION then nat_le 6 (length op) && nat_lt 4 (slice_index op 5)
    else (if code == DEFAULT then nat_le 5 (length op) && nat_lt 0x0c (slice_index op 4)
    else false)))

is_refused : List ℕ → ℕ → Bool
is_refused op code = is_some_and (λ r. r.refused op) (row_of code)

refused_in_rows : (op : List ℕ) → map (is_refused op) numbers ≡ map (left_out op) numbers
unfolding left_out is_refused row_of
refused_in_rows op = refl

none_refused : (op : List ℕ) (code : ℕ) → row_of code ≡ None → is_refused op code ≡ left_out op code
unfolding left_out is_refused
none_refused op code none =
    rw (none, not_this GUID code refl none, not_this VARSTORE_EFI code refl none, not_this ONE_OF_OPTION code refl none, not_this DEFAULT code refl none) refl

pub refused : (op : List ℕ) → is_left_out op ≡ (if number op == GUID then has_scope op
    else (if number op == VARSTORE_EFI then length op == 24
    else (if number op == ONE_OF_OPTION then nat_le 6 (length op) && nat_lt 4 (option_kind op)
    else (if number op == DEFAULT then nat_le 5 (length op) && nat_lt 0x0c (default_kind op)
    else false))))
unfolding left_out is_refused
refused op =
    let option : slice_index op 5 ≡ option_kind op = number_of_byte op 5 in
    let default : slice_index op 4 ≡ default_kind op = number_of_byte op 4 in
    agree (is_refused op) (left_out op) (refused_in_rows op) (none_refused op) (number op) ∙ rw (option, default) refl

-- It is outside where it has no row, or its row refuses it.
or_refused : (op : List ℕ) (o : Option Row) → not (is_some_and (λ r. not (r.refused op)) o) ≡ not (is_some o) || is_some_and (λ r. r.refused op) o
or_refused op None = refl
or_refused op (Some r) = not_not (r.refused op)
  where
    not_not : (b : Bool) → not (not b) ≡ b
    not_not true = refl
    not_not false = refl

pub outside : (op : List ℕ) → is_outside op ≡ not (is_listed (number op)) || is_left_out op
outside op = or_refused op (row_of (number op))

pub inside : (op : List ℕ) → is_listed (number op) ≡ true → is_left_out op ≡ false → is_outside op ≡ false
inside op there stays = outside op ∙ or_from (not (is_listed (number op))) (is_left_out op) (not_from_true (is_listed (number op)) there) stays

pub inside_parts : (op : List ℕ) → is_outside op ≡ false → (is_listed (number op) ≡ true) × (is_left_out op ≡ false)
inside_parts op e =
    let parts = or_parts (not (is_listed (number op))) (is_left_out op) (sym (outside op) ∙ e) in
    (not-false (is_listed (number op)) parts.0, parts.1)

pub row_from : (op : List ℕ) (code : ℕ) → number op ≡ code → is_left_out op ≡ false → is_row code op ≡ true
row_from op code same stays = and_from (number op == code) (not (is_left_out op)) (eq-eqb (number op) code same) (not_from_false (is_left_out op) stays)

-- an option of its row has a value that is a number or a Boolean, and a default of its row a Type that is defined
kind_within : (there : Bool) (kind most : ℕ) → there ≡ true → there && nat_lt most kind ≡ false → kind ≤ most
kind_within true kind most is e = ltb-false most kind e
kind_within false kind most is e = absurd (false≢true is)

pub option_numeric : (op : List ℕ) → is_row ONE_OF_OPTION op ≡ true → 6 ≤ length op → option_kind op ≤ 4
option_numeric op is long =
    let parts = and_parts (number op == ONE_OF_OPTION) (not (is_left_out op)) is in
    let same : number op ≡ ONE_OF_OPTION = eqb-true (number op) ONE_OF_OPTION parts.0 in
    kind_within (nat_le 6 (length op)) (option_kind op) 4 (le-leb 6 (length op) long) (rw same at (sym (refused op) ∙ not-true (is_left_out op) parts.1))

pub default_known : (op : List ℕ) → is_row DEFAULT op ≡ true → 5 ≤ length op → default_kind op ≤ 0x0c
default_known op is long =
    let parts = and_parts (number op == DEFAULT) (not (is_left_out op)) is in
    let same : number op ≡ DEFAULT = eqb-true (number op) DEFAULT parts.0 in
    kind_within (nat_le 5 (length op)) (default_kind op) 0x0c (le-leb 5 (length op) long) (rw same at (sym (refused op) ∙ not-true (is_left_out op) parts.1))

-- ---- no operator is refused by its number

other : (code n : ℕ) → is_operator n ≡ false → is_operator code ≡ true → (code == n) ≡ false
other code n none known = ne_eqb code n (λ e. false≢true (sym none ∙ ap is_operator (sym e) ∙ known))

plain : (is_operator GUID ≡ false) × (is_operator VARSTORE_EFI ≡ false) × (is_operator ONE_OF_OPTION ≡ false) × (is_operator DEFAULT ≡ false)
unfolding operands row_of
plain = (refl, refl, refl, refl)

operator_known : (code : ℕ) → is_operator code ≡ true → is_listed code ≡ true
unfolding operands
operator_known code is = go (row_of code) is
  where
    go : (o : Option Row) → is_some (operands_of (unwrap_or (option_map (λ r. r.sense) o) no_operator)) ≡ true → is_some o ≡ true
    go None e = e
    go (Some r) e = refl

pub operator_inside : (op : List ℕ) → is_operator (number op) ≡ true → is_outside op ≡ false
operator_inside op is =
    let there : is_listed (number op) ≡ true = operator_known (number op) is in
    let stays : is_left_out op ≡ false =
    refused op ∙ rw (other (number op) GUID plain.0 is, other (number op) VARSTORE_EFI plain.1 is, other (number op) ONE_OF_OPTION plain.2 is, other (number op) DEFAULT plain.3 is) refl in
    inside op there stays
