-- The rows want as many bytes of each opcode as the code asks for.
use Rattle.std.proofs.Common.{◌≡◌, ◌==◌, ℕ, zero, suc, ◌+◌, ◌*◌, ◌^◌, ◌≤◌, ◌<◌, Bool, true, false, cond, Option, Some, None, is_some, List, [], ◌∷◌, length, refl, sym, ap, ◌∙◌, map, arith, add-zero, inl, inr}
use Rattle.std.specs.Prelude.{◌&&◌, ◌||◌, nat_lt, if◌then◌else◌, bit_and}
use Rattle.std.specs.List.{find}
use Rattle.std.proofs.lemmas.Bool.{cases_Bool, lt-ltb, le-ltb, ltb-true, ltb-false, false≢true}
use Rattle.std.proofs.lemmas.Nat.{and_le_r}
use Rattle.browser_rules.specs.Opcodes.{Row, rows, row_of, number_width, type_width}
use Rattle.ifr_opcodes.specs.StoreFields.{varstore_name, varstore_efi_name}
use Rattle.ifr_opcodes.specs.QuestionFields.{numeric_flags}
use Rattle.ifr_opcodes.specs.OptionFields.{option_kind, default_kind}
use Rattle.ifr_opcodes.specs.ExpressionFields.{eq_id_val_list_count}
use Rattle.ifr_opcodes.specs.Rows.{is_listed, is_short}
use Rattle.ifr_opcodes.specs.code.Tables.{fields_in, fields_length, row_length, least_length}
use Rattle.ifr_opcodes.specs.declared.codes.TheConstants.{VARSTORE, VARSTORE_EFI, NUMERIC, ONE_OF, ONE_OF_OPTION, DEFAULT, EQ_ID_VAL_LIST}
use Rattle.ifr_opcodes.proofs.TableLemmas.{numbers, agree, not_this}

-- ---- widths

width_of_low : (low : ℕ) → low ≤ 3 → 2 ^ low ≡ cond (low == 0) 1 (cond (low == 1) 2 (cond (low == 2) 4 8))
width_of_low zero few = refl
width_of_low (suc zero) few = refl
width_of_low (suc (suc zero)) few = refl
width_of_low (suc (suc (suc zero))) few = refl
width_of_low (suc (suc (suc (suc n)))) few = absurd (omega arith)

pub number_widths : (flags : ℕ) → number_width flags ≡ cond (bit_and flags 3 == 0) 1 (cond (bit_and flags 3 == 1) 2 (cond (bit_and flags 3 == 2) 4 8))
number_widths flags = width_of_low (bit_and flags 3) (and_le_r flags 3)

-- of the Types from 8 on no bytes are asked for
pub none_asked : (kind : ℕ) → 8 ≤ kind → type_width kind ≡ 0
none_asked zero high = absurd (omega arith)
none_asked (suc zero) high = absurd (omega arith)
none_asked (suc (suc zero)) high = absurd (omega arith)
none_asked (suc (suc (suc zero))) high = absurd (omega arith)
none_asked (suc (suc (suc (suc zero)))) high = absurd (omega arith)
none_asked (suc (suc (suc (suc (suc zero))))) high = absurd (omega arith)
none_asked (suc (suc (suc (suc (suc (suc zero)))))) high = absurd (omega arith)
none_asked (suc (suc (suc (suc (suc (suc (suc zero))))))) high = absurd (omega arith)
none_asked (suc (suc (suc (suc (suc (suc (suc (suc n)))))))) high = refl

-- ---- how many bytes an opcode has

-- what stands behind some bytes is asked for only where these are there
short_behind : (long ends more : ℕ) → nat_lt long (ends + cond (nat_lt long ends) 0 more) ≡ nat_lt long (ends + more)
short_behind long ends more = elim (cases_Bool (nat_lt long ends)) [
  | inl less ↦
      let few : long < ends = ltb-true long ends less in
      rw less (lt-ltb long (ends + 0) (omega (arith, few)) ∙ sym (lt-ltb long (ends + more) (omega (arith, few))))
  | inr all ↦ rw all refl
]

short_or : (long ends more : ℕ) → nat_lt long (cond (nat_lt long ends) ends (ends + more)) ≡ nat_lt long (ends + more)
short_or long ends more = elim (cases_Bool (nat_lt long ends)) [
  | inl less ↦
      let few : long < ends = ltb-true long ends less in
      rw less (less ∙ sym (lt-ltb long (ends + more) (omega (arith, few))))
  | inr all ↦ rw all refl
]

behind : List ℕ → ℕ → ℕ → ℕ
behind op ends more = ends + (if nat_lt (length op) ends then 0 else more)

-- what the row of each number asks for
asked : List ℕ → ℕ → ℕ
asked op code =
    if code == VARSTORE then behind op 22 (length (varstore_name op) + 1)
    else (if code == VARSTORE_EFI then behind op 26 (length (varstore_efi_name op) + 1)
    else (if code == NUMERIC || code == ONE_OF then behind op 14 (3 * number_width (numeric_flags op))
    else (if code == ONE_OF_OPTION then behind op 6 (type_width (option_kind op))
    else (if code == DEFAULT then behind op 5 (type_width (default_kind op))
    else (if code == EQ_ID_VAL_LIST then behind op 6 (2 * eq_id_val_list_count op)
    else behind op (fields_length code) 0)))))

either : (f : ℕ → Bool) (b : Bool) (x x' y y' : ℕ) → f x ≡ f x' → f y ≡ f y' → f (cond b x y) ≡ f (cond b x' y')
either f true x x' y y' here there = here
either f false x x' y y' here there = there

-- is what is asked for of an opcode of the number
asked_same : (op : List ℕ) (code : ℕ) → nat_lt (length op) (asked op code) ≡ nat_lt (length op) (row_length code op)
unfolding asked behind
asked_same op code =
    let long : ℕ = length op in
    let f : ℕ → Bool = λ n. nat_lt long n in
    let store : 22 + (length (varstore_name op) + 1) ≡ 23 + length (varstore_name op) = omega arith in
    let efi : 26 + (length (varstore_efi_name op) + 1) ≡ 27 + length (varstore_efi_name op) = omega arith in
    let fixed : fields_length code + 0 ≡ fields_length code = add-zero (fields_length code) in
    either f (code == VARSTORE) _ _ _ _ (short_behind long 22 _ ∙ ap f store)
    (either f (code == VARSTORE_EFI) _ _ _ _ (short_behind long 26 _ ∙ ap f efi)
    (either f (code == NUMERIC || code == ONE_OF) _ _ _ _
    (short_behind long 14 _ ∙ sym (short_or long 14 (3 * number_width (numeric_flags op))))
    (either f (code == ONE_OF_OPTION) _ _ _ _
    (short_behind long 6 _ ∙ sym (short_or long 6 (type_width (option_kind op))))
    (either f (code == DEFAULT) _ _ _ _
    (short_behind long 5 _ ∙ sym (short_or long 5 (type_width (default_kind op))))
    (either f (code == EQ_ID_VAL_LIST) _ _ _ _
    (short_behind long 6 _ ∙ sym (short_or long 6 (2 * eq_id_val_list_count op)))
    (short_behind long (fields_length code) 0 ∙ ap f fixed))))))

short_in_rows : (rest : List ℕ) → map (λ c. is_short (c ∷ rest)) numbers ≡ map (λ c. is_listed c && nat_lt (length (c ∷ rest)) (asked (c ∷ rest) c)) numbers
unfolding row_of asked behind
short_in_rows rest = refl

none_short : (rest : List ℕ) (code : ℕ) → row_of code ≡ None → is_short (code ∷ rest) ≡ is_listed code && nat_lt (length (code ∷ rest)) (asked (code ∷ rest) code)
none_short rest code none = rw none refl

-- The rows take an opcode for short exactly where it is known and has fewer bytes than are asked for.
known_short : (code : ℕ) (rest : List ℕ) → is_short (code ∷ rest) ≡ is_listed code && nat_lt (length (code ∷ rest)) (least_length (code ∷ rest))
known_short code rest =
    agree (λ c. is_short (c ∷ rest)) (λ c. is_listed c && nat_lt (length (c ∷ rest)) (asked (c ∷ rest) c)) (short_in_rows rest) (none_short rest) code
    ∙ ap (λ b. is_listed code && b) (asked_same (code ∷ rest) code)

-- ---- of an opcode that is not known two bytes are asked for

none_in : (table : List Row) (code : ℕ) → find (λ r. r.number == code) table ≡ None → fields_in table code ≡ 2
none_in [] code none = refl
none_in (r ∷ table) code none = elim (cases_Bool (r.number == code)) [
  | inl here ↦ absurd (let found = rw here at none in cc)
  | inr other ↦ rw other (none_in table code (rw other at none))
]

none_fields : (code : ℕ) → row_of code ≡ None → fields_length code ≡ 2
unfolding row_of
none_fields code none = none_in rows code none

none_wants : (op : List ℕ) (code : ℕ) → row_of code ≡ None → row_length code op ≡ 2
none_wants op code none =
    rw (not_this VARSTORE code refl none, not_this VARSTORE_EFI code refl none, not_this NUMERIC code refl none, not_this ONE_OF code refl none, not_this ONE_OF_OPTION code refl none, not_this DEFAULT code refl none, not_this EQ_ID_VAL_LIST code refl none)
    (none_fields code none)

no_row : (o : Option Row) → is_some o ≡ false → o ≡ None
no_row None e = refl
no_row (Some r) e = absurd (false≢true (sym e))

-- So an opcode is short exactly where it has fewer bytes than are asked for.
pub short : (op : List ℕ) → 2 ≤ length op → is_short op ≡ nat_lt (length op) (least_length op)
short [] long = absurd (omega (arith, long))
short (code ∷ rest) long = known_short code rest ∙ elim (cases_Bool (is_listed code)) [
  | inl known ↦ rw known refl
  | inr other ↦
      let none : row_of code ≡ None = no_row (row_of code) other in
      rw (other, none_wants (code ∷ rest) code none) (sym (le-ltb (length (code ∷ rest)) 2 long))
]

pub all_there : (op : List ℕ) → 2 ≤ length op → is_short op ≡ false → least_length op ≤ length op
all_there op long whole = ltb-false (length op) (least_length op) (sym (short op long) ∙ whole)

pub not_short : (op : List ℕ) → 2 ≤ length op → least_length op ≤ length op → is_short op ≡ false
not_short op long whole = short op long ∙ le-ltb (length op) (least_length op) whole
