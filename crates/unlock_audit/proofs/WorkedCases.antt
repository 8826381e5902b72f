-- Worked values of the definitions of what is tried, and of how it is told.
use Rattle.std.proofs.Common.{◌≡◌, ℕ, true, Some, None, List, [], ◌∷◌, codes, refl}
use Rattle.std.specs.Prelude.{negsuc, pos, nat_eq}
use Rattle.std.specs.Fmt.{digits}
use Rattle.std.specs.Ordering.{nat_cmp}
use Rattle.browser_rules.specs.Words.{number_in}
use Rattle.ifr_opcodes.specs.Forest.{none}
use Rattle.ifr_expr.specs.Values.{constant_value}
use Rattle.hii_questions.specs.Fields.{Asked}
use Rattle.unlock_audit.specs.Asking.{with_ids}
use Rattle.unlock_audit.specs.Constants.{op_constants}
use Rattle.unlock_audit.specs.Moves.{numeric_values}
use Rattle.unlock_audit.specs.Rising.{once, rising, up_to}
use Rattle.unlock_audit.specs.Told.{answer_words, bytes_text, set_text}
use Rattle.unlock_audit.specs.Tries.{longer}
use Rattle.unlock_audit.specs.Unlock as unlock
use Rattle.unlock_audit.specs.Unlock.{Unlock}
use Rattle.unlock_audit.specs.declared.moves.Move.{Move}

numbers : rising nat_cmp (3 ∷ 1 ∷ 3 ∷ 2 ∷ []) ≡ 1 ∷ 2 ∷ 3 ∷ []
numbers = refl

firsts : once nat_eq (3 ∷ 1 ∷ 3 ∷ 2 ∷ 1 ∷ []) ≡ 3 ∷ 1 ∷ 2 ∷ []
firsts = refl

-- an id comes once, behind those before it
ids : with_ids (5 ∷ []) (3 ∷ 5 ∷ 4 ∷ 3 ∷ []) ≡ 5 ∷ 3 ∷ 4 ∷ []
ids = refl

front : up_to (nat_eq 2) (1 ∷ 2 ∷ 3 ∷ []) ≡ 1 ∷ 2 ∷ []
front = refl

-- EQ_ID_VAL, EQ_ID_VAL_LIST, UINT16, ONE and TRUE
of_value : op_constants (0x12 ∷ 6 ∷ 33 ∷ 0 ∷ 2 ∷ 1 ∷ []) ≡ 0x102 ∷ []
unfolding number_in
of_value = refl

of_list : op_constants (0x14 ∷ 10 ∷ 50 ∷ 0 ∷ 2 ∷ 0 ∷ 0 ∷ 0 ∷ 0xE8 ∷ 3 ∷ []) ≡ 0 ∷ 1000 ∷ []
unfolding number_in
of_list = refl

of_uint : op_constants (0x43 ∷ 4 ∷ 7 ∷ 0 ∷ []) ≡ 7 ∷ []
unfolding number_in
of_uint = refl

of_one : op_constants (0x53 ∷ 2 ∷ []) ≡ 1 ∷ []
unfolding constant_value
of_one = refl

of_true : op_constants (0x46 ∷ 2 ∷ []) ≡ []
unfolding constant_value
of_true = refl

-- a NUMERIC of a byte from -20 to 20, which conditions compare with 251, as which it answers where it is -5, and with 300
abbrev signed : Asked
signed = record {
  node = record {
    place = 10;
    op = 0x07 ∷ 17 ∷ 0 ∷ 0 ∷ 0 ∷ 0 ∷ 37 ∷ 0 ∷ 1 ∷ 0 ∷ 0 ∷ 0 ∷ 0 ∷ 0 ∷ 0xEC ∷ 0x14 ∷ 1 ∷ [];
    path = [];
    children = none;
  };
  field = Some record { store = 1; offset = 0; width = 1 };
}

near_five : numeric_values signed (251 ∷ 300 ∷ []) ≡ negsuc 19 ∷ negsuc 5 ∷ negsuc 4 ∷ negsuc 3 ∷ pos 20 ∷ []
unfolding number_in
near_five = refl

-- ---- how it is told

abbrev move : ℕ → ℕ → Move
move id value = record { id = id; value = pos value }

two_more : longer (move 32 0 ∷ move 32 1 ∷ []) (move 48 1 ∷ []) ≡ (move 48 1 ∷ move 32 0 ∷ []) ∷ (move 48 1 ∷ move 32 1 ∷ []) ∷ []
two_more = refl

negative : set_text record { id = 37; value = negsuc 4 } ≡ codes "set 37 -5"
unfolding digits
negative = refl

lowest_first : bytes_text (2 ∷ 1 ∷ []) ≡ codes "=0x0102"
lowest_first = refl

abbrev known : unlock.Answer → List ℕ → Unlock
known answer ids = record { verdict = None; answer = answer; ids = ids; tried = 4096 }

commands_told : answer_words [] signed (known unlock.more []) (unlock.found true (move 52 0 ∷ move 48 1 ∷ [])) ≡ codes "set 52 0; set 48 1; submit; open again"
unfolding digits
commands_told = refl

more_told : answer_words [] signed (known unlock.more (32 ∷ 33 ∷ [])) unlock.more ≡ codes "not found in 4096 tries: 32, 33"
unfolding digits
more_told = refl

none_told : answer_words [] signed (known unlock.none (32 ∷ [])) unlock.none ≡ codes "not found in 3 commands: 32"
unfolding digits
none_told = refl

driver_told : answer_words [] signed (known unlock.driver (32 ∷ [])) unlock.driver ≡ codes "driver: 32"
unfolding digits
driver_told = refl
