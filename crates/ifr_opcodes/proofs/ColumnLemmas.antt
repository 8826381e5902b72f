-- The columns of the code say at each number of one byte what the rows say, by computing.
use Rattle.std.proofs.Common.{◌≡◌, ℕ, ◌<◌, List, map, get_or, refl, sym, ◌∙◌, arith}
use Rattle.std.specs.List.{range_with_len}
use Rattle.std.proofs.Math.ListN.{get_or-map}
use Rattle.std.proofs.lemmas.List.FromFn.{get_or-map-range_with_len}
use Rattle.browser_rules.specs.Opcodes.{row_of}
use Rattle.ifr_opcodes.specs.Rows.{is_listed, is_question_number, is_statement_number, is_store_number, is_condition_number, is_ignored, operands}
use Rattle.ifr_opcodes.specs.code.Roles as roles
use Rattle.ifr_opcodes.specs.code.Roles.{role_of}
use Rattle.ifr_opcodes.specs.code.Tables.{fields_length}
use Rattle.ifr_opcodes.specs.declared.columns.TheConstants.{LENGTHS, ROLES}
use Rattle.ifr_opcodes.specs.declared.role.Role.{Role}
use Rattle.ifr_opcodes.specs.declared.role.Role.TheVariants.{Unknown}

-- What is said of a number is what is read of its entry, where it is so of each number below one.
pub at_each : {A B : Type 0} (read : A → B) (says : ℕ → B) (column : List A) (n : ℕ) → map read column ≡ map says (range_with_len 0 n)
    → (code : ℕ) (none : A) → code < n → says code ≡ read (get_or column code none)
at_each read says column n each code none less =
    let said : get_or (map read column) code (read none) ≡ says code = rw each (get_or-map-range_with_len says 0 n code code (read none) less (omega arith)) in
    sym said ∙ get_or-map read column code none

-- ---- the bytes of fields

lengths : map (λ length. length) LENGTHS ≡ map fields_length (range_with_len 0 256)
lengths = refl

pub length_at : (code : ℕ) → code < 256 → fields_length code ≡ get_or LENGTHS code 0
length_at code less = at_each (λ length. length) fields_length LENGTHS 256 lengths code 0 less

-- ---- which are known, what they are, and how many operands operators take

by_role : {B : Type 0} (read : Role → B) (says : ℕ → B) → map read ROLES ≡ map says (range_with_len 0 256) → (code : ℕ) → code < 256 → says code ≡ read (role_of code)
unfolding role_of
by_role read says each code less = at_each read says ROLES 256 each code Unknown less

known : map roles.is_known ROLES ≡ map is_listed (range_with_len 0 256)
unfolding row_of
known = refl

pub known_at : (code : ℕ) → code < 256 → is_listed code ≡ roles.is_known (role_of code)
known_at code less = by_role roles.is_known is_listed known code less

questions : map roles.is_question ROLES ≡ map is_question_number (range_with_len 0 256)
unfolding row_of is_question_number
questions = refl

pub question_at : (code : ℕ) → code < 256 → is_question_number code ≡ roles.is_question (role_of code)
question_at code less = by_role roles.is_question is_question_number questions code less

statements : map roles.is_statement ROLES ≡ map is_statement_number (range_with_len 0 256)
unfolding row_of is_statement_number
statements = refl

pub statement_at : (code : ℕ) → code < 256 → is_statement_number code ≡ roles.is_statement (role_of code)
statement_at code less = by_role roles.is_statement is_statement_number statements code less

stores : map roles.is_store ROLES ≡ map is_store_number (range_with_len 0 256)
unfolding row_of is_store_number
stores = refl

pub store_at : (code : ℕ) → code < 256 → is_store_number code ≡ roles.is_store (role_of code)
store_at code less = by_role roles.is_store is_store_number stores code less

conditions : map roles.is_condition ROLES ≡ map is_condition_number (range_with_len 0 256)
unfolding row_of is_condition_number
conditions = refl

pub condition_at : (code : ℕ) → code < 256 → is_condition_number code ≡ roles.is_condition (role_of code)
condition_at code less = by_role roles.is_condition is_condition_number conditions code less

of_no_effect : map roles.is_ignored ROLES ≡ map is_ignored (range_with_len 0 256)
unfolding row_of is_ignored
of_no_effect = refl

pub ignored_at : (code : ℕ) → code < 256 → is_ignored code ≡ roles.is_ignored (role_of code)
ignored_at code less = by_role roles.is_ignored is_ignored of_no_effect code less

takers : map roles.operands ROLES ≡ map operands (range_with_len 0 256)
unfolding row_of operands
takers = refl

pub operands_at : (code : ℕ) → code < 256 → operands code ≡ roles.operands (role_of code)
operands_at code less = by_role roles.operands operands takers code less
