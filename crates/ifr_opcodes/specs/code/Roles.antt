-- What the role of an opcode tells.
use Rattle.std.specs.Prelude.{ℕ, Bool, true, false, Option, Some, None, slice_index_or}
use Rattle.ifr_opcodes.specs.declared.columns.TheConstants.{ROLES}
use Rattle.ifr_opcodes.specs.declared.role.Role.{Role}
use Rattle.ifr_opcodes.specs.declared.role.Role.TheVariants.{Unknown, Store, Condition, Ignored, Statement, Question, Leaf, Unary, Binary}

-- the role of a number
unfoldable pub role_of : ℕ → Role
role_of code = slice_index_or ROLES code Unknown

-- whether it is known
abbrev pub is_known : Role → Bool
is_known Unknown = false
is_known _ = true

-- whether it is a question, and whether it is a statement
abbrev pub is_question : Role → Bool
is_question Question = true
is_question _ = false

abbrev pub is_statement : Role → Bool
is_statement Statement = true
is_statement Question = true
is_statement _ = false

-- whether it is a store, a condition that a question has beside its options, or of no effect
abbrev pub is_store : Role → Bool
is_store Store = true
is_store _ = false

abbrev pub is_condition : Role → Bool
is_condition Condition = true
is_condition _ = false

abbrev pub is_ignored : Role → Bool
is_ignored Ignored = true
is_ignored _ = false

-- how many operands it takes, if it is an operator
abbrev pub operands : Role → Option ℕ
operands Leaf = Some 0
operands Unary = Some 1
operands Binary = Some 2
operands _ = None
