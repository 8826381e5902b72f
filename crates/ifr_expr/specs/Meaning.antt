-- The value of an expression (UEFI 2.8, 33.2.5.7 Expressions; how rules are found is an own rule).
use Rattle.std.specs.Prelude.{ℕ, Bool, ◌==◌, ◌&&◌, nat_le, nat_lt, if◌then◌else◌, List, [], ◌∷◌}
use Rattle.ifr_opcodes.specs.declared.codes.TheConstants.{EQ_ID_VAL, EQ_ID_ID, EQ_ID_VAL_LIST, QUESTION_REF1, RULE_REF, THIS}
use Rattle.ifr_opcodes.specs.Opcode.{number}
use Rattle.ifr_opcodes.specs.Fields.{eq_id_val_question, eq_id_val_value, eq_id_id_first, eq_id_id_second, eq_id_val_list_question, eq_id_val_list_values, question_ref_question, rule_ref_rule, uint_value, uints}
use Rattle.ifr_opcodes.specs.Forest.{Mark}
use Rattle.ifr_opcodes.specs.Rows.{is_among}
use Rattle.ifr_expr.specs.Trees.{Tree, leaf, one, two}
use Rattle.ifr_expr.specs.Values.{Value, undefined, natural, are_same, is_one_of, constant_value, unary_value, binary_value}

-- what the question of an id answers; id 0 has no answer
abbrev pub answered : (ℕ → Value) → ℕ → Value
answered answers id = if id == 0 then undefined else answers id

-- the value of an operator without operands, by what the rules of an id are for a place, what questions answer, and the id of
-- the question in whose scope it stands, 0 for none
unfoldable pub leaf_value : (ℕ → ℕ → Value) → (ℕ → Value) → ℕ → Mark → Value
leaf_value rules answers this op =
    if number op.op == EQ_ID_VAL
    then are_same (answered answers (eq_id_val_question op.op)) (natural (eq_id_val_value op.op))
    else (if number op.op == EQ_ID_ID
    then are_same (answered answers (eq_id_id_first op.op))
    (answered answers (eq_id_id_second op.op))
    else (if number op.op == EQ_ID_VAL_LIST
    then is_one_of (answered answers (eq_id_val_list_question op.op)) (eq_id_val_list_values op.op)
    else (if number op.op == QUESTION_REF1 then answered answers (question_ref_question op.op)
    else (if number op.op == RULE_REF then rules (rule_ref_rule op.op) op.place
    else (if number op.op == THIS then answered answers this
    else (if is_among (number op.op) uints then natural (uint_value op.op)
    else constant_value (number op.op)))))))

-- the value of a tree
abbrev pub value_over : (ℕ → ℕ → Value) → (ℕ → Value) → ℕ → Tree → Value
value_over rules answers this (leaf op) = leaf_value rules answers this op
value_over rules answers this (one op operand) =
    unary_value (number op.op) (value_over rules answers this operand)
value_over rules answers this (two op left right) =
    binary_value (number op.op) (value_over rules answers this left)
    (value_over rules answers this right)

-- A rule: its id, where its scope ends and where that of its form does, in bytes from the package's header, and its
-- expression.
pub record Rule : Type 0 where
  pub id : ℕ
  pub ends : ℕ
  pub form_ends : ℕ
  pub tree : Tree

-- A reference to an id names a rule of that id in whose form it stands, behind the rule.
abbrev pub names : ℕ → ℕ → Rule → Bool
names id place r = (r.id == id) && (nat_le r.ends place && nat_lt place r.form_ends)

-- the values of the rules of an id for a place, where the latest rule stands first: that of the first that is named, over the
-- rules before it; THIS in it has no answer
unfoldable pub rule_values : List Rule → (ℕ → Value) → ℕ → ℕ → Value
rule_values [] answers id place = undefined
rule_values (r ∷ earlier) answers id place =
    if names id place r then value_over (rule_values earlier answers) answers 0 r.tree
    else rule_values earlier answers id place

-- the value of a tree, over rules of which the latest stands first
abbrev pub value : List Rule → (ℕ → Value) → ℕ → Tree → Value
value rules answers this tree = value_over (rule_values rules answers) answers this tree
