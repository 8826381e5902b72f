-- What the nodes of a checked package have: all their fields, and an expression where they want one.
use Rattle.std.proofs.Common.{◌≡◌, ℕ, ◌+◌, ◌≤◌, Bool, true, false, cond, eqb, ltb, Some, List, [], ◌∷◌, ◌++◌, length, refl, sym, ap, subst, ◌∙◌, arith, inl, inr}
use Rattle.std.specs.Prelude.{◌&&◌, not, Contains}
use Rattle.std.proofs.lemmas.Bool.{cases_Bool, eqb-true, eq-eqb, ltb-true, false≢true, and_from, or_parts}
use Rattle.hii_bytes.specs.Faults.{HasNone}
use Rattle.hii_bytes.specs.declared.cause.Cause.{Cause}
use Rattle.hii_bytes.specs.declared.cause.Cause.TheVariants.{NotFormSet, OpOutside, OpSize, ExprShape}
use Rattle.ifr_opcodes.specs.Opcode.{number}
use Rattle.ifr_opcodes.specs.code.Tables.{row_length, least_length}
use Rattle.ifr_opcodes.specs.Fields.{is_listed, is_left_out, option_kind, default_kind}
use Rattle.ifr_opcodes.specs.declared.codes.TheConstants.{ONE_OF_OPTION, DEFAULT, VALUE}
use Rattle.ifr_opcodes.specs.declared.kinds.TheConstants.{TYPE_BOOLEAN, TYPE_REF}
use Rattle.ifr_opcodes.specs.Rows.{is_operator, is_question_number, is_statement_number}
use Rattle.ifr_opcodes.specs.Forest.{Forest, none, node, Node as Placed, as_ancestor, nodes_at, nodes, below}
use Rattle.ifr_opcodes.specs.code.Marks.{mark}
use Rattle.ifr_opcodes.specs.Reading.{tree_of}
use Rattle.ifr_expr.specs.Faults.{IsExpressionFault}
use Rattle.ifr_expr.specs.Trees.{expression}
use Rattle.ifr_nodes.specs.Table.{wants_expression, wants_value}
use Rattle.ifr_nodes.specs.Nodes.{nodes_of, is_form_set}
use Rattle.ifr_nodes.specs.Structure.{has_structure_fault, first_number, lacks_expression, lacks_value, parent, begins_scope, is_condition}
use Rattle.ifr_nodes.specs.Checked.{IsChecked}
use Rattle.ifr_nodes.specs.code.Checked.{IsAt, node_in}
use Rattle.ifr_nodes.specs.code.Views.{node_of}
use Rattle.ifr_nodes.specs.declared.node.Node.{Node}
use Rattle.ifr_nodes.proofs.ExpressionLemmas.{innermost-push}
use Rattle.ifr_opcodes.proofs.RowLemmas as rows
use Rattle.ifr_opcodes.proofs.RowLemmas.{inside_parts, row_from}
use Rattle.ifr_opcodes.proofs.SizeLemmas.{all_there}
use Rattle.ifr_opcodes.proofs.StatementLemmas.{question_row, statement_row}
use Rattle.ifr_nodes.proofs.PlaceLemmas.{node_stands}
use Rattle.ifr_nodes.proofs.ViewLemmas.{node_there, below_within}

-- the node of a view is one of the package
pub is_node : (bytes : List ℕ) (place : ℕ) (op : List ℕ) → IsChecked bytes → IsAt bytes place op → Contains (nodes_of bytes) (node_in bytes place)
is_node bytes place op checked at =
    let there = node_there bytes place op checked.spelled at in
    subst (λ (n : Placed). Contains (nodes_of bytes) n) (sym there.3) there.2

pub no_fault : (bytes : List ℕ) (n : Placed) (cause : Cause) → IsChecked bytes → Contains (nodes_of bytes) n → has_structure_fault n cause ≡ false
no_fault bytes n cause checked within = elim (cases_Bool (has_structure_fault n cause)) [
  | inl bad ↦ absurd (checked.sound cause n.place (inr (inl (n, within, refl, bad))))
  | inr good ↦ good
]

-- a node has all the fields of its opcode
pub long_enough : (bytes : List ℕ) (n : Placed) → IsChecked bytes → Contains (nodes_of bytes) n → least_length n.op ≤ length n.op
long_enough bytes n checked within = all_there n.op (node_stands bytes (tree_of bytes) n checked.spelled within).2.0.whole.long (no_fault bytes n OpSize checked within)

-- so has that of a view, whose number was tested
pub record HasFields (code : ℕ) (op : List ℕ) : Type 0 where
  pub coded : number op ≡ code
  pub sized : row_length code op ≤ length op

pub has_fields : (bytes : List ℕ) (place : ℕ) (op : List ℕ) (code : ℕ) → IsChecked bytes → IsAt bytes place op → eqb (number (node_in bytes place).op) code ≡ true → HasFields code op
has_fields bytes place op code checked at is =
    let coded : number op ≡ code = ap number (sym at.opcode) ∙ eqb-true (number (node_in bytes place).op) code is in
    let long : least_length op ≤ length op = subst (λ (l : List ℕ). least_length l ≤ length l) at.opcode (long_enough bytes (node_in bytes place) checked (is_node bytes place op checked at)) in
    record { coded = coded; sized = subst (λ (k : ℕ). row_length k op ≤ length op) coded long }

-- so has that of a view, as an opcode of the code
pub view_sized : (view : Node) (op : List ℕ) → op ≡ (node_of view).op → least_length op ≤ length op
view_sized view op same =
    subst (λ (l : List ℕ). least_length l ≤ length l) (sym same) (long_enough view.ifr.now (node_of view) view.checked (is_node view.ifr.now view.op.place _ view.checked view.stands))

-- where a byte tells how long the rest is, both are there
pub past_front : (front rest len : ℕ) → cond (ltb len front) front (front + rest) ≤ len → front + rest ≤ len
past_front front rest len le = elim (cases_Bool (ltb len front)) [
  | inl short ↦ absurd (omega (arith, ltb-true len front short, rw short at le))
  | inr long ↦ rw long at le
]

asked : (guard shaped : Bool) → guard ≡ true → guard && shaped ≡ false → shaped ≡ false
asked true shaped is e = e
asked false shaped is e = absurd (false≢true is)

-- it is not left out
kept : (bytes : List ℕ) (place : ℕ) (op : List ℕ) → IsChecked bytes → IsAt bytes place op → is_left_out op ≡ false
kept bytes place op checked at =
    ap is_left_out (sym at.opcode) ∙ (inside_parts (node_in bytes place).op (no_fault bytes (node_in bytes place) OpOutside checked (is_node bytes place op checked at))).1

-- an option's value is a number or a Boolean, and a default's Type is defined
pub option_numeric : (bytes : List ℕ) (place : ℕ) (op : List ℕ) → IsChecked bytes → IsAt bytes place op → eqb (number (node_in bytes place).op) ONE_OF_OPTION ≡ true → option_kind op ≤ TYPE_BOOLEAN
option_numeric bytes place op checked at is =
    let has = has_fields bytes place op ONE_OF_OPTION checked at is in
    rows.option_numeric op (row_from op ONE_OF_OPTION has.coded (kept bytes place op checked at)) (omega (arith, past_front 6 _ _ has.sized))

pub default_known : (bytes : List ℕ) (place : ℕ) (op : List ℕ) → IsChecked bytes → IsAt bytes place op → eqb (number (node_in bytes place).op) DEFAULT ≡ true → default_kind op ≤ TYPE_REF
default_known bytes place op checked at is =
    let has = has_fields bytes place op DEFAULT checked at is in
    rows.default_known op (row_from op DEFAULT has.coded (kept bytes place op checked at)) (omega (arith, past_front 5 _ _ has.sized))

-- a question has the bytes of its header, and a statement
pub question_long : (bytes : List ℕ) (place : ℕ) (op : List ℕ) → IsChecked bytes → IsAt bytes place op → is_question_number (number (node_in bytes place).op) ≡ true → 13 ≤ length op
question_long bytes place op checked at is =
    let n = node_in bytes place in
    let row = question_row n.op (number n.op) is in
    let long = long_enough bytes n checked (is_node bytes place op checked at) in
    omega (arith, row, long, ap (λ (l : List ℕ). length l) at.opcode)

pub statement_long : (bytes : List ℕ) (place : ℕ) (op : List ℕ) → IsChecked bytes → IsAt bytes place op → is_statement_number (number (node_in bytes place).op) ≡ true → 6 ≤ length op
statement_long bytes place op checked at is =
    let n = node_in bytes place in
    let row = statement_row n.op (number n.op) is in
    let long = long_enough bytes n checked (is_node bytes place op checked at) in
    omega (arith, row, long, ap (λ (l : List ℕ). length l) at.opcode)

-- ---- what wants an expression begins with one

-- The scope begins with an operator, whose expression has no fault.
pub record HasCondition (bytes : List ℕ) (n : Placed) : Type 0 where
  pub op : List ℕ
  pub children : Forest
  pub rest : Forest
  pub first : n.children ≡ node op children rest
  pub operator : is_operator (number op) ≡ true
  pub sound : HasNone (IsExpressionFault (n.place + length n.op) (expression (n.place + length n.op) op children))
  pub within : Contains (nodes_of bytes) (record { place = n.place + length n.op; op = op; path = n.path ++ as_ancestor n ∷ []; children = children })

begins : (f : Forest) → lacks_expression (first_number f) ≡ false → (op : List ℕ) × (children : Forest) × (rest : Forest) × (f ≡ node op children rest)
begins none lacks = absurd (false≢true (sym lacks))
begins (node op children rest) lacks = (op, children, rest, refl)

-- a known number where an expression is wanted is an operator's
is_wanted : (known operator : Bool) → known && not operator ≡ false → known ≡ true → operator ≡ true
is_wanted true true lacks listed = refl
is_wanted true false lacks listed = absurd (false≢true (sym lacks))
is_wanted false operator lacks listed = absurd (false≢true listed)

pub has_condition : (bytes : List ℕ) (n : Placed) → IsChecked bytes → Contains (nodes_of bytes) n → wants_expression (number n.op) ≡ true → HasCondition bytes n
has_condition bytes n checked within wants =
    let lacks : lacks_expression (first_number n.children) ≡ false = asked (wants_expression (number n.op)) _ wants (or_parts _ _ (no_fault bytes n ExprShape checked within)).0 in
    let first = begins n.children lacks in
    let op = first.0 in
    let from : ℕ = n.place + length n.op in
    let child : Placed = record { place = from; op = op; path = n.path ++ as_ancestor n ∷ []; children = first.1 } in
    let below_it : Contains (below n) child = subst (λ (f : Forest). Contains (nodes_at from (n.path ++ as_ancestor n ∷ []) f) child) (sym first.3) (0, omega arith, refl) in
    let there : Contains (nodes_of bytes) child = below_within (tree_of bytes) 4 [] n child within below_it in
    let operator : is_operator (number op) ≡ true = is_wanted (is_listed (number op)) (is_operator (number op)) (ap (λ (f : Forest). lacks_expression (first_number f)) (sym first.3) ∙ lacks) (inside_parts op (no_fault bytes child OpOutside checked there)).0 in
    let around : parent child ≡ Some (mark n) = innermost-push n.path (as_ancestor n) in
    let begins_it : is_condition child ≡ true = ap (begins_scope from) around ∙ and_from _ _ wants (eq-eqb from from refl) in
    record {
      op = op;
      children = first.1;
      rest = first.2;
      first = first.3;
      operator = operator;
      sound = λ cause place fault. checked.sound cause place (inr (inr (child, there, and_from _ _ begins_it operator, fault)));
      within = there;
    }

-- ---- what wants a VALUE begins with one

pub record HasValue (bytes : List ℕ) (n : Placed) : Type 0 where
  pub op : List ℕ
  pub children : Forest
  pub rest : Forest
  pub first : n.children ≡ node op children rest
  pub is_value : number op ≡ VALUE
  pub within : Contains (nodes_of bytes) (record { place = n.place + length n.op; op = op; path = n.path ++ as_ancestor n ∷ []; children = children })

begins_value : (f : Forest) → lacks_value (first_number f) ≡ false → (op : List ℕ) × (children : Forest) × (rest : Forest) × (f ≡ node op children rest)
begins_value none lacks = absurd (false≢true (sym lacks))
begins_value (node op children rest) lacks = (op, children, rest, refl)

pub has_value : (bytes : List ℕ) (n : Placed) → IsChecked bytes → Contains (nodes_of bytes) n → wants_value n.op ≡ true → HasValue bytes n
has_value bytes n checked within wants =
    let lacks : lacks_value (first_number n.children) ≡ false = asked (wants_value n.op) (lacks_value (first_number n.children)) wants (or_parts (wants_expression (number n.op) && lacks_expression (first_number n.children)) (wants_value n.op && lacks_value (first_number n.children)) (no_fault bytes n ExprShape checked within)).1 in
    let first = begins_value n.children lacks in
    let op = first.0 in
    let from : ℕ = n.place + length n.op in
    let child : Placed = record { place = from; op = op; path = n.path ++ as_ancestor n ∷ []; children = first.1 } in
    let below_it : Contains (below n) child = subst (λ (f : Forest). Contains (nodes_at from (n.path ++ as_ancestor n ∷ []) f) child) (sym first.3) (0, omega arith, refl) in
    let there : Contains (nodes_of bytes) child = below_within (tree_of bytes) 4 [] n child within below_it in
    record {
      op = op;
      children = first.1;
      rest = first.2;
      first = first.3;
      is_value = eqb-true (number op) VALUE (is_wanted (is_listed (number op)) (eqb (number op) VALUE) (ap (λ (f : Forest). lacks_value (first_number f)) (sym first.3) ∙ lacks) (inside_parts op (no_fault bytes child OpOutside checked there)).0);
      within = there;
    }

-- ---- the first node is the form set

abbrev first_of_places : List Placed → ℕ
first_of_places [] = 4
first_of_places (n ∷ ns) = n.place

first_place : (f : Forest) (n : Placed) (rest : List Placed) → nodes f ≡ n ∷ rest → n.place ≡ 4
first_place none n rest e = absurd (omega (arith, ap (λ (l : List Placed). length l) e))
first_place (node op children others) n rest e = ap (λ (l : List Placed). first_of_places l) (sym e)

told : (here set : Bool) → here ≡ true → here && not set ≡ false → set ≡ true
told true true h e = refl
told true false h e = absurd (false≢true (sym e))
told false set h e = absurd (false≢true h)

pub first_is_form_set : (bytes : List ℕ) (n : Placed) (rest : List Placed) → IsChecked bytes → nodes_of bytes ≡ n ∷ rest → is_form_set n ≡ true
first_is_form_set bytes n rest checked e =
    let within : Contains (nodes_of bytes) n = subst (λ (l : List Placed). Contains l n) (sym e) (0, omega arith, refl) in
    told (eqb n.place 4) (is_form_set n) (eq-eqb n.place 4 (first_place (tree_of bytes) n rest e)) (no_fault bytes n NotFormSet checked within)

pub some_nodes : (bytes : List ℕ) → IsChecked bytes → nodes_of bytes ≡ [] → ⊥
some_nodes bytes checked e = checked.sound NotFormSet 4 (inl (e, refl, refl))
