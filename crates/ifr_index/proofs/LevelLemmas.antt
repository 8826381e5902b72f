-- The innermost scope of a path, by what is known of it, and where one more opens in it.
use Rattle.std.proofs.Common.{◌≡◌, ℕ, ◌+◌, ◌≤◌, Bool, true, false, eqb, Option, Some, None, List, [], ◌∷◌, ◌++◌, length, refl, sym, ap, arith}
use Rattle.std.specs.Prelude.{◌&&◌}
use Rattle.std.proofs.lemmas.Bool.{eq-eqb, ne_eqb}
use Rattle.ifr_opcodes.specs.Opcode.{number, IsWhole}
use Rattle.ifr_opcodes.specs.Forest.{Ancestor, Mark, Node}
use Rattle.ifr_opcodes.specs.Rows.{row_of, operands, is_operator, is_short, is_question_number, is_condition_number}
use Rattle.ifr_opcodes.proofs.SizeLemmas.{all_there}
use Rattle.ifr_opcodes.proofs.StatementLemmas.{question_row}
use Rattle.ifr_nodes.specs.Nodes.{this_among}
use Rattle.ifr_nodes.specs.Structure.{begins_scope, begins_with_value, is_operator_scope}
use Rattle.ifr_nodes.specs.Table.{class_around, wants_expression, wants_value}
use Rattle.ifr_nodes.proofs.ExpressionLemmas.{innermost-push}
use Rattle.ifr_index.specs.code.Levels.{level_of, scope_place, scope_inside, scope_code, scope_value}
use Rattle.ifr_index.specs.code.Tables.{inner_guard}

-- a question has the bytes of its header
pub question_sized : (op : List ℕ) → IsWhole op → is_short op ≡ false → is_question_number (number op) ≡ true → 13 ≤ length op
question_sized op whole sized is =
    let row = question_row op (number op) is in
    let long = all_there op whole.long sized in
    omega (arith, row, long)

-- the scope that opens last
pub level_push : (ns : List Node) (path : List Ancestor) (a : Ancestor) → level_of ns (path ++ a ∷ [])
    ≡ record { place = a.place; inside = a.place + length a.op; code = number a.op; value = wants_value a.op; class = class_around (path ++ a ∷ []); guard = inner_guard ns (path ++ a ∷ []); this = this_among (path ++ a ∷ []) }
level_push ns path a =
    ap (λ (m : Option Mark). record { place = scope_place m; inside = scope_inside m; code = scope_code m; value = scope_value m; class = class_around (path ++ a ∷ []); guard = inner_guard ns (path ++ a ∷ []); this = this_among (path ++ a ∷ []) }) (innermost-push path a)

-- ---- with what it begins

no_code : (wants_expression 0 ≡ false) × (is_operator 0 ≡ false)
unfolding is_condition_number operands row_of
no_code = (refl, refl)

and_true : (a b : Bool) → b ≡ true → a ≡ a && b
and_true true b e = sym e
and_true false b e = refl

and_false : (a b : Bool) → b ≡ false → false ≡ a && b
and_false true b e = sym e
and_false false b e = refl

pub expression_there : (m : Option Mark) (place : ℕ) → place ≡ scope_inside m → wants_expression (scope_code m) ≡ begins_scope place m
expression_there None place e = no_code.0
expression_there (Some a) place e = and_true (wants_expression (number a.op)) (eqb place (a.place + length a.op)) (eq-eqb place (a.place + length a.op) e)

pub expression_elsewhere : (m : Option Mark) (place : ℕ) → (place ≡ scope_inside m → ⊥) → false ≡ begins_scope place m
expression_elsewhere None place other = refl
expression_elsewhere (Some a) place other = and_false (wants_expression (number a.op)) (eqb place (a.place + length a.op)) (ne_eqb place (a.place + length a.op) other)

pub value_there : (m : Option Mark) (place : ℕ) → place ≡ scope_inside m → scope_value m ≡ begins_with_value place m
value_there None place e = refl
value_there (Some a) place e = and_true (wants_value a.op) (eqb place (a.place + length a.op)) (eq-eqb place (a.place + length a.op) e)

pub value_elsewhere : (m : Option Mark) (place : ℕ) → (place ≡ scope_inside m → ⊥) → false ≡ begins_with_value place m
value_elsewhere None place other = refl
value_elsewhere (Some a) place other = and_false (wants_value a.op) (eqb place (a.place + length a.op)) (ne_eqb place (a.place + length a.op) other)

pub operates : (m : Option Mark) → is_operator (scope_code m) ≡ is_operator_scope m
operates None = no_code.1
operates (Some a) = refl
