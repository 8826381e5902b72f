-- One operator of an expression over the last value and those that wait for others.
use Rattle.std.proofs.Common.{◌≡◌, ℕ, suc, ◌+◌, ◌-◌, ◌≤◌, ◌<◌, Option, Some, None, IsSome, List, [], ◌∷◌, ◌++◌, length, get_or, set, take, map, refl, sym, ap, ap₂, subst, ◌∙◌, arith, length-set}
use Rattle.std.specs.Iterator.{YieldsFirstBy}
use Rattle.std.specs.Prelude.{reverse}
use Rattle.std.proofs.lemmas.List.{map-append, reverse-append, take_more, take_more_set}
use Rattle.ifr_opcodes.specs.Opcode.{number}
use Rattle.ifr_opcodes.specs.Forest.{Mark}
use Rattle.ifr_opcodes.specs.code.Ops.{op_of}
use Rattle.ifr_opcodes.specs.code.Views.{operator}
use Rattle.ifr_opcodes.specs.declared.expressions.BinaryOp.{BinaryOp}
use Rattle.ifr_opcodes.specs.declared.expressions.ExprOp.{ExprOp}
use Rattle.ifr_opcodes.specs.declared.expressions.ExprOp.TheVariants.{Leaf, RuleRef, Unary, Binary}
use Rattle.ifr_opcodes.specs.declared.expressions.LeafOp.{LeafOp}
use Rattle.ifr_opcodes.specs.declared.expressions.UnaryOp.{UnaryOp}
use Rattle.ifr_opcodes.specs.declared.references.RuleRefOp.{RuleRefOp}
use Rattle.ifr_opcodes.proofs.OperandLemmas.{leaf_takes, rule_ref_takes, unary_op_takes, binary_op_takes}
use Rattle.ifr_expr.specs.code.Expressions.{tree_of, end_of, operators_left}
use Rattle.ifr_expr.specs.code.Stacks.{Fit, operand_value, last_first, with_binary, values_behind}
use Rattle.ifr_expr.specs.Meaning.{leaf_value, value_over}
use Rattle.ifr_expr.specs.Trees.{takes, need, post}
use Rattle.ifr_expr.specs.Values.{Value, unary_value, binary_value}
use Rattle.ifr_expr.specs.declared.expr.Expr.{Expr}
use Rattle.ifr_expr.specs.declared.operators.Operators.{Operators}
use Rattle.ifr_expr.specs.declared.value.Operand.{Operand}
use Rattle.ifr_expr.proofs.LengthLemmas.{some_opcode}
use Rattle.ifr_expr.proofs.ValueLemmas.{limit, Begins, begins, Next, next, value_none}

-- ---- the operators that are left

abbrev pub Yields : Operators → Option ExprOp → Operators → Type 0
Yields = YieldsFirstBy (λ (view : ExprOp). op_of (operator view)) operators_left

some_left : (old new : Operators) (r : Option ExprOp) → Yields old r new → 0 < length (operators_left old) → IsSome r
some_left old new None none some = absurd (omega (arith, ap (λ (l : List Mark). length l) none.0))
some_left old new (Some x) first some = refl

first_left : (old new : Operators) (r : Option ExprOp) (x : ExprOp) → Yields old r new → r ≡ Some x → operators_left old ≡ op_of (operator x) ∷ operators_left new
first_left old new r x y e = subst (λ (o : Option ExprOp). Yields old o new) e y

-- the first operator of an expression
pub begun : (rules : ℕ → ℕ → Value) (answers : ℕ → Value) (this most : ℕ) (expr : Expr) (old new : Operators) (r : Option ExprOp) (x : ExprOp) → operators_left old ≡ post (tree_of expr) → Yields old r new → r ≡ Some x → need (tree_of expr) ≤ most
    → Begins (leaf_value rules answers this) (value_over rules answers this (tree_of expr)) most (end_of expr) (op_of (operator x)) (operators_left new)
begun rules answers this most expr old new r x all y e few =
    begins rules answers this expr.place expr.bytes.now most (op_of (operator x)) (operators_left new) expr.checked few (sym (all ∙ expr.checked.means.spelled) ∙ first_left old new r x y e)

pub some_operator : (expr : Expr) (old new : Operators) (r : Option ExprOp) → operators_left old ≡ post (tree_of expr) → Yields old r new → IsSome r
some_operator expr old new r all y =
    some_left old new r y (omega (arith, some_opcode (tree_of expr), ap (λ (l : List Mark). length l) all))

-- ---- how many operands operators take

pub without_operands : (op : ExprOp) → ((x : UnaryOp) → op ≡ Unary x → ⊥) → ((x : BinaryOp) → op ≡ Binary x → ⊥) → takes (op_of (operator op)) ≡ Some 0
without_operands (Leaf x) not_unary not_binary = leaf_takes x
without_operands (RuleRef x) not_unary not_binary = rule_ref_takes x
without_operands (Unary x) not_unary not_binary = absurd (not_unary x refl)
without_operands (Binary x) not_unary not_binary = absurd (not_binary x refl)

none_is_one : (o : Option ℕ) (n : ℕ) → o ≡ Some 0 → o ≡ Some (suc n) → ⊥
none_is_one o n e h = cc

pub no_other : (op : ExprOp) → ((x : LeafOp) → op ≡ Leaf x → ⊥) → ((x : RuleRefOp) → op ≡ RuleRef x → ⊥) → takes (op_of (operator op)) ≡ Some 0 → ⊥
no_other (Leaf x) not_leaf not_rule none = not_leaf x refl
no_other (RuleRef x) not_leaf not_rule none = not_rule x refl
no_other (Unary x) not_leaf not_rule none = none_is_one _ 0 none (unary_op_takes x)
no_other (Binary x) not_leaf not_rule none = none_is_one _ 1 none (binary_op_takes x)

-- ---- the values that wait

-- the last is the first of the values
last_pushed : (answers : ℕ → Value) (items : List Operand) (x : Operand) → last_first answers (items ++ x ∷ []) ≡ operand_value answers x ∷ last_first answers items
last_pushed answers items x =
    ap reverse (map-append (operand_value answers) items (x ∷ [])) ∙ reverse-append (map (operand_value answers) items) (operand_value answers x ∷ [])

-- Where evaluating stands: by the last value, as many as wait in the room, and the opcodes that are left, it leads to some values.
pub record Stands (answers : ℕ → Value) (f : Mark → Value) (goal : List Value) (ends : ℕ) (last : Operand) (room : List Operand) (count : ℕ) (left : List Mark) : Type 0 where
  pub leads : values_behind f (operand_value answers last ∷ last_first answers (take count room)) left ≡ goal
  pub fits : Fit (length room + 1) (count + 1) left
  pub within : count ≤ length room
  pub inside : limit left ≤ ends

-- where it begins
pub at_first : (answers : ℕ → Value) (f : Mark → Value) (ends : ℕ) (first : Operand) (room : List Operand) (left : List Mark) → Fit (length room + 1) 1 left → limit left ≤ ends
    → Stands answers f (values_behind f (operand_value answers first ∷ []) left) ends first room 0 left
at_first answers f ends first room left fits inside = record { leads = refl; fits = fits; within = omega arith; inside = inside }

-- where none is left the last value alone is there
pub arrived : {answers : ℕ → Value} {f : Mark → Value} {goal : List Value} {ends : ℕ} {last : Operand} {room : List Operand} {count : ℕ} {left : List Mark} → Stands answers f goal ends last room count left → left ≡ [] → goal ≡ operand_value answers last ∷ []
arrived {answers = answers} {f = f} {goal = goal} {ends = ends} {last = last} {room = room} {count = count} s e =
    let here : Stands answers f goal ends last room count [] = subst (Stands answers f goal ends last room count) e s in
    let none : count ≡ 0 = omega (arith, here.fits) in
    sym here.leads ∙ value_none f _ ∙ ap (λ (n : ℕ). operand_value answers last ∷ last_first answers (take n room)) none

same_head : (v w : Value) → v ∷ [] ≡ w ∷ [] → v ≡ w
same_head v w e = cc

-- the value to which the first operator's leads
pub is_goal : (f : Mark → Value) (first : Mark) (v r goal : Value) (behind : List Mark) → v ≡ f first → values_behind f (v ∷ []) behind ≡ r ∷ [] → values_behind f (f first ∷ []) behind ≡ goal ∷ [] → r ≡ goal
is_goal f first v r goal behind e told leads = same_head r goal (sym told ∙ ap (λ (w : Value). values_behind f (w ∷ []) behind) e ∙ leads)

pub alone : (f : Mark → Value) (v : Value) (behind : List Mark) → behind ≡ [] → values_behind f (v ∷ []) behind ≡ v ∷ []
alone f v behind e = ap (values_behind f (v ∷ [])) e ∙ value_none f (v ∷ [])

module _ {answers : ℕ → Value} {f : Mark → Value} {goal : List Value} {ends : ℕ} {last : Operand} {room : List Operand} {count : ℕ} {left : List Mark} (op : Mark) (more : List Mark)
    (s : Stands answers f goal ends last room count left) (e : left ≡ op ∷ more) where
  abbrev values : List Value
  values = operand_value answers last ∷ last_first answers (take count room)

  found : (n : ℕ) → takes op ≡ Some n → Next f values (length room + 1) (count + 1) n left op more
  found n t = next f values (length room + 1) (count + 1) n left op more s.fits e t

  further : (op.place < ends) × (limit more ≤ ends)
  further = let le : limit (op ∷ more) ≤ ends = subst (λ (l : List Mark). limit l ≤ ends) e s.inside in (omega arith, omega arith)

  pub stands_before : op.place < ends
  stands_before = further.0

  -- one that takes no operands finds room for the last value
  pub has_room : takes op ≡ Some 0 → count < length room
  has_room t = omega (arith, (found 0 t).few)

  pub pushed : (x : Operand) → takes op ≡ Some 0 → operand_value answers x ≡ f op → Stands answers f goal ends x (set room count last) (count + 1) more
  pushed x t v =
      let n = found 0 t in
      let long : length (set room count last) ≡ length room = length-set room count last in
      let grown : operand_value answers x ∷ last_first answers (take (count + 1) (set room count last)) ≡ f op ∷ values =
      ap (λ (w : Value). w ∷ last_first answers (take (count + 1) (set room count last))) v
      ∙ ap (λ (vs : List Value). f op ∷ vs) (ap (last_first answers) (take_more_set room count last (has_room t)) ∙ last_pushed answers (take count room) last) in
      let left_so : count + 1 - 0 + 1 ≡ count + 1 + 1 = omega arith in
      record {
        leads = ap (λ (vs : List Value). values_behind f vs more) grown ∙ sym n.leads ∙ s.leads;
        fits = subst (λ (k : ℕ). Fit (k + 1) (count + 1 + 1) more) (sym long) (subst (λ (k : ℕ). Fit (length room + 1) k more) left_so n.fits);
        within = omega (arith, has_room t);
        inside = further.1;
      }

  pub turned : (x : Operand) (code : ℕ) (v : Value) → takes op ≡ Some 1 → code ≡ number op.op → v ≡ operand_value answers last → operand_value answers x ≡ unary_value code v → Stands answers f goal ends x room count more
  turned x code v t coded read made =
      let n = found 1 t in
      let is : operand_value answers x ≡ unary_value (number op.op) (operand_value answers last) = made ∙ ap₂ unary_value coded read in
      let left_so : count + 1 - 1 + 1 ≡ count + 1 = omega arith in
      record {
        leads = ap (λ (w : Value). values_behind f (w ∷ last_first answers (take count room)) more) is ∙ sym n.leads ∙ s.leads;
        fits = subst (λ (k : ℕ). Fit (length room + 1) k more) left_so n.fits;
        within = s.within;
        inside = further.1;
      }

  -- one that takes two operands finds a value that waits
  pub one_waits : takes op ≡ Some 2 → 1 ≤ count
  one_waits t = omega (arith, (found 2 t).enough)

  pub joined : (x d : Operand) (code : ℕ) (v w : Value) → takes op ≡ Some 2 → code ≡ number op.op → v ≡ operand_value answers (get_or room (count - 1) d) → w ≡ operand_value answers last → operand_value answers x ≡ binary_value code v w
      → Stands answers f goal ends x room (count - 1) more
  joined x d code v w t coded first second made =
      let n = found 2 t in
      let y = get_or room (count - 1) d in
      let is : operand_value answers x ≡ binary_value (number op.op) (operand_value answers y) (operand_value answers last) =
      made ∙ ap (λ (k : ℕ). binary_value k v w) coded ∙ ap₂ (binary_value (number op.op)) first second in
      let some : 1 ≤ count = one_waits t in
      let count_is : count - 1 + 1 ≡ count = omega arith in
      let split : take count room ≡ take (count - 1) room ++ y ∷ [] = ap (λ (k : ℕ). take k room) (sym count_is) ∙ take_more room (count - 1) d (omega (arith, s.within)) in
      let shrunk : operand_value answers x ∷ last_first answers (take (count - 1) room) ≡ with_binary (number op.op) values =
      ap (λ (u : Value). u ∷ last_first answers (take (count - 1) room)) is
      ∙ ap (λ (vs : List Value). with_binary (number op.op) (operand_value answers last ∷ vs)) (sym (ap (last_first answers) split ∙ last_pushed answers (take (count - 1) room) y)) in
      let left_so : count + 1 - 2 + 1 ≡ count - 1 + 1 = omega arith in
      record {
        leads = ap (λ (vs : List Value). values_behind f vs more) shrunk ∙ sym n.leads ∙ s.leads;
        fits = subst (λ (k : ℕ). Fit (length room + 1) k more) left_so n.fits;
        within = omega (arith, s.within);
        inside = further.1;
      }
