-- The opcodes of a tree, taken one after the other over values, leave the tree's value.
use Rattle.std.proofs.Common.{◌≡◌, ℕ, ◌+◌, ◌-◌, ◌≤◌, ◌<◌, max, Option, Some, List, [], ◌∷◌, ◌++◌, length, refl, sym, ap, subst, ◌∙◌, append_assoc, arith, length-append, inl, inr}
use Rattle.std.specs.List.{AllByRecursion, concat}
use Rattle.std.proofs.lemmas.List.{append-nil}
use Rattle.std.proofs.lemmas.Bool.{cases_Bool}
use Rattle.ifr_opcodes.specs.Opcode.{number, is_end, IsWhole}
use Rattle.ifr_opcodes.specs.Forest.{Mark}
use Rattle.ifr_opcodes.specs.Reading.{opcodes_in}
use Rattle.ifr_opcodes.proofs.OperatorLemmas.{takes_few}
use Rattle.ifr_expr.specs.code.Checked.{IsSized, AreSized, IsChecked, marks, tree}
use Rattle.ifr_expr.specs.Counting.{or_zero, wanted}
use Rattle.ifr_expr.specs.Meaning.{leaf_value, value_over}
use Rattle.ifr_expr.specs.code.Bytes.{AreOpcodes, to_end}
use Rattle.ifr_expr.specs.code.Stacks.{Fit, applied, values_behind}
use Rattle.ifr_expr.specs.Trees.{Tree, leaf, one, two, post, takes, need, IsFitting}
use Rattle.ifr_expr.specs.Values.{Value}
use Rattle.ifr_expr.proofs.TreeLemmas.{some_need}

value_step : (f : Mark → Value) (values : List Value) (op : Mark) (ops : List Mark) → values_behind f values (op ∷ ops) ≡ values_behind f (applied f (takes op) op values) ops
unfolding values_behind
value_step f values op ops = refl

pub value_none : (f : Mark → Value) (values : List Value) → values_behind f values [] ≡ values
unfolding values_behind
value_none f values = refl

value-post : (rules : ℕ → ℕ → Value) (answers : ℕ → Value) (this : ℕ) (t : Tree) (values : List Value) (more : List Mark) → IsFitting t
    → values_behind (leaf_value rules answers this) values (post t ++ more) ≡ values_behind (leaf_value rules answers this) (value_over rules answers this t ∷ values) more
value-post rules answers this (leaf op) values more h =
    value_step (leaf_value rules answers this) values op more
    ∙ ap (λ (o : Option ℕ). values_behind (leaf_value rules answers this) (applied (leaf_value rules answers this) o op values) more) h
value-post rules answers this (one op operand) values more h =
    let f = leaf_value rules answers this in
    ap (values_behind f values) (append_assoc (post operand) (op ∷ []) more)
    ∙ value-post rules answers this operand values (op ∷ more) h.1
    ∙ value_step f (value_over rules answers this operand ∷ values) op more
    ∙ ap (λ (o : Option ℕ). values_behind f (applied f o op (value_over rules answers this operand ∷ values)) more) h.0
value-post rules answers this (two op left right) values more h =
    let f = leaf_value rules answers this in
    let a : Value = value_over rules answers this left in
    let b : Value = value_over rules answers this right in
    ap (values_behind f values) (append_assoc (post left) (post right ++ op ∷ []) more ∙ ap (λ (l : List Mark). post left ++ l) (append_assoc (post right) (op ∷ []) more))
    ∙ value-post rules answers this left values (post right ++ op ∷ more) h.1.0
    ∙ value-post rules answers this right (a ∷ values) (op ∷ more) h.1.1
    ∙ value_step f (b ∷ a ∷ values) op more
    ∙ ap (λ (o : Option ℕ). values_behind f (applied f o op (b ∷ a ∷ values)) more) h.0

-- ---- how many values there are at once

-- an opcode that finds its operands
fed : (most count n left : ℕ) (op : Mark) (more : List Mark) → takes op ≡ Some n → n ≤ count → left ≤ most → count - n + 1 ≡ left → Fit most left more → Fit most count (op ∷ more)
fed most count n left op more t within few e m =
    let w : wanted op ≡ n = ap or_zero t in
    let same : count - wanted op + 1 ≡ left = omega arith in
    (omega arith, omega arith, subst (λ (k : ℕ). Fit most k more) (sym same) m)

-- the opcodes of a tree leave one value more
fit-post : (most count : ℕ) (t : Tree) (more : List Mark) → IsFitting t → count + need t ≤ most → Fit most (count + 1) more → Fit most count (post t ++ more)
fit-post most count (leaf op) more h few m = fed most count 0 (count + 1) op more h (omega arith) few (omega arith) m
fit-post most count (one op operand) more h few m =
    subst (Fit most count) (sym (append_assoc (post operand) (op ∷ []) more))
    (fit-post most count operand (op ∷ more) h.1 few
    (fed most (count + 1) 1 (count + 1) op more h.0 (omega arith) (omega (arith, some_need operand)) (omega arith) m))
fit-post most count (two op left right) more h few m =
    subst (Fit most count) (sym (append_assoc (post left) (post right ++ op ∷ []) more ∙ ap (λ (l : List Mark). post left ++ l) (append_assoc (post right) (op ∷ []) more)))
    (fit-post most count left (post right ++ op ∷ more) h.1.0 (omega arith)
    (fit-post most (count + 1) right (op ∷ more) h.1.1 (omega arith)
    (fed most (count + 1 + 1) 2 (count + 1) op more h.0 (omega arith) (omega (arith, some_need left)) (omega arith) m)))

-- ---- where evaluating goes on

-- what an opcode finds, and what it leaves
pub record Next (f : Mark → Value) (values : List Value) (most count n : ℕ) (left : List Mark) (op : Mark) (more : List Mark) : Type 0 where
  pub enough : n ≤ count
  pub few : count - n + 1 ≤ most
  pub fits : Fit most (count - n + 1) more
  pub leads : values_behind f values left ≡ values_behind f (applied f (Some n) op values) more

pub next : (f : Mark → Value) (values : List Value) (most count n : ℕ) (left : List Mark) (op : Mark) (more : List Mark) → Fit most count left → left ≡ op ∷ more → takes op ≡ Some n → Next f values most count n left op more
next f values most count n left op more h e t =
    let here : Fit most count (op ∷ more) = subst (Fit most count) e h in
    let w : wanted op ≡ n = ap or_zero t in
    record {
      enough = omega (arith, here.0);
      few = omega (arith, here.1);
      fits = subst (λ (k : ℕ). Fit most (count - k + 1) more) w here.2;
      leads = ap (values_behind f values) e ∙ value_step f values op more ∙ ap (λ (o : Option ℕ). values_behind f (applied f o op values) more) t;
    }

-- ---- where opcodes stand

inside_bytes : (at ends : ℕ) (ops : List (List ℕ)) → AllByRecursion IsWhole ops → at + length (concat ops) ≤ ends → AllByRecursion (λ op. op.place < ends) (to_end at ops)
unfolding to_end
inside_bytes at ends [] h le = tt
inside_bytes at ends (op ∷ ops) h le = elim (cases_Bool (is_end op)) [
  | inl e ↦ rw e tt
  | inr e ↦ rw e (omega (arith, h.0.long, length-append op (concat ops)), inside_bytes (at + length op) ends ops h.1 (omega (arith, length-append op (concat ops))))
]

-- the opcodes of bytes stand inside of them
pub all_inside : (at : ℕ) (bytes : List ℕ) → AreOpcodes bytes → AllByRecursion (λ op. op.place < at + length bytes) (marks at bytes)
all_inside at bytes a = inside_bytes at (at + length bytes) (opcodes_in bytes) a.whole (omega (arith, ap (λ (l : List ℕ). length l) a.joined))

-- behind the places of some opcodes
abbrev pub limit : List Mark → ℕ
limit [] = 0
limit (op ∷ ops) = max (op.place + 1) (limit ops)

limit_within : (ends : ℕ) (ops : List Mark) → AllByRecursion (λ op. op.place < ends) ops → limit ops ≤ ends
limit_within ends [] h = omega arith
limit_within ends (op ∷ ops) h = omega (arith, h.0, limit_within ends ops h.1)

-- ---- where evaluating begins

-- an operator of which no operand is wanted takes none
takes_none : (op : Mark) → IsSized op → wanted op ≤ 0 → takes op ≡ Some 0
takes_none op s none = elim (takes_few (number op.op) s.operator) [
  | inl is ↦ is
  | inr (inl is) ↦ let w : wanted op ≡ 1 = ap or_zero is in absurd (omega arith)
  | inr (inr is) ↦ let w : wanted op ≡ 2 = ap or_zero is in absurd (omega arith)
]

-- The first opcode takes no operands, and those behind it lead from its value to one.
pub record Begins (f : Mark → Value) (goal : Value) (most ends : ℕ) (first : Mark) (behind : List Mark) : Type 0 where
  pub here : first.place < ends
  pub inside : limit behind ≤ ends
  pub none : takes first ≡ Some 0
  pub fits : Fit most 1 behind
  pub leads : values_behind f (f first ∷ []) behind ≡ goal ∷ []

pub begins : (rules : ℕ → ℕ → Value) (answers : ℕ → Value) (this at : ℕ) (bytes : List ℕ) (most : ℕ) (first : Mark) (behind : List Mark) → IsChecked at bytes → need (tree at bytes) ≤ most → marks at bytes ≡ first ∷ behind
    → Begins (leaf_value rules answers this) (value_over rules answers this (tree at bytes)) most (at + length bytes) first behind
begins rules answers this at bytes most first behind c few e =
    let t : Tree = tree at bytes in
    let f = leaf_value rules answers this in
    let spelled : post t ++ [] ≡ marks at bytes = append-nil (post t) ∙ c.means.spelled in
    let all : Fit most 0 (marks at bytes) = subst (Fit most 0) spelled (fit-post most 0 t [] c.means.fitting (omega arith) refl) in
    let here : Fit most 0 (first ∷ behind) = subst (Fit most 0) e all in
    let sized : AreSized (first ∷ behind) = subst AreSized e c.sized in
    let within : AllByRecursion (λ op. op.place < at + length bytes) (first ∷ behind) = subst (AllByRecursion (λ op. op.place < at + length bytes)) e (all_inside at bytes c.opcodes) in
    let none : takes first ≡ Some 0 = takes_none first sized.0 here.0 in
    let n = next f [] most 0 0 (marks at bytes) first behind all e none in
    record {
      here = within.0;
      inside = limit_within (at + length bytes) behind within.1;
      none = none;
      fits = n.fits;
      leads = sym n.leads ∙ ap (values_behind f []) (sym spelled) ∙ value-post rules answers this t [] [] c.means.fitting ∙ value_none f _;
    }
