-- The opcodes of a tree leave its value on the stack of the chapters.
use Rattle.std.proofs.Common.{◌≡◌, ◌==◌, ℕ, ◌+◌, true, false, Some, List, [], ◌∷◌, ◌++◌, map, length, drop, refl, sym, ap, subst, ◌∙◌, inl, inr}
use Rattle.std.specs.Prelude.{nat_lt, nat_le, unwrap_or}
use Rattle.std.specs.List.{AllByRecursion}
use Rattle.std.proofs.Math.Path.{fun_ext}
use Rattle.std.proofs.lemmas.List.{append-nil}
use Rattle.std.proofs.lemmas.Bool.{cases_Bool, false≢true}
use Rattle.browser_rules.specs.Expressions as chapter
use Rattle.browser_rules.specs.Expressions.{sense_of, stack_over}
use Rattle.browser_rules.specs.Opcodes.{row_of}
use Rattle.browser_rules.specs.Values as rules
use Rattle.browser_rules.specs.Words.{first}
use Rattle.ifr_opcodes.specs.Forest.{Forest, none, node, flat, Mark}
use Rattle.ifr_opcodes.specs.Opcode.{number}
use Rattle.ifr_opcodes.specs.Rows.{operands}
use Rattle.ifr_opcodes.specs.code.Tables.{without_operands, with_one_operand, with_two_operands}
use Rattle.ifr_opcodes.proofs.OperatorLemmas.{takes_none, takes_one, takes_two}
use Rattle.ifr_expr.specs.Meaning.{Rule, names, rule_values, value, value_over}
use Rattle.ifr_expr.specs.Trees.{Tree, leaf, one, two, post, expression, IsFitting, Means}
use Rattle.ifr_expr.specs.Values as values
use Rattle.ifr_expr.specs.Values.{Value}
use Rattle.rules_laws.specs.laws.Opcodes.{mark_for, rule_for, value_for, made_of_none, made_of_one, made_of_two, AreGoodRules, AreOfBytes, IsSmall}
use Rattle.std.proofs.Math.Bool.{and_assoc}
use Rattle.rules_laws.proofs.OpcodeValueLemmas.{each, same_of_none, same_of_one, same_of_two}
use Rattle.rules_laws.proofs.OpcodeSmallLemmas.{small_of_none, small_of_one, small_of_two}

-- ---- what an operator puts on the stack

abbrev Answers : Type 0
Answers = ℕ → rules.Value

abbrev Named : Type 0
Named = ℕ → ℕ → rules.Value

abbrev around_mark : Answers → Named → ℕ → ℕ → rules.Around
around_mark answers named this place = record { answers = answers; rule = λ id. named id place; this = this }

abbrev PushesNone : Answers → Named → ℕ → List rules.Value → ℕ → List ℕ → List chapter.Mark → ℕ → Type 0
PushesNone answers named this vs place rest more code =
    stack_over answers named this vs (record { place = place; op = code ∷ rest } ∷ more)
    ≡ stack_over answers named this (made_of_none (sense_of (code ∷ [])) (around_mark answers named this place) (code ∷ rest) ∷ vs) more

each_pushes_none : (answers : Answers) (named : Named) (this : ℕ) (vs : List rules.Value) (place : ℕ) (rest : List ℕ) (more : List chapter.Mark) → AllByRecursion (PushesNone answers named this vs place rest more) without_operands
unfolding row_of
each_pushes_none answers named this vs place rest more = (refl, (refl, (refl, (refl, (refl, (refl, (refl, (refl, (refl, (refl, (refl, (refl, (refl, (refl, (refl, (refl, tt))))))))))))))))

pushes_none : (answers : Answers) (named : Named) (this : ℕ) (vs : List rules.Value) (place : ℕ) (op : List ℕ) (more : List chapter.Mark) → operands (number op) ≡ Some 0
    → stack_over answers named this vs (record { place = place; op = op } ∷ more) ≡ stack_over answers named this (made_of_none (sense_of op) (around_mark answers named this place) op ∷ vs) more
pushes_none answers named this vs place [] more takes = absurd (false≢true (takes_none 0 takes))
pushes_none answers named this vs place (code ∷ rest) more takes = each (PushesNone answers named this vs place rest more) without_operands code (each_pushes_none answers named this vs place rest more) (takes_none code takes)

abbrev PushesOne : Answers → Named → ℕ → rules.Value → List rules.Value → ℕ → List ℕ → List chapter.Mark → ℕ → Type 0
PushesOne answers named this v vs place rest more code =
    stack_over answers named this (v ∷ vs) (record { place = place; op = code ∷ rest } ∷ more)
    ≡ stack_over answers named this (made_of_one (sense_of (code ∷ [])) v ∷ vs) more

each_pushes_one : (answers : Answers) (named : Named) (this : ℕ) (v : rules.Value) (vs : List rules.Value) (place : ℕ) (rest : List ℕ) (more : List chapter.Mark) → AllByRecursion (PushesOne answers named this v vs place rest more) with_one_operand
unfolding row_of
each_pushes_one answers named this v vs place rest more = (refl, (refl, tt))

pushes_one : (answers : Answers) (named : Named) (this : ℕ) (v : rules.Value) (vs : List rules.Value) (place : ℕ) (op : List ℕ) (more : List chapter.Mark) → operands (number op) ≡ Some 1
    → stack_over answers named this (v ∷ vs) (record { place = place; op = op } ∷ more) ≡ stack_over answers named this (made_of_one (sense_of op) v ∷ vs) more
pushes_one answers named this v vs place [] more takes = absurd (false≢true (takes_one 0 takes))
pushes_one answers named this v vs place (code ∷ rest) more takes = each (PushesOne answers named this v vs place rest more) with_one_operand code (each_pushes_one answers named this v vs place rest more) (takes_one code takes)

abbrev PushesTwo : Answers → Named → ℕ → rules.Value → rules.Value → List rules.Value → ℕ → List ℕ → List chapter.Mark → ℕ → Type 0
PushesTwo answers named this left right vs place rest more code =
    stack_over answers named this (right ∷ left ∷ vs) (record { place = place; op = code ∷ rest } ∷ more)
    ≡ stack_over answers named this (made_of_two (sense_of (code ∷ [])) left right ∷ vs) more

each_pushes_two : (answers : Answers) (named : Named) (this : ℕ) (left right : rules.Value) (vs : List rules.Value) (place : ℕ) (rest : List ℕ) (more : List chapter.Mark) → AllByRecursion (PushesTwo answers named this left right vs place rest more) with_two_operands
unfolding row_of
each_pushes_two answers named this left right vs place rest more = (refl, (refl, (refl, (refl, (refl, (refl, (refl, (refl, (refl, (refl, (refl, (refl, (refl, (refl, (refl, (refl, (refl, tt)))))))))))))))))

pushes_two : (answers : Answers) (named : Named) (this : ℕ) (left right : rules.Value) (vs : List rules.Value) (place : ℕ) (op : List ℕ) (more : List chapter.Mark) → operands (number op) ≡ Some 2
    → stack_over answers named this (right ∷ left ∷ vs) (record { place = place; op = op } ∷ more) ≡ stack_over answers named this (made_of_two (sense_of op) left right ∷ vs) more
pushes_two answers named this left right vs place [] more takes = absurd (false≢true (takes_two 0 takes))
pushes_two answers named this left right vs place (code ∷ rest) more takes = each (PushesTwo answers named this left right vs place rest more) with_two_operands code (each_pushes_two answers named this left right vs place rest more) (takes_two code takes)

-- ---- the values of trees

-- what is around an expression: the values of rules and of answers, all of them small
record Small (named : ℕ → ℕ → Value) (answers : ℕ → Value) : Type 0 where
  rules_small : (id place : ℕ) → IsSmall (named id place)
  answers_small : (id : ℕ) → IsSmall (answers id)

abbrev IsGoodTree : Tree → Type 0
IsGoodTree t = IsFitting t × AreOfBytes (post t)

front_bytes : (xs ys : List Mark) → AreOfBytes (xs ++ ys) → AreOfBytes xs
front_bytes [] ys all = tt
front_bytes (x ∷ xs) ys all = (all.0, front_bytes xs ys all.1)

back_bytes : (xs ys : List Mark) → AreOfBytes (xs ++ ys) → AreOfBytes ys
back_bytes [] ys all = all
back_bytes (x ∷ xs) ys all = back_bytes xs ys all.1

operand_good : (op : Mark) (operand : Tree) → IsGoodTree (one op operand) → IsGoodTree operand
operand_good op operand good = (good.0.1, front_bytes (post operand) (op ∷ []) good.1)

left_good : (op : Mark) (left right : Tree) → IsGoodTree (two op left right) → IsGoodTree left
left_good op left right good = (good.0.1.0, front_bytes (post left) (post right ++ op ∷ []) good.1)

right_good : (op : Mark) (left right : Tree) → IsGoodTree (two op left right) → IsGoodTree right
right_good op left right good = (good.0.1.1, front_bytes (post right) (op ∷ []) (back_bytes (post left) (post right ++ op ∷ []) good.1))

small_value : (named : ℕ → ℕ → Value) (answers : ℕ → Value) (this : ℕ) (t : Tree) → Small named answers → IsGoodTree t → IsSmall (value_over named answers this t)
small_value named answers this (leaf op) small good = small_of_none named answers this op small.rules_small small.answers_small good.1.0
small_value named answers this (one op operand) small good = small_of_one (number op.op) (value_over named answers this operand)
small_value named answers this (two op left right) small good =
    small_of_two (number op.op) (value_over named answers this left) (value_over named answers this right) (small_value named answers this left small (left_good op left right good))
    (small_value named answers this right small (right_good op left right good))

marks_append : (xs ys : List Mark) (more : List chapter.Mark) → map mark_for (xs ++ ys) ++ more ≡ map mark_for xs ++ (map mark_for ys ++ more)
marks_append [] ys more = refl
marks_append (x ∷ xs) ys more = ap (λ (l : List chapter.Mark). mark_for x ∷ l) (marks_append xs ys more)

-- the stack behind opcodes
behind : (ℕ → ℕ → Value) → (ℕ → Value) → ℕ → List rules.Value → List chapter.Mark → List rules.Value
behind named answers this vs ms = stack_over (λ id. value_for (answers id)) (λ id place. value_for (named id place)) this vs ms

tree_left : (named : ℕ → ℕ → Value) (answers : ℕ → Value) (this : ℕ) (t : Tree) (vs : List rules.Value) (more : List chapter.Mark) → Small named answers → IsGoodTree t
    → behind named answers this vs (map mark_for (post t) ++ more) ≡ behind named answers this (value_for (value_over named answers this t) ∷ vs) more
unfolding behind
tree_left named answers this (leaf op) vs more small good =
    pushes_none (λ id. value_for (answers id)) (λ id place. value_for (named id place)) this vs op.place op.op more good.0
    ∙ ap (λ (v : rules.Value). behind named answers this (v ∷ vs) more) (same_of_none named answers this op good.0)
tree_left named answers this (one op operand) vs more small good =
    let v : Value = value_over named answers this operand in
    ap (λ (ms : List chapter.Mark). behind named answers this vs ms) (marks_append (post operand) (op ∷ []) more)
    ∙ tree_left named answers this operand vs (mark_for op ∷ more) small (operand_good op operand good)
    ∙ pushes_one (λ id. value_for (answers id)) (λ id place. value_for (named id place)) this (value_for v) vs op.place op.op more good.0.0
    ∙ ap (λ (w : rules.Value). behind named answers this (w ∷ vs) more) (same_of_one op.op v good.0.0)
tree_left named answers this (two op left right) vs more small good =
    let v : Value = value_over named answers this left in
    let w : Value = value_over named answers this right in
    let left_is = left_good op left right good in
    ap (λ (ms : List chapter.Mark). behind named answers this vs ms) (marks_append (post left) (post right ++ op ∷ []) more ∙ ap (λ (ms : List chapter.Mark). map mark_for (post left) ++ ms) (marks_append (post right) (op ∷ []) more))
    ∙ tree_left named answers this left vs (map mark_for (post right) ++ mark_for op ∷ more) small left_is
    ∙ tree_left named answers this right (value_for v ∷ vs) (mark_for op ∷ more) small (right_good op left right good)
    ∙ pushes_two (λ id. value_for (answers id)) (λ id place. value_for (named id place)) this (value_for v) (value_for w) vs op.place op.op more good.0.0
    ∙ ap (λ (u : rules.Value). behind named answers this (u ∷ vs) more) (same_of_two op.op v w good.0.0 (λ shifts. small_value named answers this left small left_is))

-- the value that the opcodes of a tree have, over some values of rules
chapter_value : Named → (ℕ → Value) → ℕ → Tree → rules.Value
chapter_value named answers this t = unwrap_or (first (stack_over (λ id. value_for (answers id)) named this [] (map mark_for (post t)))) rules.undefined

tree_value : (named : ℕ → ℕ → Value) (answers : ℕ → Value) (this : ℕ) (t : Tree) → Small named answers → IsGoodTree t
    → chapter_value (λ id place. value_for (named id place)) answers this t ≡ value_for (value_over named answers this t)
unfolding behind chapter_value
tree_value named answers this t small good =
    ap (λ (ms : List chapter.Mark). unwrap_or (first (behind named answers this [] ms)) rules.undefined) (sym (append-nil (map mark_for (post t))))
    ∙ ap (λ (vs : List rules.Value). unwrap_or (first vs) rules.undefined) (tree_left named answers this t [] [] small good)

-- ---- the values of rules

small_rules : (rs : List Rule) (answers : ℕ → Value) → ((id : ℕ) → IsSmall (answers id)) → AreGoodRules rs → (id place : ℕ) → IsSmall (rule_values rs answers id place)
unfolding rule_values
small_rules [] answers small good id place = tt
small_rules (r ∷ earlier) answers small good id place = elim (cases_Bool (names id place r)) [
  | inl here ↦ rw here (small_value (rule_values earlier answers) answers 0 r.tree (record { rules_small = small_rules earlier answers small good.1; answers_small = small }) good.0)
  | inr other ↦ rw other (small_rules earlier answers small good.1 id place)
]

all_small : (rs : List Rule) (answers : ℕ → Value) → ((id : ℕ) → IsSmall (answers id)) → AreGoodRules rs → Small (rule_values rs answers) answers
all_small rs answers small good = record { rules_small = small_rules rs answers small good; answers_small = small }

named_same : (rs : List Rule) (answers : ℕ → Value) → ((id : ℕ) → IsSmall (answers id)) → AreGoodRules rs → (id place : ℕ)
    → chapter.rule_value (map rule_for rs) (λ i. value_for (answers i)) id place ≡ value_for (rule_values rs answers id place)
unfolding chapter.rule_value rule_values chapter_value
named_same [] answers small good id place = refl
named_same (r ∷ earlier) answers small good id place = elim (cases_Bool (names id place r)) [
  | inl here ↦
      let asked : chapter.is_named id place (rule_for r) ≡ true = and_assoc (r.id == id) (nat_le r.ends place) (nat_lt place r.form_ends) ∙ here in
      let over : chapter.rule_value (map rule_for earlier) (λ i. value_for (answers i)) ≡ (λ i p. value_for (rule_values earlier answers i p)) = fun_ext (λ i. fun_ext (λ p. named_same earlier answers small good.1 i p)) in
      rw (asked, here) (ap (λ (f : Named). chapter_value f answers 0 r.tree) over ∙ tree_value (rule_values earlier answers) answers 0 r.tree (all_small earlier answers small good.1) good.0)
  | inr other ↦
      let asked : chapter.is_named id place (rule_for r) ≡ false = and_assoc (r.id == id) (nat_le r.ends place) (nat_lt place r.form_ends) ∙ other in
      rw (asked, other) (named_same earlier answers small good.1 id place)
]

post_value : (rs : List Rule) (answers : ℕ → Value) (this : ℕ) (t : Tree) → ((id : ℕ) → IsSmall (answers id)) → AreGoodRules rs → IsGoodTree t
    → chapter.value_of (map rule_for rs) (λ id. value_for (answers id)) this (map mark_for (post t)) ≡ value_for (value rs answers this t)
unfolding chapter_value
post_value rs answers this t small good is =
    let over : chapter.rule_value (map rule_for rs) (λ i. value_for (answers i)) ≡ (λ i p. value_for (rule_values rs answers i p)) = fun_ext (λ i. fun_ext (λ p. named_same rs answers small good i p)) in
    ap (λ (f : Named). chapter_value f answers this t) over ∙ tree_value (rule_values rs answers) answers this t (all_small rs answers small good) is

pub value_same : (rs : List Rule) (answers : ℕ → Value) (this : ℕ) (marks : List Mark) (t : Tree) → ((id : ℕ) → IsSmall (answers id)) → AreGoodRules rs → Means marks t → AreOfBytes marks
    → chapter.value_of (map rule_for rs) (λ id. value_for (answers id)) this (map mark_for marks) ≡ value_for (value rs answers this t)
value_same rs answers this marks t small good means bytes =
    ap (λ (ms : List Mark). chapter.value_of (map rule_for rs) (λ id. value_for (answers id)) this (map mark_for ms)) (sym means.spelled)
    ∙ post_value rs answers this t small good (means.fitting, subst AreOfBytes (sym means.spelled) bytes)

-- ---- the opcodes of an expression

pub opcodes_same : (at : ℕ) (op : List ℕ) (children : Forest) → chapter.expression at op children ≡ map mark_for (expression at op children)
opcodes_same at op none = refl
opcodes_same at op (node o inner rest) =
    let from : ℕ = at + length op in
    let long : List ℕ = flat (node o inner none) in
    let later : drop 1 (chapter.expression from long rest) ≡ drop 1 (map mark_for (expression from long rest)) = ap (drop 1) (opcodes_same from long rest) in
    ap (λ (l : List chapter.Mark). record { place = at; op = op } ∷ record { place = from; op = o } ∷ l) later

-- ---- whether a condition holds

pub holds_same : (v : Value) → rules.holds (value_for v) ≡ values.holds v
holds_same values.undefined = refl
holds_same (values.boolean b) = refl
holds_same (values.natural n) = refl
holds_same (values.text units) = refl
holds_same (values.buffer bytes) = refl
