-- A good expression is one that has no fault.
use Rattle.std.proofs.Common.{◌≡◌, ℕ, zero, suc, ◌+◌, ◌≤◌, ◌<◌, true, false, Option, Some, is_some, Result, Ok, Err, List, [], ◌∷◌, ◌++◌, length, refl, sym, ap, subst, ◌∙◌, arith, add-one, inl, inr}
use Rattle.std.specs.Prelude.{Contains, ◌==◌, slice_index_or}
use Rattle.std.proofs.lemmas.Bool.{cases_Bool, false≢true, eqb-true, eq-eqb, and_cases, and_left, and_right, not_from_true, not-false}
use Rattle.std.proofs.lemmas.List.Elements.{Contains-append_cases, Contains-push_cases, Contains-get_or, recursion_from_All}
use Rattle.hii_bytes.specs.Faults.{HasNone}
use Rattle.hii_bytes.specs.declared.cause.Cause.{Cause}
use Rattle.hii_bytes.specs.declared.cause.Cause.TheVariants.{OpOutside, OpSize, Misplaced, ScopeBit, ExprShape}
use Rattle.hii_bytes.specs.declared.cause.Fault.{Fault}
use Rattle.ifr_opcodes.specs.Opcode.{number, has_scope}
use Rattle.ifr_opcodes.specs.Rows.{is_operator, is_short}
use Rattle.ifr_opcodes.specs.Forest.{Forest, none, node, flat, AreNodes, Mark}
use Rattle.ifr_opcodes.proofs.RowLemmas.{operator_inside}
use Rattle.ifr_expr.specs.Trees.{Tree, leaf, one, two, post, takes, need, IsFitting, Means, siblings, expression}
use Rattle.ifr_expr.specs.Counting.{Spell}
use Rattle.ifr_expr.specs.Reading.{tree_of_opcodes}
use Rattle.ifr_expr.specs.Faults.{has_opcode_fault, IsShapeFault, IsExpressionFault}
use Rattle.ifr_expr.specs.code.Checked.{IsSized, AreSized}
use Rattle.ifr_expr.proofs.ShapeLemmas.{Grown, Says, says_all, no_shape}
use Rattle.ifr_expr.proofs.CheckLemmas.{one_value}
use Rattle.ifr_expr.specs.code.Counting.{counted_all}
use Rattle.rules_laws.specs.laws.Expressions.{AreFurther, IsGoodExpression}

-- ---- the opcodes of a tree are operators'

takes_some : (op : Mark) (n : ℕ) → takes op ≡ Some n → is_operator (number op.op) ≡ true
takes_some op n e = ap (λ (o : Option ℕ). is_some o) e

same_operator : (op m : Mark) → op ≡ m → is_operator (number op.op) ≡ true → is_operator (number m.op) ≡ true
same_operator op m e known = ap (λ (x : Mark). is_operator (number x.op)) (sym e) ∙ known

of_tree : (tree : Tree) (m : Mark) → IsFitting tree → Contains (post tree) m → is_operator (number m.op) ≡ true
of_tree (leaf op) m h (zero, lt, e) = same_operator op m e (takes_some op 0 h)
of_tree (leaf op) m h (suc k, lt, e) = absurd (omega arith)
of_tree (one op operand) m h w = elim (Contains-push_cases (post operand) op m w) [
  | inl inner ↦ of_tree operand m h.1 inner
  | inr same ↦ same_operator op m same (takes_some op 1 h.0)
]
of_tree (two op left right) m h w = elim (Contains-append_cases (post left) (post right ++ op ∷ []) m w) [
  | inl inner ↦ of_tree left m h.1.0 inner
  | inr later ↦ elim (Contains-push_cases (post right) op m later) [
    | inl inner ↦ of_tree right m h.1.1 inner
    | inr same ↦ same_operator op m same (takes_some op 2 h.0)
  ]
]

pub are_operators : (place : ℕ) (op : List ℕ) (children : Forest) (m : Mark) → IsGoodExpression place op children → Contains (expression place op children) m → is_operator (number m.op) ≡ true
are_operators place op children m g w = of_tree g.tree m g.means.fitting (subst (λ (l : List Mark). Contains l m) (sym g.means.spelled) w)

-- ---- a good expression has no fault

record IsPlain (m : Mark) : Type 0 where
  long : is_short m.op ≡ false
  plain : has_scope m.op ≡ false

plain_siblings : (at : ℕ) (f : Forest) (m : Mark) → AreFurther f → Contains (siblings at f) m → IsPlain m
plain_siblings at none m h (k, lt, e) = absurd (omega arith)
plain_siblings at (node op c rest) m h (zero, lt, e) = subst IsPlain e (record { long = h.0; plain = h.1.0 })
plain_siblings at (node op c rest) m h (suc k, lt, e) = plain_siblings (at + length (flat (node op c none))) rest m h.1.1 (k, omega arith, e)

clear : (at : ℕ) (m : Mark) (cause : Cause) → is_operator (number m.op) ≡ true → is_short m.op ≡ false → has_opcode_fault at m ScopeBit ≡ false → has_opcode_fault at m cause ≡ false
clear at m OpOutside known long scope = operator_inside m.op known
clear at m OpSize known long scope = long
clear at m Misplaced known long scope = not_from_true (is_operator (number m.op)) known
clear at m ScopeBit known long scope = scope
clear at m _ known long scope = refl

clear_all : (place : ℕ) (op : List ℕ) (children : Forest) (m : Mark) (cause : Cause) → IsGoodExpression place op children → Contains (expression place op children) m → has_opcode_fault place m cause ≡ false
clear_all place op children m cause g (zero, lt, e) =
    let first : Mark = record { place = place; op = op } in
    ap (λ (x : Mark). has_opcode_fault place x cause) (sym e)
    ∙ clear place first cause (are_operators place op children first g (0, omega arith, refl)) g.long (and_right (has_scope op) _ (not_from_true (place == place) (eq-eqb place place refl)))
clear_all place op children m cause g (suc k, lt, e) =
    let p = plain_siblings (place + length op) children m g.further (k, omega arith, e) in
    clear place m cause (are_operators place op children m g (suc k, lt, e)) p.long (and_left (has_scope m.op) _ p.plain)

pub good_is_clear : (place : ℕ) (op : List ℕ) (children : Forest) → IsGoodExpression place op children → HasNone (IsExpressionFault place (expression place op children))
good_is_clear place op children g cause at (inl (m, within, is, there)) = false≢true (sym (clear_all place op children m cause g within) ∙ there)
good_is_clear place op children g cause at (inr (others, shape)) = no_shape place (expression place op children) g.tree g.means g.within cause at shape

-- ---- an expression without fault is good

pub behind : (x : Mark) (xs : List Mark) (m : Mark) → Contains xs m → Contains (x ∷ xs) m
behind x xs m (k, lt, e) = (k + 1, omega arith, rw add-one e)

further_of : (start at : ℕ) (f : Forest) → AreNodes f → start < at → ((m : Mark) (cause : Cause) → Contains (siblings at f) m → has_opcode_fault start m cause ≡ false) → AreFurther f
further_of start at none h lt free = tt
further_of start at (node op c rest) h lt free =
    let m : Mark = record { place = at; op = op } in
    let here : Contains (siblings at (node op c rest)) m = (0, omega arith, refl) in
    let plain : has_scope op ≡ false = elim (and_cases (has_scope op) _ (free m ScopeBit here)) [
      | inl e ↦ e
      | inr e ↦ absurd (omega (arith, eqb-true at start (not-false (at == start) e)))
    ] in
    let more : start < at + length (flat (node op c none)) = omega arith in
    (free m OpSize here, (plain, further_of start (at + length (flat (node op c none))) rest h.1.1 more (λ n cause w. free n cause (behind m (siblings (at + length (flat (node op c none))) rest) n w))))

one_left : (place : ℕ) (marks : List Mark) (count : ℕ) → 0 < length marks → HasNone (IsShapeFault place marks) → Grown marks count → count ≡ 1
one_left place marks count some free g = go g.trees g.spell g.long
  where
    go : (trees : List Tree) → Spell marks trees → length trees ≡ count → count ≡ 1
    go [] s long = absurd (omega (arith, ap (λ (l : List Mark). length l) s.spelled))
    go (t ∷ []) s long = sym long
    go (t ∷ u ∷ trees) s long = absurd (free ExprShape place (inr (t ∷ u ∷ trees, s, omega arith, refl)))

grown : (place : ℕ) (marks : List Mark) (count : Result ℕ Fault) → 0 < length marks → HasNone (IsShapeFault place marks) → Says place marks count → Grown marks 1
grown place marks (Ok count) some free says = subst (Grown marks) (one_left place marks count some free says) says
grown place marks (Err fault) some free says = absurd (free fault.cause fault.place says)

pub clear_is_good : (place : ℕ) (op : List ℕ) (children : Forest) → AreNodes (node op children none) → HasNone (IsExpressionFault place (expression place op children)) → IsGoodExpression place op children
clear_is_good place op children h sound = record {
  long = free (record { place = place; op = op }) OpSize (0, omega arith, refl);
  further = further_of place (place + length op) children h.1.0 (omega (arith, h.0.whole.long)) (λ m cause w. free m cause (behind (record { place = place; op = op }) (siblings (place + length op) children) m w));
  tree = tree_of_opcodes marks;
  means = value.0;
  within = value.1;
}
  where
    marks : List Mark
    marks = expression place op children

    free : (m : Mark) (cause : Cause) → Contains marks m → has_opcode_fault place m cause ≡ false
    free m cause w = elim (cases_Bool (has_opcode_fault place m cause)) [
      | inl has ↦ absurd (sound cause m.place (inl (m, w, refl, has)))
      | inr e ↦ e
    ]

    sized : AreSized marks
    sized = recursion_from_All IsSized marks (λ k d lt. one (slice_index_or marks k d) (Contains-get_or marks k d lt))
      where
        one : (m : Mark) → Contains marks m → IsSized m
        one m w = record { operator = not-false (is_operator (number m.op)) (free m Misplaced w); sized = free m OpSize w }

    value : Means marks (tree_of_opcodes marks) × (need (tree_of_opcodes marks) ≤ 64)
    value = one_value marks (grown place marks (counted_all (Ok 0) marks) (omega arith) (λ cause at f. sound cause at (inr (λ c p g. sound c p (inl g), f))) (says_all place marks sized))
