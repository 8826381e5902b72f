-- The opcodes of an expression, met one after the other, are those of its node.
use Rattle.std.proofs.Common.{◌≡◌, ℕ, ◌+◌, ◌≤◌, ◌<◌, ◌^◌, inl, inr, Bool, true, false, cond, Option, Some, None, Result, Ok, Err, List, [], ◌∷◌, ◌++◌, length, refl, sym, ap, subst, ◌∙◌, append_assoc, arith, lit≤, add-one}
use Rattle.std.specs.Prelude.{Contains, not, ⊤, ◌==◌}
use Rattle.std.specs.List.{concat}
use Rattle.std.proofs.lemmas.List.{append-nil}
use Rattle.std.proofs.lemmas.Bool.{cases_Bool, false≢true, true≢false, ne_eqb, eqb-true, eqb-false}
use Rattle.hii_bytes.specs.Faults.{IsLeast, HasNone}
use Rattle.hii_bytes.specs.code.FirstFaults.{AreAll, Rise, first_cause, fault_or, first_fault}
use Rattle.hii_bytes.specs.declared.cause.Cause.{Cause}
use Rattle.hii_bytes.specs.declared.cause.Cause.TheVariants.{OpOutside, OpSize, Misplaced, ScopeBit, ExprShape}
use Rattle.hii_bytes.specs.declared.cause.Fault.{Fault}
use Rattle.hii_bytes.proofs.FirstFaultLemmas.{first_among, none_among}
use Rattle.hii_bytes.proofs.FaultLemmas.{then_first, then_second}
use Rattle.ifr_opcodes.specs.declared.codes.TheConstants.{END}
use Rattle.ifr_opcodes.specs.Opcode.{number, has_scope, end}
use Rattle.ifr_opcodes.specs.Rows.{is_operator}
use Rattle.ifr_opcodes.specs.Forest.{Forest, none, node, opcodes, flat, AreNodes, Mark}
use Rattle.ifr_opcodes.specs.Reading.{opcodes_in}
use Rattle.ifr_opcodes.proofs.ForestLemmas.{opcodes_scoped, opcodes_plain, all_whole, opcodes_in_spelled, takes as takes_bytes}
use Rattle.ifr_expr.specs.code.Checked.{IsSized, AreSized, tree, IsChecked}
use Rattle.ifr_expr.specs.code.Counting.{counted, counted_all}
use Rattle.ifr_expr.specs.Counting.{Spell}
use Rattle.ifr_expr.specs.Faults.{has_opcode_fault, IsOpcodeFault, IsShapeFault, IsExpressionFault}
use Rattle.ifr_expr.specs.code.Counting.{opcode_causes}
use Rattle.ifr_expr.specs.code.Bytes.{front, children, IsExpressionNode, AreOpcodes, opcodes_of, to_end}
use Rattle.ifr_expr.specs.Reading.{tree_of_opcodes}
use Rattle.ifr_expr.specs.Trees.{Tree, post, need, Means, siblings, expression}
use Rattle.ifr_expr.proofs.CountLemmas.{count_step, count_none, count-append}
use Rattle.ifr_expr.proofs.TreeLemmas.{is_tree_of}
use Rattle.ifr_expr.proofs.ShapeLemmas.{Grown, Says, says_all, least_shape, no_shape}

behind_first : (x : Mark) (xs : List Mark) (m : Mark) → Contains xs m → Contains (x ∷ xs) m
behind_first x xs m (k, lt, e) = (k + 1, omega arith, rw add-one e)

-- ---- the opcodes that are met, and those of the node

-- Both are the same opcodes up to the first that opens a scope inside of the expression's own.
abbrev pub Agree : ℕ → List Mark → List Mark → Type 0
Agree at [] [] = ⊤
Agree at (x ∷ xs) (y ∷ ys) = (x ≡ y) × (has_opcode_fault at x ScopeBit ≡ false → Agree at xs ys)
Agree at [] (y ∷ ys) = ⊥
Agree at (x ∷ xs) [] = ⊥

met : (at : ℕ) (op : List ℕ) (ops : List (List ℕ)) → (number op ≡ END → ⊥) → to_end at (op ∷ ops) ≡ record { place = at; op = op } ∷ to_end (at + length op) ops
unfolding to_end
met at op ops other = rw (ne_eqb (number op) END other) refl

met_end : (at : ℕ) (ops : List (List ℕ)) → to_end at (end ∷ ops) ≡ []
unfolding to_end
met_end at ops = refl

met_none : (at : ℕ) → to_end at [] ≡ []
unfolding to_end
met_none at = refl

-- nothing is met behind these
abbrev pub Ends : List (List ℕ) → Type 0
Ends more = (at : ℕ) → to_end at more ≡ []

agree_siblings : (start at : ℕ) (f : Forest) (more : List (List ℕ)) → AreNodes f → start < at → Ends more → Agree start (to_end at (opcodes f ++ more)) (siblings at f)
agree_siblings start at none more h lt ends = rw (ends at) tt
agree_siblings start at (node op c rest) more h lt ends = elim (cases_Bool (has_scope op)) [
  | inl s ↦
      rw (opcodes_scoped op c rest more s, met at op (opcodes c ++ (end ∷ (opcodes rest ++ more))) h.0.no_end)
      (refl, λ unscoped. absurd (scoped s unscoped))
  | inr s ↦
      let bare : c ≡ none = h.0.leaf s in
      let size : flat (node op c none) ≡ op = rw (s, append-nil op) refl in
      rw (opcodes_plain op c rest more s, met at op (opcodes rest ++ more) h.0.no_end, size)
      (refl, λ unscoped. agree_siblings start (at + length op) rest more h.1.1 (omega arith) ends)
]
  where
    scoped : has_scope op ≡ true → has_opcode_fault start (record { place = at; op = op }) ScopeBit ≡ false → ⊥
    scoped s unscoped = true≢false (sym (rw (s, ne_eqb at start (λ same. omega arith)) refl) ∙ unscoped)

spelled_opcodes : (bytes : List ℕ) → IsExpressionNode bytes → opcodes_in bytes ≡ opcodes (node (front bytes) (children bytes) none)
spelled_opcodes bytes h = opcodes_in_spelled bytes (opcodes (node (front bytes) (children bytes) none)) (all_whole (node (front bytes) (children bytes) none) h.are_nodes) h.spelled

pub are_opcodes : (bytes : List ℕ) → IsExpressionNode bytes → AreOpcodes bytes
are_opcodes bytes h = record {
  whole = rw (spelled_opcodes bytes h) (all_whole (node (front bytes) (children bytes) none) h.are_nodes);
  joined = ap concat (spelled_opcodes bytes h) ∙ sym h.spelled;
}

agree_node : (at : ℕ) (op : List ℕ) (c : Forest) → AreNodes (node op c none) → Agree at (to_end at (opcodes (node op c none))) (expression at op c)
agree_node at op c h = elim (cases_Bool (has_scope op)) [
  | inl s ↦
      rw (sym (append-nil (opcodes (node op c none))) ∙ opcodes_scoped op c none [] s, met at op (opcodes c ++ (end ∷ [])) h.0.no_end)
      (refl, λ unscoped. agree_siblings at (at + length op) c (end ∷ []) h.1.0 (omega (arith, h.0.whole.long)) (λ p. met_end p []))
  | inr s ↦
      rw (sym (append-nil (opcodes (node op c none))) ∙ opcodes_plain op c none [] s, met at op [] h.0.no_end, h.0.leaf s)
      (refl, λ unscoped. rw (met_none (at + length op)) tt)
]

agree_all : (at : ℕ) (bytes : List ℕ) → IsExpressionNode bytes → Agree at (to_end at (opcodes_in bytes)) (opcodes_of at bytes)
agree_all at bytes h = rw (spelled_opcodes bytes h) (agree_node at (front bytes) (children bytes) h.are_nodes)

advance : (at : ℕ) (op : Mark) (left behind : List Mark) → Agree at (op ∷ left) behind → (rest : List Mark) × (behind ≡ op ∷ rest) × (has_opcode_fault at op ScopeBit ≡ false → Agree at left rest)
advance at op left [] a = absurd a
advance at op left (y ∷ rest) a = (rest, ap (λ (m : Mark). m ∷ rest) (sym a.0), a.1)

nothing_behind : (at : ℕ) (behind : List Mark) → Agree at [] behind → behind ≡ []
nothing_behind at [] a = refl
nothing_behind at (y ∷ rest) a = absurd a

-- ---- each opcode by itself

among : (at : ℕ) (op : Mark) (d : Cause) → has_opcode_fault at op d ≡ true → Contains opcode_causes d
among at op OpOutside h = (0, omega arith, refl)
among at op OpSize h = (1, omega arith, refl)
among at op Misplaced h = (2, omega arith, refl)
among at op ScopeBit h = (3, omega arith, refl)
among at op _ h = absurd (false≢true h)

all_causes : (at : ℕ) → AreAll (has_opcode_fault at) opcode_causes
all_causes at = record { rise = (lit≤ tt, (lit≤ tt, (lit≤ tt, (lit≤ tt, tt)))); all = among at }

abbrev place_of : Mark → ℕ
place_of op = op.place

rise_siblings : (low at : ℕ) (f : Forest) → AreNodes f → low ≤ at → Rise place_of low (siblings at f)
rise_siblings low at none h le = tt
rise_siblings low at (node op c rest) h le =
    (le, rise_siblings (at + 1) (at + length (flat (node op c none))) rest h.1.1 (omega (arith, (takes_bytes op c rest h).0, h.0.whole.long)))

rise_all : (at : ℕ) (bytes : List ℕ) → IsExpressionNode bytes → Rise place_of at (opcodes_of at bytes)
rise_all at bytes h = (omega arith, rise_siblings (at + 1) (at + length (front bytes)) (children bytes) h.are_nodes.1.0 (omega (arith, h.are_nodes.0.whole.long)))

abbrev pub first_of : ℕ → List Mark → Option Fault
first_of at marks = first_fault place_of (has_opcode_fault at) opcode_causes marks

no_cause : (a b c d : Bool) → cond {A = Option Cause} a (Some OpOutside) (cond b (Some OpSize) (cond c (Some Misplaced) (cond d (Some ScopeBit) None))) ≡ None → (b ≡ false) × (c ≡ false) × (d ≡ false)
no_cause true b c d e = absurd cc
no_cause false true c d e = absurd cc
no_cause false false true d e = absurd cc
no_cause false false false true e = absurd cc
no_cause false false false false e = (refl, refl, refl)

not_false : (b : Bool) → not b ≡ false → b ≡ true
not_false true e = refl
not_false false e = absurd (true≢false e)

sound : (at : ℕ) (op : Mark) → first_cause (has_opcode_fault at) op opcode_causes ≡ None → IsSized op × (has_opcode_fault at op ScopeBit ≡ false)
sound at op e =
    let all = no_cause (has_opcode_fault at op OpOutside) (has_opcode_fault at op OpSize) (has_opcode_fault at op Misplaced) (has_opcode_fault at op ScopeBit) e in
    (record { operator = not_false (is_operator (number op.op)) all.1; sized = all.0 }, all.2)

-- ---- where checking stands

-- These opcodes were met, of all that were to be met and of all that the node has, and counted.
pub record Stands (at : ℕ) (all start left : List Mark) (values : Result ℕ Fault) : Type 0 where
  pub before : List Mark
  pub behind : List Mark
  pub split : all ≡ before ++ behind
  pub met_so : start ≡ before ++ left
  pub agrees : Agree at left behind
  pub clean : first_of at all ≡ first_of at behind
  pub sized : AreSized before
  pub counts : counted_all (Ok 0) before ≡ values

pub at_start : (at : ℕ) (bytes : List ℕ) (left : List Mark) → IsExpressionNode bytes → left ≡ to_end at (opcodes_in bytes) → Stands at (opcodes_of at bytes) (to_end at (opcodes_in bytes)) left (Ok 0)
at_start at bytes left h e = record {
  before = [];
  behind = opcodes_of at bytes;
  split = refl;
  met_so = sym e;
  agrees = rw e (agree_all at bytes h);
  clean = refl;
  sized = tt;
  counts = count_none (Ok 0);
}

more_sized : (xs : List Mark) (op : Mark) → AreSized xs → IsSized op → AreSized (xs ++ op ∷ [])
more_sized [] op h k = (k, tt)
more_sized (x ∷ xs) op h k = (h.0, more_sized xs op h.1 k)

pub goes_on_counting : (at : ℕ) (all start left more : List Mark) (values next : Result ℕ Fault) (op : Mark) → Stands at all start left values → left ≡ op ∷ more → first_cause (has_opcode_fault at) op opcode_causes ≡ None → next ≡ counted values op → Stands at all start more next
goes_on_counting at all start left more values next op s e clear is =
    let a = advance at op more s.behind (subst (λ (l : List Mark). Agree at l s.behind) e s.agrees) in
    let ok = sound at op clear in
    record {
      before = s.before ++ op ∷ [];
      behind = a.0;
      split = s.split ∙ ap (λ (l : List Mark). s.before ++ l) a.1 ∙ sym (append_assoc s.before (op ∷ []) a.0);
      met_so = s.met_so ∙ ap (λ (l : List Mark). s.before ++ l) e ∙ sym (append_assoc s.before (op ∷ []) more);
      agrees = a.2 ok.1;
      clean = s.clean ∙ ap (first_of at) a.1 ∙ ap (λ (c : Option Cause). fault_or c op.place (first_of at a.0)) clear;
      sized = more_sized s.before op s.sized ok.0;
      counts = count-append (Ok 0) s.before (op ∷ []) ∙ count_step _ op [] ∙ count_none _ ∙ ap (λ (v : Result ℕ Fault). counted v op) s.counts ∙ sym is;
    }

pub cause_told : (at : ℕ) (bytes : List ℕ) (start left more : List Mark) (values : Result ℕ Fault) (op : Mark) (cause : Cause) → IsExpressionNode bytes → Stands at (opcodes_of at bytes) start left values → left ≡ op ∷ more
    → first_cause (has_opcode_fault at) op opcode_causes ≡ Some cause → IsLeast (IsOpcodeFault at (opcodes_of at bytes)) (record { cause = cause; place = op.place })
cause_told at bytes start left more values op cause h s e some =
    let a = advance at op more s.behind (subst (λ (l : List Mark). Agree at l s.behind) e s.agrees) in
    first_among place_of (has_opcode_fault at) opcode_causes at (opcodes_of at bytes) (record { cause = cause; place = op.place }) (all_causes at) (rise_all at bytes h)
    (s.clean ∙ ap (first_of at) a.1 ∙ ap (λ (c : Option Cause). fault_or c op.place (first_of at a.0)) some)

-- All opcodes were met, and none has a fault by itself.
pub record Done (at : ℕ) (all start : List Mark) (values : Result ℕ Fault) : Type 0 where
  pub same : start ≡ all
  pub none : HasNone (IsOpcodeFault at all)
  pub told : Says at all values
  pub sized : AreSized all

pub done : (at : ℕ) (all start left : List Mark) (values : Result ℕ Fault) → Stands at all start left values → left ≡ [] → Done at all start values
done at all start left values s e =
    let behind : s.behind ≡ [] = nothing_behind at s.behind (subst (λ (l : List Mark). Agree at l s.behind) e s.agrees) in
    let is : all ≡ s.before = s.split ∙ ap (λ (l : List Mark). s.before ++ l) behind ∙ append-nil s.before in
    record {
      same = s.met_so ∙ ap (λ (l : List Mark). s.before ++ l) e ∙ append-nil s.before ∙ sym is;
      none = none_among place_of (has_opcode_fault at) opcode_causes all (all_causes at) (s.clean ∙ ap (first_of at) behind);
      told = subst (λ (l : List Mark). Says at l values) (sym is) (subst (Says at s.before) s.counts (says_all at s.before s.sized));
      sized = subst AreSized (sym is) s.sized;
    }

single : (trees : List Tree) → length trees ≡ 1 → (t : Tree) × (trees ≡ t ∷ [])
single [] e = absurd (omega arith)
single (t ∷ []) e = (t, refl)
single (t ∷ u ∷ trees) e = absurd (omega arith)

-- one value is left of opcodes that mean a tree
pub one_value : (marks : List Mark) → Grown marks 1 → Means marks (tree_of_opcodes marks) × (need (tree_of_opcodes marks) ≤ 64)
one_value marks g =
    let one = single g.trees g.long in
    let s : Spell marks (one.0 ∷ []) = subst (Spell marks) one.1 g.spell in
    let m : Means marks one.0 = record { spelled = sym (append-nil (post one.0)) ∙ s.spelled; fitting = s.fitting.0 } in
    let is : tree_of_opcodes marks ≡ one.0 = is_tree_of marks one.0 m in
    rw is (m, omega (arith, s.within))

pub checked : (at : ℕ) (bytes : List ℕ) → at + length bytes < 2 ^ 32 → IsExpressionNode bytes → Done at (opcodes_of at bytes) (to_end at (opcodes_in bytes)) (Ok 1) → IsChecked at bytes
checked at bytes small h d =
    let one = one_value (opcodes_of at bytes) d.told in
    record {
      small = small;
      opcodes = are_opcodes bytes h;
      means = rw d.same one.0;
      within = rw d.same one.1;
      sized = rw d.same d.sized;
    }

pub means_node : (at : ℕ) (bytes : List ℕ) → Done at (opcodes_of at bytes) (to_end at (opcodes_in bytes)) (Ok 1) → Means (opcodes_of at bytes) (tree at bytes)
means_node at bytes d = rw d.same (one_value (opcodes_of at bytes) d.told).0

-- it has no fault
pub sound_node : (at : ℕ) (bytes : List ℕ) → Done at (opcodes_of at bytes) (to_end at (opcodes_in bytes)) (Ok 1) → HasNone (IsExpressionFault at (opcodes_of at bytes))
sound_node at bytes d = λ cause place fault.
    let one = one_value (opcodes_of at bytes) d.told in
    elim fault [ inl f ↦ d.none cause place f | inr f ↦ no_shape at (opcodes_of at bytes) (tree_of_opcodes (opcodes_of at bytes)) one.0 one.1 cause place f.1 ]

-- several values are left
pub several : (at : ℕ) (bytes : List ℕ) (start : List Mark) (count : ℕ) → Done at (opcodes_of at bytes) start (Ok count) → (count ≡ 1 → ⊥) → IsShapeFault at (opcodes_of at bytes) ExprShape at
several at bytes start count d other = go d.told.trees d.told.spell d.told.long
  where
    go : (trees : List Tree) → Spell (opcodes_of at bytes) trees → length trees ≡ count → IsShapeFault at (opcodes_of at bytes) ExprShape at
    go [] s long = absurd (omega (arith, ap (λ (l : List Mark). length l) s.spelled))
    go (t ∷ trees) s long = inr (t ∷ trees, s, omega arith, refl)

pub least_all : (at : ℕ) (all : List Mark) (fault : Fault) → HasNone (IsOpcodeFault at all) → IsShapeFault at all fault.cause fault.place → IsLeast (IsExpressionFault at all) fault
least_all at all fault clear told = then_second (IsOpcodeFault at all) (IsShapeFault at all) fault clear (least_shape at all fault told)

pub least_opcode : (at : ℕ) (all : List Mark) (fault : Fault) → IsLeast (IsOpcodeFault at all) fault → IsLeast (IsExpressionFault at all) fault
least_opcode at all fault l = then_first (IsOpcodeFault at all) (IsShapeFault at all) fault l

-- where the least fault is told, opcodes that mean a tree within the bound and have no fault are none
pub not_meant : (at : ℕ) (all : List Mark) (fault : Fault) → IsLeast (IsExpressionFault at all) fault → (tree : Tree) → Means all tree → need tree ≤ 64 → HasNone (IsOpcodeFault at all) → ⊥
not_meant at all fault l tree m few clear = elim l.told [ inl f ↦ clear fault.cause fault.place f | inr f ↦ no_shape at all tree m few fault.cause fault.place f.1 ]

pub not_clear : (at : ℕ) (all : List Mark) (fault : Fault) → IsLeast (IsExpressionFault at all) fault → HasNone (IsExpressionFault at all) → ⊥
not_clear at all fault l clear = clear fault.cause fault.place l.told

-- ---- opcodes without a fault

-- where no opcode opens a scope inside of the expression's own, those that are met are those of the node
same_opcodes : (at : ℕ) (xs ys : List Mark) → Agree at xs ys → ((m : Mark) → Contains ys m → has_opcode_fault at m ScopeBit ≡ false) → xs ≡ ys
same_opcodes at [] [] a plain = refl
same_opcodes at [] (y ∷ ys) a plain = absurd a
same_opcodes at (x ∷ xs) [] a plain = absurd a
same_opcodes at (x ∷ xs) (y ∷ ys) a plain =
    let here : has_opcode_fault at x ScopeBit ≡ false = ap (λ (m : Mark). has_opcode_fault at m ScopeBit) a.0 ∙ plain y (0, omega arith, refl) in
    ap (λ (m : Mark). m ∷ xs) a.0 ∙ ap (λ (l : List Mark). y ∷ l) (same_opcodes at xs ys (a.1 here) (λ m w. plain m (behind_first y ys m w)))

all_sized : (marks : List Mark) → ((m : Mark) → Contains marks m → IsSized m) → AreSized marks
all_sized [] each = tt
all_sized (m ∷ marks) each = (each m (0, omega arith, refl), all_sized marks (λ n w. each n (behind_first m marks n w)))

no_fault_there : (at : ℕ) (all : List Mark) → HasNone (IsOpcodeFault at all) → (m : Mark) → Contains all m → (cause : Cause) → has_opcode_fault at m cause ≡ false
no_fault_there at all without m within cause = elim (cases_Bool (has_opcode_fault at m cause)) [
  | inl has ↦ absurd (without cause m.place (m, within, refl, has))
  | inr e ↦ e
]

counted_done : (at : ℕ) (bytes : List ℕ) → IsExpressionNode bytes → HasNone (IsOpcodeFault at (opcodes_of at bytes)) → Done at (opcodes_of at bytes) (to_end at (opcodes_in bytes)) (counted_all (Ok 0) (opcodes_of at bytes))
counted_done at bytes h without =
    let all = opcodes_of at bytes in
    let clear = no_fault_there at all without in
    let sized : AreSized all = all_sized all (λ m w. record { operator = not_false (is_operator (number m.op)) (clear m w Misplaced); sized = clear m w OpSize }) in
    record {
      same = same_opcodes at (to_end at (opcodes_in bytes)) all (agree_all at bytes h) (λ m w. clear m w ScopeBit);
      none = without;
      told = says_all at all sized;
      sized = sized;
    }

-- they leave one value
one_left : (at : ℕ) (bytes : List ℕ) (values : Result ℕ Fault) → HasNone (IsExpressionFault at (opcodes_of at bytes)) → Done at (opcodes_of at bytes) (to_end at (opcodes_in bytes)) values → values ≡ Ok 1
one_left at bytes (Ok count) sound d = elim (cases_Bool (count == 1)) [
  | inl is ↦ ap (λ (n : ℕ). Ok n) (eqb-true count 1 is)
  | inr other ↦ absurd (sound ExprShape at (inr (d.none, several at bytes (to_end at (opcodes_in bytes)) count d (eqb-false count 1 other))))
]
one_left at bytes (Err fault) sound d = absurd (sound fault.cause fault.place (inr (d.none, d.told)))

pub done_where_sound : (at : ℕ) (bytes : List ℕ) → IsExpressionNode bytes → HasNone (IsExpressionFault at (opcodes_of at bytes)) → Done at (opcodes_of at bytes) (to_end at (opcodes_in bytes)) (Ok 1)
done_where_sound at bytes h sound =
    let d = counted_done at bytes h (λ cause place f. sound cause place (inl f)) in
    subst (Done at (opcodes_of at bytes) (to_end at (opcodes_in bytes))) (one_left at bytes (counted_all (Ok 0) (opcodes_of at bytes)) sound d) d
