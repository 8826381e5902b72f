-- The chapters find the faults of the shape of an expression that the contracts say.
use Rattle.std.proofs.Common.{◌≡◌, ◌==◌, ℕ, ◌+◌, ◌-◌, ◌<◌, ◌≤◌, Bool, true, false, not, Some, None, Result, Ok, Err, List, [], ◌∷◌, length, map, refl, ap, sym, subst, ◌∙◌, inl, inr, arith, zero, suc, add-one}
use Rattle.std.specs.Prelude.{◌||◌, ◌&&◌, if◌then◌else◌, nat_lt, nat_le, Contains}
use Rattle.std.specs.List.{list_all}
use Rattle.std.proofs.lemmas.Bool.{cases_Bool, cases_lt, lt-ltb, le-ltb, ne_eqb, true≢false, false≢true}
use Rattle.std.proofs.lemmas.Bool.Decides.{nat_tests}
use Rattle.hii_bytes.specs.declared.cause.Cause.{Cause}
use Rattle.hii_bytes.specs.declared.cause.Cause.TheVariants.{OpOutside, OpSize, Misplaced, ScopeBit, ExprShape}
use Rattle.hii_bytes.specs.declared.cause.Fault.{Fault as CodeFault}
use Rattle.hii_bytes.specs.Faults.{AreFaults, HasNone}
use Rattle.ifr_opcodes.specs.Forest.{Mark}
use Rattle.ifr_opcodes.specs.Opcode.{number, has_scope}
use Rattle.ifr_opcodes.specs.Rows.{is_operator, is_outside, is_short, operands_of}
use Rattle.ifr_expr.specs.Counting.{or_zero, posts, wanted}
use Rattle.ifr_expr.specs.Faults.{has_opcode_fault, IsOpcodeFault, IsShapeFault}
use Rattle.ifr_expr.specs.Trees.{Tree}
use Rattle.ifr_expr.specs.code.Checked.{AreSized}
use Rattle.ifr_expr.specs.code.Counting.{counted_all}
use Rattle.ifr_expr.proofs.CountLemmas.{count_step, count_none, count_stays, after_few, after_many, after_some}
use Rattle.ifr_expr.proofs.ShapeLemmas.{Says, says_all, fault_told, told_by}
use Rattle.browser_rules.specs.Expressions as rules
use Rattle.browser_rules.specs.Expressions.{sense_of}
use Rattle.browser_rules.specs.Faults.{Fault, is_good_operator, operands, order_faults, fault_if}
use Rattle.browser_rules.specs.Opcodes as chapter
use Rattle.browser_rules.specs.Opcodes.{Sense, no_operator, leaf, one, two}
use Rattle.browser_rules.specs.Words as words
use Rattle.hii_bytes.specs.Causes.{fault_for}
use Rattle.rules_laws.specs.laws.Opcodes.{mark_for}
use Rattle.hii_bytes.proofs.ChapterFaultLemmas.{one_fault, no_faults, where_same}
use Rattle.ifr_opcodes.proofs.RowLemmas.{operator_same}
use Rattle.rules_laws.proofs.OpcodeListLemmas.{takes_same}

-- ---- opcodes by themselves

-- as the contracts have it
abbrev is_clean : ℕ → Mark → Bool
is_clean at m = is_operator (number m.op) && not (is_outside m.op) && not (is_short m.op) && (not (has_scope m.op) || m.place == at)

good_same : (at : ℕ) (m : Mark) → is_good_operator at (mark_for m) ≡ is_clean at m
good_same at m =
    ap (λ (b : Bool). b && not (is_outside m.op) && not (is_short m.op) && (not (has_scope m.op) || m.place == at)) (operator_same (number m.op))

all_clean : (at : ℕ) (ms : List Mark) → list_all (is_good_operator at) (map mark_for ms) ≡ list_all (is_clean at) ms
all_clean at [] = refl
all_clean at (m ∷ ms) = ap (λ (b : Bool). b && list_all (is_good_operator at) (map mark_for ms)) (good_same at m) ∙ ap (λ (b : Bool). is_clean at m && b) (all_clean at ms)

-- what an opcode has where it is clean
parts : (a b c d e : Bool) → (a && not b && not c && (not d || e)) ≡ true → (a ≡ true) × (b ≡ false) × (c ≡ false) × ((d && not e) ≡ false)
parts true false false false e h = (refl, refl, refl, refl)
parts true false false true true h = (refl, refl, refl, refl)
parts true false false true false h = absurd (false≢true h)
parts true false true d e h = absurd (false≢true h)
parts true true c d e h = absurd (false≢true h)
parts false b c d e h = absurd (false≢true h)

whole : (a b c d e : Bool) → not a ≡ false → b ≡ false → c ≡ false → (d && not e) ≡ false → (a && not b && not c && (not d || e)) ≡ true
whole true false false false e ha hb hc hd = refl
whole true false false true true ha hb hc hd = refl
whole true false false true false ha hb hc hd = absurd (true≢false hd)
whole true false true d e ha hb hc hd = absurd (true≢false hc)
whole true true c d e ha hb hc hd = absurd (true≢false hb)
whole false b c d e ha hb hc hd = absurd (true≢false ha)

clean_parts : (at : ℕ) (m : Mark) → is_clean at m ≡ true → (is_operator (number m.op) ≡ true) × (is_outside m.op ≡ false) × (is_short m.op ≡ false) × ((has_scope m.op && not (m.place == at)) ≡ false)
clean_parts at m = parts (is_operator (number m.op)) (is_outside m.op) (is_short m.op) (has_scope m.op) (m.place == at)

no_fault : (at : ℕ) (m : Mark) → is_clean at m ≡ true → (c : Cause) → has_opcode_fault at m c ≡ true → ⊥
no_fault at m clean OpOutside is = true≢false (sym is ∙ (clean_parts at m clean).1)
no_fault at m clean OpSize is = true≢false (sym is ∙ (clean_parts at m clean).2)
no_fault at m clean Misplaced is = true≢false (sym is ∙ ap (λ (b : Bool). not b) (clean_parts at m clean).0)
no_fault at m clean ScopeBit is = true≢false (sym is ∙ (clean_parts at m clean).3)
no_fault at m clean _ is = false≢true is

later : (m : Mark) (ms : List Mark) (x : Mark) → Contains ms x → Contains (m ∷ ms) x
later m ms x (k, lt, e) = (k + 1, omega arith, rw add-one e)

and_parts : (a b : Bool) → (a && b) ≡ true → (a ≡ true) × (b ≡ true)
and_parts true b h = (refl, h)
and_parts false b h = absurd (false≢true h)

each_clean : (at : ℕ) (ms : List Mark) → list_all (is_clean at) ms ≡ true → (m : Mark) → Contains ms m → is_clean at m ≡ true
each_clean at [] all m there = absurd (omega (arith, there.1))
each_clean at (x ∷ ms) all m (zero, lt, e) = subst (λ (y : Mark). is_clean at y ≡ true) e (and_parts (is_clean at x) _ all).0
each_clean at (x ∷ ms) all m (suc k, lt, e) = each_clean at ms (and_parts (is_clean at x) _ all).1 m (k, omega (arith, lt), e)

pub no_opcode_fault : (at : ℕ) (ms : List Mark) → list_all (is_good_operator at) (map mark_for ms) ≡ true → HasNone (IsOpcodeFault at ms)
no_opcode_fault at ms good c p (m, there, place, is) = no_fault at m (each_clean at ms (sym (all_clean at ms) ∙ good) m there) c is

absent : (b : Bool) → (b ≡ true → ⊥) → b ≡ false
absent b never = elim (cases_Bool b) [ inl e ↦ absurd (never e) | inr e ↦ e ]

clean_where : (at : ℕ) (ms : List Mark) → HasNone (IsOpcodeFault at ms) → list_all (is_clean at) ms ≡ true
clean_where at [] none = refl
clean_where at (m ∷ ms) none =
    rw (here, clean_where at ms (λ c p is. none c p (is.0, later m ms is.0 is.1, is.2, is.3))) refl
  where
    free : (c : Cause) → has_opcode_fault at m c ≡ false
    free c = absent (has_opcode_fault at m c) (λ is. none c m.place (m, (0, omega arith, refl), refl, is))

    here : is_clean at m ≡ true
    here = whole (is_operator (number m.op)) (is_outside m.op) (is_short m.op) (has_scope m.op) (m.place == at) (free Misplaced) (free OpOutside) (free OpSize) (free ScopeBit)

pub good_where : (at : ℕ) (ms : List Mark) → HasNone (IsOpcodeFault at ms) → list_all (is_good_operator at) (map mark_for ms) ≡ true
good_where at ms none = all_clean at ms ∙ clean_where at ms none

sized_where : (at : ℕ) (ms : List Mark) → list_all (is_clean at) ms ≡ true → AreSized ms
sized_where at [] all = tt
sized_where at (m ∷ ms) all =
    let both = and_parts (is_clean at m) _ all in
    let its = clean_parts at m both.0 in
    (record { operator = its.0; sized = its.2 }, sized_where at ms both.1)

-- ---- how many values there are

operands_same : (s : Sense) → operands s ≡ or_zero (operands_of s)
operands_same no_operator = refl
operands_same (leaf makes) = refl
operands_same (one makes) = refl
operands_same (two makes) = refl

wants_same : (m : Mark) → operands (sense_of m.op) ≡ wanted m
wants_same m = operands_same (sense_of m.op) ∙ ap or_zero (takes_same (number m.op))

-- what the chapters tell of a count
abbrev told : ℕ → Result ℕ CodeFault → List Fault
told at (Ok count) = fault_if (nat_lt 1 count) words.ExprShape at
told at (Err fault) = fault_for fault.cause fault.place ∷ []

-- an opcode with the values that it takes, as the chapters have it
abbrev step : ℕ → ℕ → ℕ → ℕ → List rules.Mark → List Fault
step at place values takes ms =
    if nat_lt values takes then (record { cause = words.ExprShape; place = place }) ∷ []
    else if takes == 0 && nat_le 64 values then (record { cause = words.ExprDepth; place = place }) ∷ []
    else order_faults at (values - takes + 1) ms

few_step : (at place values takes : ℕ) (ms : List rules.Mark) → values < takes → step at place values takes ms ≡ (record { cause = words.ExprShape; place = place }) ∷ []
few_step at place values takes ms few = rw (lt-ltb values takes few) refl

many_step : (at place values takes : ℕ) (ms : List rules.Mark) → takes ≡ 0 → 64 ≤ values → step at place values takes ms ≡ (record { cause = words.ExprDepth; place = place }) ∷ []
many_step at place values takes ms none many =
    let enough : nat_lt values takes ≡ false = le-ltb values takes (omega arith) in
    let deep : (takes == 0 && nat_le 64 values) ≡ true = grind (arith, nat_tests) in
    rw (enough, deep) refl

next_step : (at place values takes : ℕ) (ms : List rules.Mark) → takes ≤ values → values - takes + 1 ≤ 64 → step at place values takes ms ≡ order_faults at (values - takes + 1) ms
next_step at place values takes ms within few =
    let enough : nat_lt values takes ≡ false = le-ltb values takes within in
    let flat : (takes == 0 && nat_le 64 values) ≡ false = grind (arith, nat_tests) in
    rw (enough, flat) refl

counted_same : (at values : ℕ) (ms : List Mark) → AreSized ms → values ≤ 64 → order_faults at values (map mark_for ms) ≡ told at (counted_all (Ok values) ms)
counted_same at values [] sized few = ap (told at) (sym (count_none (Ok values)))
counted_same at values (m ∷ ms) sized few =
    ap (λ (t : ℕ). step at m.place values t (map mark_for ms)) (wants_same m)
    ∙ elim (cases_lt values (wanted m)) [
      | inl short ↦
          few_step at m.place values (wanted m) (map mark_for ms) short
          ∙ sym (ap (told at) (count_step (Ok values) m ms ∙ ap (λ (c : Result ℕ CodeFault). counted_all c ms) (after_few values m short) ∙ count_stays _ ms))
      | inr long ↦ elim (cases_lt 64 (values - wanted m + 1)) [
        | inl many ↦
            many_step at m.place values (wanted m) (map mark_for ms) (omega arith) (omega arith)
            ∙ sym (ap (told at) (count_step (Ok values) m ms ∙ ap (λ (c : Result ℕ CodeFault). counted_all c ms) (after_many values m long many) ∙ count_stays _ ms))
        | inr fit ↦
            next_step at m.place values (wanted m) (map mark_for ms) long fit
            ∙ counted_same at (values - wanted m + 1) ms sized.1 fit
            ∙ sym (ap (told at) (count_step (Ok values) m ms ∙ ap (λ (c : Result ℕ CodeFault). counted_all c ms) (after_some values m long fit)))
      ]
    ]

-- ---- the faults of the shape

same_fault : (f g : CodeFault) → Some f ≡ Some g → f ≡ g
same_fault f g e = cc

only : (at : ℕ) (ms : List Mark) (f : CodeFault) → told_by at (counted_all (Ok 0) ms) ≡ Some f → (c : Cause) (p : ℕ) → IsShapeFault at ms c p → (c ≡ f.cause) × (p ≡ f.place)
only at ms f tells c p is =
    let same = same_fault f (record { cause = c; place = p }) (sym tells ∙ fault_told at ms c p is) in
    (sym (ap (λ (g : CodeFault). g.cause) same), sym (ap (λ (g : CodeFault). g.place) same))

by_count : (at : ℕ) (m : Mark) (ms : List Mark) (count : Result ℕ CodeFault) → counted_all (Ok 0) (m ∷ ms) ≡ count → Says at (m ∷ ms) count → AreFaults (told at count) (IsShapeFault at (m ∷ ms))
by_count at m ms (Err f) is says = one_fault (IsShapeFault at (m ∷ ms)) f.cause f.place says (only at (m ∷ ms) f (ap (told_by at) is))
by_count at m ms (Ok zero) is says = absurd (nothing says.trees says.long says.spell.spelled)
  where
    nothing : (trees : List Tree) → length trees ≡ 0 → posts trees ≡ m ∷ ms → ⊥
    nothing [] long spelled = cc
    nothing (t ∷ trees) long spelled = omega arith
by_count at m ms (Ok (suc zero)) is says = no_faults (IsShapeFault at (m ∷ ms)) (λ c p f. none (record { cause = c; place = p }) (sym (ap (told_by at) is) ∙ fault_told at (m ∷ ms) c p f))
  where
    none : (f : CodeFault) → None ≡ Some f → ⊥
    none f e = cc
by_count at m ms (Ok (suc (suc n))) is says =
    where_same (IsShapeFault at (m ∷ ms)) (ap (λ (b : Bool). fault_if b words.ExprShape at) (lt-ltb 1 (suc (suc n)) (omega arith)))
    (one_fault (IsShapeFault at (m ∷ ms)) ExprShape at (inr (says.trees, says.spell, omega (arith, says.long), refl)) (only at (m ∷ ms) (record { cause = ExprShape; place = at }) (ap (told_by at) is ∙ several)))
  where
    several : told_by at (Ok (suc (suc n))) ≡ Some (record { cause = ExprShape; place = at })
    several = rw (ne_eqb (suc (suc n)) 1 (λ e. omega (arith, e))) refl

pub shape_faults : (at : ℕ) (m : Mark) (ms : List Mark) → list_all (is_good_operator at) (map mark_for (m ∷ ms)) ≡ true → AreFaults (order_faults at 0 (map mark_for (m ∷ ms))) (IsShapeFault at (m ∷ ms))
shape_faults at m ms good =
    let sized : AreSized (m ∷ ms) = sized_where at (m ∷ ms) (sym (all_clean at (m ∷ ms)) ∙ good) in
    where_same (IsShapeFault at (m ∷ ms)) (counted_same at 0 (m ∷ ms) sized (omega arith))
    (by_count at m ms (counted_all (Ok 0) (m ∷ ms)) refl (says_all at (m ∷ ms) sized))
