-- On which answers it depends whether a question may be changed, guard by guard.
use Rattle.std.proofs.Common.{◌≡◌, ℕ, Bool, true, false, List, [], ◌∷◌, refl, sym, ap, ◌∙◌, inl, inr}
use Rattle.std.specs.Prelude.{◌==◌, ◌&&◌, ◌||◌, not, filter}
use Rattle.std.specs.List.{flat_map, list_any}
use Rattle.std.proofs.lemmas.Bool.{cases_Bool, eqb-true, false≢true}
use Rattle.std.proofs.lemmas.List.Folds.{list_any-append}
use Rattle.ifr_opcodes.specs.declared.codes.TheConstants.{SUPPRESS_IF, GRAY_OUT_IF, DISABLE_IF}
use Rattle.ifr_opcodes.specs.Forest.{Node}
use Rattle.ifr_opcodes.specs.Opcode.{number}
use Rattle.ifr_opcodes.specs.Rows.{is_among}
use Rattle.ifr_nodes.specs.Guards.{ancestors, guards, guards_among, is_guard}
use Rattle.guard_policy.specs.Conditions.{condition_ids}
use Rattle.guard_policy.specs.laws.Support.{around, graying_out, support_over, suppressing}
use Rattle.question_audit.specs.Dependences.{depends_on}
use Rattle.question_audit.specs.Times.{counts_when}
use Rattle.question_audit.specs.code.Naming.{counts, names}
use Rattle.question_audit.specs.declared.when.When.{When}
use Rattle.question_audit.specs.declared.when.When.TheVariants.{AtCommands}

any_flat : (f : Node → List ℕ) (id : ℕ) (gs : List Node) → is_among id (flat_map f gs) ≡ list_any (λ g. is_among id (f g)) gs
any_flat f id [] = refl
any_flat f id (g ∷ gs) = list_any-append (λ (m : ℕ). m == id) (f g) (flat_map f gs) ∙ ap (λ (b : Bool). is_among id (f g) || b) (any_flat f id gs)

any_filter : (p q : Node → Bool) (gs : List Node) → list_any p (filter q gs) ≡ list_any (λ g. q g && p g) gs
any_filter p q [] = refl
any_filter p q (g ∷ gs) = elim (cases_Bool (q g)) [
  | inl is ↦ rw is (ap (λ (b : Bool). p g || b) (any_filter p q gs))
  | inr other ↦ rw other (any_filter p q gs)
]

-- a guard is of one of three kinds
table : (s g d b xs ys zs : Bool) → (d ≡ true → (s ≡ false) × (g ≡ false)) → (d ≡ false → s || g ≡ true) → xs || ys ≡ zs → ((s && b) || xs) || ((g && b) || ys) ≡ (not d && b) || zs
table s g true b xs ys zs t f e = rw ((t refl).0, (t refl).1) e
table true g false true xs ys zs t f e = refl
table false true false true true ys zs t f e = refl
table false true false true false ys zs t f e = refl
table false false false true xs ys zs t f e = absurd (false≢true (f refl))
table true true false false xs ys zs t f e = e
table true false false false xs ys zs t f e = e
table false true false false xs ys zs t f e = e
table false false false false xs ys zs t f e = absurd (false≢true (f refl))

one_of_two : (s g d : Bool) → s || g || d ≡ true → d ≡ false → s || g ≡ true
one_of_two true g d e nd = refl
one_of_two false true d e nd = refl
one_of_two false false d e nd = absurd (false≢true (sym nd ∙ e))

any_counts : (p : Node → Bool) (ms : List Node) → list_any (λ g. (number g.op == SUPPRESS_IF) && p g) (guards_among ms) || list_any (λ g. (number g.op == GRAY_OUT_IF) && p g) (guards_among ms)
    ≡ list_any (λ g. not (number g.op == DISABLE_IF) && p g) (guards_among ms)
any_counts p [] = refl
any_counts p (m ∷ ms) = elim (cases_Bool (is_guard (number m.op))) [
  | inl is ↦
      let k = number m.op in
      let other : (k == DISABLE_IF) ≡ true → ((k == SUPPRESS_IF) ≡ false) × ((k == GRAY_OUT_IF) ≡ false) = λ d. (ap (λ (j : ℕ). j == SUPPRESS_IF) (eqb-true k DISABLE_IF d), ap (λ (j : ℕ). j == GRAY_OUT_IF) (eqb-true k DISABLE_IF d)) in
      rw is (table (k == SUPPRESS_IF) (k == GRAY_OUT_IF) (k == DISABLE_IF) (p m) _ _ _ other (one_of_two (k == SUPPRESS_IF) (k == GRAY_OUT_IF) (k == DISABLE_IF) is) (any_counts p ms))
  | inr none ↦ rw none (any_counts p ms)
]

-- it is asked guard by guard
pub any_guard : (when : When) (ns : List Node) (id : ℕ) (n : Node) → is_among id (depends_on when ns n) ≡ list_any (counts when ns id) (guards n)
any_guard when ns id n = any_flat (condition_ids ns) id (filter (counts_when when) (guards n)) ∙ any_filter (names ns id) (counts_when when) (guards n)

-- the ids of the support of whether it may be changed are those at commands
pub any_support : (ns : List Node) (id : ℕ) (n : Node) → is_among id (support_over ns (around n)) ≡ is_among id (depends_on AtCommands ns n)
any_support ns id n =
    any_flat (condition_ids ns) id (around n)
    ∙ list_any-append (names ns id) (suppressing n) (graying_out n)
    ∙ ap (λ (b : Bool). b || list_any (names ns id) (graying_out n)) (any_filter (names ns id) (λ g. number g.op == SUPPRESS_IF) (guards n))
    ∙ ap (λ (b : Bool). list_any (λ g. (number g.op == SUPPRESS_IF) && names ns id g) (guards n) || b) (any_filter (names ns id) (λ g. number g.op == GRAY_OUT_IF) (guards n))
    ∙ any_counts (names ns id) (ancestors n)
    ∙ sym (any_guard AtCommands ns id n)

-- ---- ids that are added guard by guard

-- of ids that are taken one by one
pub one_taken : (id named : ℕ) (left after : List ℕ) (had has all : Bool) → left ≡ named ∷ after → has ≡ (named == id || had) → had || is_among id left ≡ all → has || is_among id after ≡ all
one_taken id named left after had has all e is so =
    ap (λ (b : Bool). b || is_among id after) is ∙ in_turn (named == id) had (is_among id after) ∙ ap (λ (l : List ℕ). had || is_among id l) (sym e) ∙ so
  where
    in_turn : (a b c : Bool) → (a || b) || c ≡ b || (a || c)
    in_turn true true c = refl
    in_turn true false c = refl
    in_turn false b c = refl

-- the ids of the next guard are added, which counts
pub ids_added : (f : Node → List ℕ) (test : Node → Bool) (id : ℕ) (left after : List Node) (g : Node) (had has all : Bool) → left ≡ g ∷ after → test g ≡ true → has ≡ had || is_among id (f g)
    → had || is_among id (flat_map f (filter test left)) ≡ all → has || is_among id (flat_map f (filter test after)) ≡ all
ids_added f test id left after g had has all e is added so =
    let rest = flat_map f (filter test after) in
    let next : is_among id (flat_map f (filter test left)) ≡ is_among id (f g) || is_among id rest = ap (λ (l : List Node). is_among id (flat_map f (filter test l))) e ∙ rw is (list_any-append (λ (m : ℕ). m == id) (f g) rest) in
    ap (λ (b : Bool). b || is_among id rest) added ∙ grouped had (is_among id (f g)) (is_among id rest) ∙ ap (λ (b : Bool). had || b) (sym next) ∙ so
  where
    grouped : (a b c : Bool) → (a || b) || c ≡ a || (b || c)
    grouped true b c = refl
    grouped false b c = refl

-- the next guard does not count
pub ids_passed : (f : Node → List ℕ) (test : Node → Bool) (id : ℕ) (left after : List Node) (g : Node) (had all : Bool) → left ≡ g ∷ after → test g ≡ false
    → had || is_among id (flat_map f (filter test left)) ≡ all → had || is_among id (flat_map f (filter test after)) ≡ all
ids_passed f test id left after g had all e other so =
    let next : is_among id (flat_map f (filter test left)) ≡ is_among id (flat_map f (filter test after)) = ap (λ (l : List Node). is_among id (flat_map f (filter test l))) e ∙ rw other refl in
    ap (λ (b : Bool). had || b) (sym next) ∙ so
