-- The least of the faults of a list is computed: it is that of which all must be believed.
use Rattle.std.proofs.Common.{◌≡◌, ◌⊎◌, ℕ, zero, suc, ◌<◌, ◌≤◌, Bool, true, false, ◌&&◌, ◌||◌, List, [], ◌∷◌, length}
use Rattle.std.proofs.Common.{Option, Some, None, refl, ap, subst, true≢false, inr, arith, Contains}
use Rattle.std.specs.Prelude.{◌==◌, nat_lt, nat_le, slice_index_or, if◌then◌else◌}
use Rattle.std.proofs.lemmas.Bool.{cond_both}
use Rattle.std.proofs.lemmas.Bool.Decides.{nat_tests}
use Rattle.std.specs.Prelude.{unwrap_or, is_none}
use Rattle.browser_rules.specs.Words.{number_and_name}
use Rattle.browser_rules.specs.Faults.{Fault, IsLeast}

abbrev number : Fault → ℕ
number f = (number_and_name f.cause).0

abbrev IsAtMost : Fault → Fault → Type 0
IsAtMost f g = (f.place < g.place) ⊎ ((f.place ≡ g.place) × (number f ≤ number g))

abbrev is_at_most : Fault → Fault → Bool
is_at_most f g = nat_lt f.place g.place || f.place == g.place && nat_le (number f) (number g)

abbrev lesser : Fault → Option Fault → Fault
lesser f None = f
lesser f (Some g) = if is_at_most f g then f else g

abbrev pub least : List Fault → Option Fault
least [] = None
least (f ∷ fs) = Some (lesser f (least fs))

at_most : (f g : Fault) → is_at_most f g ≡ true → IsAtMost f g
at_most f g e = grind (arith, nat_tests)

above : (f g : Fault) → is_at_most f g ≡ false → IsAtMost g f
above f g e = grind (arith, nat_tests)

itself : (f : Fault) → IsAtMost f f
itself f = inr (refl, omega arith)

trans : (f g h : Fault) → IsAtMost f g → IsAtMost g h → IsAtMost f h
trans f g h a b = grind arith

alone : (f : Fault) → IsLeast (f ∷ []) f
alone f = record { among = (0, omega arith, refl); least = λ other c. by other c.0 c.1 c.2 }
  where
    by : (other : Fault) (k : ℕ) → k < 1 → slice_index_or (f ∷ []) k other ≡ other → IsAtMost f other
    by other zero within e = subst (IsAtMost f) e (itself f)
    by other (suc k) within e = absurd (omega arith)

IsLeast-cons : (f : Fault) (fs : List Fault) (g : Fault) → IsLeast fs g → IsLeast (f ∷ fs) (lesser f (Some g))
IsLeast-cons f fs g is =
    cond_both (is_at_most f g) f g (IsLeast (f ∷ fs))
    (λ e. record { among = (0, omega arith, refl); least = λ other c. first e other c.0 c.1 c.2 })
    (λ e. record { among = there is.among; least = λ other c. second e other c.0 c.1 c.2 })
  where
    there : Contains fs g → Contains (f ∷ fs) g
    there c = (suc c.0, omega (arith, c.1), c.2)

    first : is_at_most f g ≡ true → (other : Fault) (k : ℕ) → k < suc (length fs)
        → slice_index_or (f ∷ fs) k other ≡ other → IsAtMost f other
    first e other zero within is_f = subst (IsAtMost f) is_f (itself f)
    first e other (suc k) within is_there = trans f g other (at_most f g e) (is.least other (k, omega arith, is_there))

    second : is_at_most f g ≡ false → (other : Fault) (k : ℕ) → k < suc (length fs)
        → slice_index_or (f ∷ fs) k other ≡ other → IsAtMost g other
    second e other zero within is_f = subst (IsAtMost g) is_f (above f g e)
    second e other (suc k) within is_there = is.least other (k, omega arith, is_there)

least_from : (f : Fault) (fs : List Fault) → IsLeast (f ∷ fs) (lesser f (least fs))
least_from f [] = alone f
least_from f (g ∷ gs) = IsLeast-cons f (g ∷ gs) (lesser g (least gs)) (least_from g gs)

pub is_least : (faults : List Fault) (fault : Fault) → least faults ≡ Some fault → IsLeast faults fault
is_least (f ∷ fs) fault e = subst (IsLeast (f ∷ fs)) (ap (λ o. unwrap_or o fault) e) (least_from f fs)
is_least [] fault e = absurd (true≢false (ap is_none e))
