-- What holds of each of a list.
use Rattle.std.proofs.Common.{ℕ, ◌+◌, ◌<◌, ◌≤◌, zero, suc, Bool, List, [], ◌∷◌, map, filter, find, drop, Option, Some, None, IfSome, option_map, arith}
use Rattle.std.specs.List.{AllByRecursion, range_with_len}
use Rattle.std.proofs.lemmas.Bool.{cond_both}

pub some_of : {X : Type 0} (P : X → Type 0) (test : X → Bool) (xs : List X) → AllByRecursion P xs → AllByRecursion P (filter test xs)
some_of P test [] all = tt
some_of P test (x ∷ xs) all =
    cond_both (test x) (x ∷ filter test xs) (filter test xs) (λ l. AllByRecursion P l) (λ _. (all.0, some_of P test xs all.1)) (λ _. some_of P test xs all.1)

pub found_of : {X : Type 0} (P : X → Type 0) (test : X → Bool) (xs : List X) → AllByRecursion P xs → IfSome (find test xs) P
found_of P test [] all = tt
found_of P test (x ∷ xs) all = cond_both (test x) (Some x) (find test xs) (λ o. IfSome o P) (λ _. all.0) (λ _. found_of P test xs all.1)

pub behind_first : {X : Type 0} (P : X → Type 0) (xs : List X) → AllByRecursion P xs → AllByRecursion P (drop 1 xs)
behind_first P [] all = tt
behind_first P (x ∷ xs) all = all.1

pub each_of : {X Y : Type 0} (P : X → Type 0) (Q : Y → Type 0) (f : X → Y) (xs : List X) → ((x : X) → P x → Q (f x)) → AllByRecursion P xs → AllByRecursion Q (map f xs)
each_of P Q f [] one all = tt
each_of P Q f (x ∷ xs) one all = (one x all.0, each_of P Q f xs one all.1)

pub some_with : {X Y : Type 0} (P : X → Type 0) (Q : Y → Type 0) (f : X → Y) (o : Option X) → ((x : X) → P x → Q (f x)) → IfSome o P → IfSome (option_map f o) Q
some_with P Q f None one all = tt
some_with P Q f (Some x) one all = one x all

pub each_below : (from count bound : ℕ) → from + count ≤ bound → AllByRecursion (λ n. n < bound) (range_with_len from count)
each_below from zero bound fits = tt
each_below from (suc count) bound fits = (omega arith, each_below (from + 1) count bound (omega arith))
