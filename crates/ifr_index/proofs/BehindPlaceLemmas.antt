-- Things whose places rise: what stands behind a place, and the entries of nodes at its front.
use Rattle.std.proofs.Common.{◌≡◌, ℕ, zero, suc, ◌+◌, ◌<◌, ◌≤◌, Bool, true, false, nat_le, nat_lt, List, [], ◌∷◌, ◌++◌, length, map, drop, get_or, refl, sym, ap, ◌∙◌, inl, inr, arith}
use Rattle.std.specs.Prelude.{Contains, filter}
use Rattle.std.specs.List.{take_while}
use Rattle.std.specs.List.Sorted.{IsNonDecreasingBy, IsPartitionPoint, IsPartitionedBy}
use Rattle.std.proofs.lemmas.Bool.{cases_Bool, lt-ltb, le-ltb, leb-true, leb-false, false≢true}
use Rattle.std.proofs.lemmas.List.{append-nil}
use Rattle.std.proofs.lemmas.List.Elements.{Contains-append_right}
use Rattle.std.proofs.lemmas.List.Sorted.{IsPartitionedBy-leb}
use Rattle.std.proofs.lemmas.List.Sums.{take_while-cons}
use Rattle.hii_bytes.specs.code.FirstFaults.{Rise}
use Rattle.ifr_opcodes.specs.Forest.{Node}
use Rattle.ifr_nodes.proofs.ViewLemmas.{further}

-- ---- what stands behind a place

module _ {X : Type 0} (place : X → ℕ) where
  pub lowest : (low : ℕ) (xs : List X) (x : X) → Rise place low xs → Contains xs x → low ≤ place x
  lowest low [] x r (k, lt, e) = absurd (omega arith)
  lowest low (y ∷ xs) x r (zero, lt, e) = omega (arith, r.0, ap place e)
  lowest low (y ∷ xs) x r (suc k, lt, e) = omega (arith, r.0, lowest (place y + 1) xs x r.1 (k, omega arith, e))

  lowest_at : (low : ℕ) (xs : List X) (i : ℕ) (d : X) → Rise place low xs → i < length xs → low ≤ place (get_or xs i d)
  lowest_at low [] i d r lt = absurd (omega arith)
  lowest_at low (x ∷ xs) zero d r lt = r.0
  lowest_at low (x ∷ xs) (suc i) d r lt = omega (arith, r.0, lowest_at (place x + 1) xs i d r.1 (omega arith))

  in_order : (low : ℕ) (xs : List X) → Rise place low xs → IsNonDecreasingBy place xs
  in_order low [] r i j d le lt = absurd (omega arith)
  in_order low (x ∷ xs) r zero zero d le lt = omega arith
  in_order low (x ∷ xs) r zero (suc j) d le lt = omega (arith, lowest_at (place x + 1) xs j d r.1 (omega arith))
  in_order low (x ∷ xs) r (suc i) zero d le lt = absurd (omega arith)
  in_order low (x ∷ xs) r (suc i) (suc j) d le lt = in_order (place x + 1) xs r.1 i j d (omega arith) (omega arith)

  -- A place parts them.
  pub parted : (low p : ℕ) (xs : List X) → Rise place low xs → IsPartitionedBy (λ x. nat_le (place x) p) xs
  parted low p xs r = IsPartitionedBy-leb place xs p (in_order low xs r)

  -- What follows the point that parts them stands behind the place.
  pub behind_point : (p i : ℕ) (xs : List X) → IsPartitionPoint (λ x. nat_le (place x) p ≡ true) (λ x. nat_le (place x) p ≡ false) xs i → drop i xs ≡ filter (λ x. nat_lt p (place x)) xs
  behind_point p zero [] split = refl
  behind_point p (suc i) [] split = refl
  behind_point p zero (x ∷ xs) split =
      let above : nat_lt p (place x) ≡ true = lt-ltb p (place x) (omega (arith, leb-false (place x) p (split.1 0 x (omega arith) (omega arith)))) in
      rw above (ap (λ (l : List X). x ∷ l) (behind_point p zero xs (λ k d lt below. absurd (omega (arith, below)), λ k d from lt. split.1 (suc k) d (omega arith) (omega (arith, lt)))))
  behind_point p (suc i) (x ∷ xs) split =
      let below : nat_lt p (place x) ≡ false = le-ltb p (place x) (omega (arith, leb-true (place x) p (split.0 0 x (omega arith) (omega arith)))) in
      rw below (behind_point p i xs (λ k d lt below. split.0 (suc k) d (omega (arith, lt)) (omega (arith, below)), λ k d from lt. split.1 (suc k) d (omega (arith, from)) (omega (arith, lt))))

  behind_all : (low p : ℕ) (xs : List X) → Rise place low xs → p < low → filter (λ x. nat_lt p (place x)) xs ≡ xs
  behind_all low p [] r less = refl
  behind_all low p (x ∷ xs) r less =
      let above : nat_lt p (place x) ≡ true = lt-ltb p (place x) (omega (arith, r.0)) in
      rw above (ap (λ (l : List X). x ∷ l) (behind_all (place x + 1) p xs r.1 (omega (arith, r.0))))

  -- What follows one of them stands behind its place.
  pub behind_one : (low : ℕ) (before : List X) (x : X) (after : List X) → Rise place low (before ++ x ∷ after) → filter (λ y. nat_lt (place x) (place y)) (before ++ x ∷ after) ≡ after
  behind_one low [] x after r =
      let itself : nat_lt (place x) (place x) ≡ false = le-ltb (place x) (place x) (omega arith) in
      rw itself (behind_all (place x + 1) (place x) after r.1 (omega arith))
  behind_one low (y ∷ before) x after r =
      let above : place y + 1 ≤ place x = lowest (place y + 1) (before ++ x ∷ after) x r.1 (Contains-append_right before (x ∷ after) x (0, omega arith, refl)) in
      let less : nat_lt (place x) (place y) ≡ false = le-ltb (place x) (place y) (omega arith) in
      rw less (behind_one (place y + 1) before x after r.1)

  -- What follows the one at a position stands behind its place.
  pub behind_at : (low i : ℕ) (xs : List X) (d : X) → Rise place low xs → i < length xs → drop (suc i) xs ≡ filter (λ x. nat_lt (place (get_or xs i d)) (place x)) xs
  behind_at low i [] d r lt = absurd (omega arith)
  behind_at low zero (x ∷ xs) d r lt =
      let itself : nat_lt (place x) (place x) ≡ false = le-ltb (place x) (place x) (omega arith) in
      rw itself (sym (behind_all (place x + 1) (place x) xs r.1 (omega arith)))
  behind_at low (suc i) (x ∷ xs) d r lt =
      let above : place x + 1 ≤ place (get_or xs i d) = lowest_at (place x + 1) xs i d r.1 (omega arith) in
      let less : nat_lt (place (get_or xs i d)) (place x) ≡ false = le-ltb (place (get_or xs i d)) (place x) (omega arith) in
      rw less (behind_at (place x + 1) i xs d r.1 (omega arith))

  pub rise_behind : (low : ℕ) (before : List X) (x : X) (after : List X) → Rise place low (before ++ x ∷ after) → Rise place (place x + 1) after
  rise_behind low [] x after r = r.1
  rise_behind low (y ∷ before) x after r = rise_behind (place y + 1) before x after r.1

  pub lower : (low high : ℕ) (xs : List X) → low ≤ high → Rise place high xs → Rise place low xs
  lower low high [] le r = tt
  lower low high (x ∷ xs) le r = (omega (arith, r.0), r.1)

  pub rise_rest : (low : ℕ) (xs ys : List X) → Rise place low (xs ++ ys) → Rise place low ys
  rise_rest low [] ys r = r
  rise_rest low (x ∷ xs) ys r = lower low (place x + 1) ys (omega (arith, r.0)) (rise_rest (place x + 1) xs ys r.1)

  -- None of the first is one of the others.
  pub apart : (low : ℕ) (xs ys : List X) (x : X) → Rise place low (xs ++ ys) → Contains xs x → Contains ys x → ⊥
  apart low [] ys x r (k, lt, e) w = omega arith
  apart low (y ∷ xs) ys x r (zero, lt, e) w = omega (arith, ap place e, lowest (place y + 1) (xs ++ ys) x r.1 (Contains-append_right xs ys x w))
  apart low (y ∷ xs) ys x r (suc k, lt, e) w = apart (place y + 1) xs ys x r.1 (k, omega arith, e) w

-- ---- entries of nodes that pass a test

module _ {E : Type 0} (is : Node → Bool) (entry : Node → E) where
  -- Those behind a place are the entries of the nodes there.
  pub entries_behind : (place : E → ℕ) → ((n : Node) → place (entry n) ≡ n.place) → (p : ℕ) (ns : List Node)
      → filter (λ e. nat_lt p (place e)) (map entry (filter is ns)) ≡ map entry (filter is (filter (λ n. nat_lt p n.place) ns))
  entries_behind place same p [] = refl
  entries_behind place same p (n ∷ ns) =
      let later = entries_behind place same p ns in
      let told : nat_lt p (place (entry n)) ≡ nat_lt p n.place = ap (nat_lt p) (same n) in
      elim (cases_Bool (is n)) [
        | inl passes ↦ elim (cases_Bool (nat_lt p n.place)) [
          | inl behind ↦ rw (passes, behind, passes, told ∙ behind) (ap (λ (l : List E). entry n ∷ l) later)
          | inr before ↦ rw (passes, before, told ∙ before) later
        ]
        | inr other ↦ elim (cases_Bool (nat_lt p n.place)) [
          | inl behind ↦ rw (other, behind, other) later
          | inr before ↦ rw (other, before) later
        ]
      ]

  -- All of the front pass.
  pub all_front : (p : E → Bool) (ns : List Node) (rest : List E) → ((n : Node) → Contains ns n → is n ≡ true → p (entry n) ≡ true)
      → take_while p (map entry (filter is ns) ++ rest) ≡ map entry (filter is ns) ++ take_while p rest
  all_front p [] rest all = refl
  all_front p (n ∷ ns) rest all =
      let later = all_front p ns rest (λ m w. all m (further n ns m w)) in
      elim (cases_Bool (is n)) [
        | inl kept ↦ rw kept (take_while-cons p (entry n) (map entry (filter is ns) ++ rest) ∙ rw (all n (0, omega arith, refl) kept) (ap (λ (l : List E). entry n ∷ l) later))
        | inr other ↦ rw other later
      ]

  -- All of the front pass, and none behind it.
  pub front : (p : E → Bool) (ns : List Node) (rest : List E) → ((n : Node) → Contains ns n → is n ≡ true → p (entry n) ≡ true) → take_while p rest ≡ []
      → take_while p (map entry (filter is ns) ++ rest) ≡ map entry (filter is ns)
  front p ns rest all none = all_front p ns rest all ∙ ap (λ (l : List E). map entry (filter is ns) ++ l) none ∙ append-nil (map entry (filter is ns))

  -- None passes.
  pub no_front : (p : E → Bool) (ns : List Node) → ((n : Node) → Contains ns n → is n ≡ true → p (entry n) ≡ false) → take_while p (map entry (filter is ns)) ≡ []
  no_front p [] none = refl
  no_front p (n ∷ ns) none = elim (cases_Bool (is n)) [
    | inl kept ↦ rw kept (take_while-cons p (entry n) (map entry (filter is ns)) ∙ rw (none n (0, omega arith, refl) kept) refl)
    | inr other ↦ rw other (no_front p ns (λ m w. none m (further n ns m w)))
  ]

-- ---- what stands before a node

-- A node of a kind stands before another.
pub record HasBefore (kind : Node → Bool) (ns : List Node) (n : Node) : Type 0 where
  pub other : Node
  pub within : Contains ns other
  pub is : kind other ≡ true
  pub less : other.place < n.place

-- One that is not of the kind is not that node.
pub past : (kind : Node → Bool) (m n : Node) (ns : List Node) → kind m ≡ false → HasBefore kind (m ∷ ns) n → HasBefore kind ns n
past kind m n ns plain b = record { other = b.other; within = later b.within; is = b.is; less = b.less }
  where
    later : Contains (m ∷ ns) b.other → Contains ns b.other
    later (zero, lt, e) = let same : m ≡ b.other = e in absurd (false≢true (sym plain ∙ ap kind same ∙ b.is))
    later (suc k, lt, e) = (k, omega arith, e)

-- None stands before the first.
pub none_before : (kind : Node → Bool) (low : ℕ) (n : Node) (ns : List Node) → Rise (λ (m : Node). m.place) low (n ∷ ns) → HasBefore kind (n ∷ ns) n → ⊥
none_before kind low n ns r b = omega (arith, b.less, lowest (λ (m : Node). m.place) n.place (n ∷ ns) b.other (omega arith, r.1) b.within)
