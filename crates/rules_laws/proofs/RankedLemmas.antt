-- Nodes with those before them: ids that differ are had by no node before.
use Rattle.std.proofs.Common.{◌≡◌, ℕ, Bool, true, false, List, [], ◌∷◌, ◌++◌, append_assoc, map, refl, sym, ap, ◌∙◌, subst, inl, inr, arith}
use Rattle.std.specs.Prelude.{Contains, filter, nat_eq, ◌&&◌, ◌==◌}
use Rattle.std.specs.List.{AllByRecursion, IsDistinct, list_any}
use Rattle.std.proofs.lemmas.Bool.{cases_Bool, or_parts, or_from, and_left, and_right, and_from, and_parts, eqb-true, eq-eqb}
use Rattle.std.proofs.lemmas.List.{append-nil}
use Rattle.std.proofs.lemmas.List.Elements.{Contains-append_right}
use Rattle.ifr_opcodes.specs.Forest.{Node}
use Rattle.ifr_nodes.specs.ReferenceFaults.{Ranked, ranked}
use Rattle.ifr_nodes.proofs.NamedLemmas.{each}
use Rattle.ifr_index.proofs.OptionsOfLemmas.{passes}
use Rattle.ifr_nodes.proofs.ViewLemmas.{further}
use Rattle.hii_questions.proofs.FieldLemmas.{passing}
use Rattle.rules_laws.proofs.FoundLemmas.{nothing, first_or_later, gives, given, any_passes, some_passes}

-- ---- nodes with those before them

-- Behind some nodes stands one.
pub record IsPart (ns before : List Node) (n : Node) : Type 0 where
  pub rest : List Node
  pub split : ns ≡ before ++ n ∷ rest

from_ranked : (front ns : List Node) (q : Ranked) → Contains (ranked front ns) q → IsPart (front ++ ns) q.before q.node
from_ranked front [] q w = absurd (nothing q w)
from_ranked front (n ∷ ns) q w = elim (first_or_later (record { before = front; node = n }) (ranked (front ++ n ∷ []) ns) q w) [
  | inl e ↦ subst (λ (p : Ranked). IsPart (front ++ n ∷ ns) p.before p.node) e (record { rest = ns; split = refl })
  | inr later ↦
      let its = from_ranked (front ++ n ∷ []) ns q later in
      record { rest = its.rest; split = sym (append_assoc front (n ∷ []) ns) ∙ its.split }
]

pub part_of : (ns : List Node) (q : Ranked) → Contains (ranked [] ns) q → IsPart ns q.before q.node
part_of ns q w = from_ranked [] ns q w

to_ranked : (front before : List Node) (n : Node) (rest : List Node) → Contains (ranked front (before ++ n ∷ rest)) (record { before = front ++ before; node = n })
to_ranked front [] n rest = subst (λ (l : List Node). Contains (ranked front (n ∷ rest)) (record { before = l; node = n })) (sym (append-nil front)) (0, omega arith, refl)
to_ranked front (m ∷ before) n rest =
    further (record { before = front; node = m }) (ranked (front ++ m ∷ []) (before ++ n ∷ rest)) (record { before = front ++ (m ∷ before); node = n })
    (subst (λ (l : List Node). Contains (ranked (front ++ m ∷ []) (before ++ n ∷ rest)) (record { before = l; node = n })) (append_assoc front (m ∷ []) before) (to_ranked (front ++ m ∷ []) before n rest))

pub ranked_part : (ns before : List Node) (n : Node) → IsPart ns before n → Contains (ranked [] ns) (record { before = before; node = n })
ranked_part ns before n p = subst (λ (l : List Node). Contains (ranked [] l) (record { before = before; node = n })) (sym p.split) (to_ranked [] before n p.rest)

pub part_there : (ns before : List Node) (n : Node) → IsPart ns before n → Contains ns n
part_there ns before n p = subst (λ (l : List Node). Contains l n) (sym p.split) (Contains-append_right before (n ∷ p.rest) n (0, omega arith, refl))

-- each node is behind some
pub part_at : (ns : List Node) (n : Node) → Contains ns n → (before : List Node) × IsPart ns before n
part_at [] n w = absurd (nothing n w)
part_at (m ∷ ns) n w = elim (first_or_later m ns n w) [
  | inl e ↦ ([], record { rest = ns; split = ap (λ (p : Node). p ∷ ns) e })
  | inr later ↦ let its = part_at ns n later in (m ∷ its.0, record { rest = its.1.rest; split = ap (λ (l : List Node). m ∷ l) its.1.split })
]

-- ---- ids that differ

module _ (kind : Node → Bool) (id : Node → ℕ) where
  abbrev ids : List Node → List ℕ
  ids ns = map id (filter kind ns)

  abbrev pub has_id : ℕ → Node → Bool
  has_id i n = kind n && (id n == i)

  pub id_there : (ns : List Node) (n : Node) → Contains ns n → kind n ≡ true → Contains (ids ns) (id n)
  id_there ns n w is = gives id (filter kind ns) n (passes kind ns n w is)

  -- some node has an id
  pub some_has : (ns : List Node) (i : ℕ) → Contains (ids ns) i → list_any (has_id i) ns ≡ true
  some_has ns i w =
      let from = given id (filter kind ns) i w in
      let its = passing kind ns from.0 from.1 in
      some_passes (has_id i) ns from.0 its.0 (and_from (kind from.0) (id from.0 == i) its.1 (eq-eqb (id from.0) i from.2))

  pub has_some : (ns : List Node) (i : ℕ) → list_any (has_id i) ns ≡ true → Contains (ids ns) i
  has_some ns i e =
      let from = any_passes (has_id i) ns e in
      let both = and_parts (kind from.0) (id from.0 == i) from.2 in
      subst (Contains (ids ns)) (eqb-true (id from.0) i both.1) (id_there ns from.0 from.1 both.0)

  -- Where ids differ no node has that of one before it.
  none_before : (before : List Node) (n : Node) (rest : List Node) → kind n ≡ true → IsDistinct nat_eq (ids (before ++ n ∷ rest)) → list_any (has_id (id n)) before ≡ false
  unfolding IsDistinct
  none_before [] n rest is d = refl
  none_before (m ∷ before) n rest is d = elim (cases_Bool (kind m)) [
    | inl here ↦
        let both : IsDistinct nat_eq (id m ∷ ids (before ++ n ∷ rest)) = rw here at d in
        let later = id_there (before ++ n ∷ rest) n (Contains-append_right before (n ∷ rest) n (0, omega arith, refl)) is in
        or_from (has_id (id n) m) (list_any (has_id (id n)) before)
        (and_right (kind m) (id m == id n) (each (λ i. nat_eq (id m) i ≡ false) (ids (before ++ n ∷ rest)) (id n) both.0 later))
        (none_before before n rest is both.1)
    | inr other ↦
        or_from (has_id (id n) m) (list_any (has_id (id n)) before) (and_left (kind m) (id m == id n) other) (none_before before n rest is (rw other at d))
  ]

  pub no_repeat : (ns before : List Node) (n : Node) → IsPart ns before n → kind n ≡ true → IsDistinct nat_eq (ids ns) → list_any (has_id (id n)) before ≡ false
  no_repeat ns before n p is d = none_before before n p.rest is (subst (λ (l : List Node). IsDistinct nat_eq (ids l)) p.split d)

  -- and the other way round
  apart : (m : Node) (ns : List Node) → kind m ≡ true → ((before : List Node) (n : Node) → IsPart (m ∷ ns) before n → kind n ≡ true → list_any (has_id (id n)) before ≡ false)
      → (is : List ℕ) → ((i : ℕ) → Contains is i → Contains (ids ns) i) → AllByRecursion (λ i. nat_eq (id m) i ≡ false) is
  apart m ns here none [] within = tt
  apart m ns here none (i ∷ is) within =
      let from = given id (filter kind ns) i (within i (0, omega arith, refl)) in
      let n = from.0 in
      let its = passing kind ns n from.1 in
      let at = part_at ns n its.0 in
      let clear = none (m ∷ at.0) n (record { rest = at.1.rest; split = ap (λ (l : List Node). m ∷ l) at.1.split }) its.1 in
      let other = (or_parts (has_id (id n) m) (list_any (has_id (id n)) at.0) clear).0 in
      let differ : nat_eq (id m) (id n) ≡ false = sym (ap (λ (b : Bool). b && (id m == id n)) here) ∙ other in
      (ap (nat_eq (id m)) (sym from.2) ∙ differ, apart m ns here none is (λ j w. within j (further i is j w)))

  pub differ : (ns : List Node) → ((before : List Node) (n : Node) → IsPart ns before n → kind n ≡ true → list_any (has_id (id n)) before ≡ false) → IsDistinct nat_eq (ids ns)
  unfolding IsDistinct
  differ [] none = tt
  differ (m ∷ ns) none =
      let later = differ ns (λ before n p is.
      (or_parts (has_id (id n) m) (list_any (has_id (id n)) before) (none (m ∷ before) n (record { rest = p.rest; split = ap (λ (l : List Node). m ∷ l) p.split }) is)).1) in
      elim (cases_Bool (kind m)) [
        | inl here ↦ rw here (apart m ns here none (ids ns) (λ i w. w), later)
        | inr other ↦ rw other later
      ]
