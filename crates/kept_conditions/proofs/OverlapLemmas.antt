-- Dependencies that overlap a write, by ranges of stores and by the numbers of all bytes, from the last one on.
use Rattle.std.proofs.Common.{◌≡◌, ℕ, zero, suc, ◌+◌, ◌<◌, ◌≤◌, ◌==◌, ◌&&◌, ◌||◌, nat_le, nat_lt, Bool, true, false, List, [], ◌∷◌, refl, sym, ap, ◌∙◌, inl, inr, arith, ◌-◌, length, drop, get_or}
use Rattle.std.proofs.lemmas.Bool.{cases_Bool, cases_lt, false≢true, and_from, and_parts, eqb-true, eq-eqb, ltb-true, lt-ltb, leb-true, le-leb, and_right}
use Rattle.std.specs.List.{list_any}
use Rattle.std.proofs.lemmas.List.{drop_more, drop_all}
use Rattle.hii_questions.specs.declared.field_range.FieldRange.{FieldRange}
use Rattle.hii_questions.specs.code.Entries.{entry_range}
use Rattle.hii_questions.specs.code.Numbers as numbers
use Rattle.kept_conditions.specs.code.Index.{AreSmall, overlaps, hits, is_dependency, depends_on, first_of, behind_of, no_dependency, at_place, NoneOverlaps, AreSorted, is_hit}
use Rattle.kept_conditions.specs.Touching.{has_one, range_of}
use Rattle.kept_conditions.specs.declared.index.Dependency.{Dependency}
use Rattle.kept_conditions.proofs.UntouchedLemmas.{none_has}

-- two tests that pass where the other does
pub alike : (a b : Bool) → (a ≡ true → b ≡ true) → (b ≡ true → a ≡ true) → a ≡ b
alike true b f g = sym (f refl)
alike false true f g = g refl
alike false false f g = refl

-- one of so many bytes that is among some
pub some_has : (bytes : ℕ → ℕ → Bool) (store width offset : ℕ) → has_one bytes store offset width ≡ true → (at : ℕ) × (offset ≤ at) × (at < offset + width) × (bytes store at ≡ true)
some_has bytes store zero offset e = absurd (false≢true e)
some_has bytes store (suc width) offset e = elim (cases_Bool (bytes store offset)) [
  | inl here ↦ (offset, omega arith, omega arith, here)
  | inr other ↦
      let later : has_one bytes store (offset + 1) width ≡ true = sym (ap (λ b. b || has_one bytes store (offset + 1) width) other) ∙ e in
      let found = some_has bytes store width (offset + 1) later in
      (found.0, omega (arith, found.1), omega (arith, found.2), found.3)
]

pub has_some : (bytes : ℕ → ℕ → Bool) (store width offset at : ℕ) → offset ≤ at → at < offset + width → bytes store at ≡ true → has_one bytes store offset width ≡ true
has_some bytes store width offset at from before e = elim (cases_Bool (has_one bytes store offset width)) [
  | inl has ↦ has
  | inr none ↦ absurd (false≢true (sym (none_has bytes store width offset at none from before) ∙ e))
]

pub overlaps_range : (written : FieldRange) (r : Dependency) → written.offset < 65536 → r.field.offset < 65536
    → overlaps (numbers.first_of written) (numbers.behind_of written) r ≡ has_one (range_of written.store written.offset written.width) r.field.store r.field.offset r.field.width
overlaps_range written r small small' =
    let store = written.store in
    let offset = written.offset in
    let width = written.width in
    let from = numbers.first_of written in
    let behind = numbers.behind_of written in
    let from' = numbers.first_of (entry_range r.field) in
    let behind' = numbers.behind_of (entry_range r.field) in
    alike (overlaps from behind r) (has_one (range_of store offset width) r.field.store r.field.offset r.field.width)
    (λ visited.
    let first = and_parts (nat_lt from behind) (nat_lt from' behind' && (nat_lt from' behind && nat_lt from behind')) visited in
    let second = and_parts (nat_lt from' behind') (nat_lt from' behind && nat_lt from behind') first.1 in
    let third = and_parts (nat_lt from' behind) (nat_lt from behind') second.1 in
    let some : from < behind = ltb-true from behind first.0 in
    let some' : from' < behind' = ltb-true from' behind' second.0 in
    let left : from' < behind = ltb-true from' behind third.0 in
    let right : from < behind' = ltb-true from behind' third.1 in
    let same : r.field.store ≡ store = omega (arith, small, small', left, right) in
    elim (cases_lt offset r.field.offset) [
      | inl before ↦
          has_some (range_of store offset width) r.field.store r.field.width r.field.offset r.field.offset (omega arith) (omega (arith, some'))
          (and_from (r.field.store == store) (nat_le offset r.field.offset && nat_lt r.field.offset (offset + width)) (eq-eqb r.field.store store same)
          (and_from (nat_le offset r.field.offset) (nat_lt r.field.offset (offset + width)) (le-leb offset r.field.offset (omega (arith, before))) (lt-ltb r.field.offset (offset + width) (omega (arith, left, same)))))
      | inr behind ↦
          has_some (range_of store offset width) r.field.store r.field.width r.field.offset offset behind (omega (arith, right, same))
          (and_from (r.field.store == store) (nat_le offset offset && nat_lt offset (offset + width)) (eq-eqb r.field.store store same)
          (and_from (nat_le offset offset) (nat_lt offset (offset + width)) (le-leb offset offset (omega arith)) (lt-ltb offset (offset + width) (omega (arith, some)))))
    ])
    (λ has.
    let found = some_has (range_of store offset width) r.field.store r.field.width r.field.offset has in
    let at = found.0 in
    let first = and_parts (r.field.store == store) (nat_le offset at && nat_lt at (offset + width)) found.3 in
    let second = and_parts (nat_le offset at) (nat_lt at (offset + width)) first.1 in
    let same : r.field.store ≡ store = eqb-true r.field.store store first.0 in
    let low : offset ≤ at = leb-true offset at second.0 in
    let high : at < offset + width = ltb-true at (offset + width) second.1 in
    and_from (nat_lt from behind) (nat_lt from' behind' && (nat_lt from' behind && nat_lt from behind')) (lt-ltb from behind (omega (arith, low, high)))
    (and_from (nat_lt from' behind') (nat_lt from' behind && nat_lt from behind') (lt-ltb from' behind' (omega (arith, found.1, found.2)))
    (and_from (nat_lt from' behind) (nat_lt from behind') (lt-ltb from' behind (omega (arith, low, high, found.1, found.2, same, small, small'))) (lt-ltb from behind' (omega (arith, low, high, found.1, found.2, same, small, small'))))))

-- those that are hit are those that depend on one of the bytes
pub hits_range : (rs : List Dependency) (written : FieldRange) (k : ℕ) → written.offset < 65536 → AreSmall rs
    → hits (numbers.first_of written) (numbers.behind_of written) rs k ≡ depends_on (range_of written.store written.offset written.width) rs k
hits_range [] written k small all = refl
hits_range (r ∷ rs) written k small all =
    ap (λ (b : Bool). (r.dependent == k && b) || hits (numbers.first_of written) (numbers.behind_of written) rs k) (overlaps_range written r small (all 0 r (omega arith)))
    ∙ ap (λ (b : Bool). is_dependency (range_of written.store written.offset written.width) k r || b) (hits_range rs written k small (λ j d less. all (suc j) d (omega (arith, less))))

-- ---- elements that do not pass

pub skip : {X : Type 0} (p : X → Bool) (xs : List X) (d : X) (n low high : ℕ) → low + n ≡ high → high ≤ length xs
    → ((j : ℕ) → low ≤ j → j < high → p (get_or xs j d) ≡ false) → list_any p (drop low xs) ≡ list_any p (drop high xs)
skip p xs d zero low high e within none = ap (λ k. list_any p (drop k xs)) (omega (arith, e))
skip p xs d (suc n) low high e within none =
    let here : p (get_or xs low d) ≡ false = none low (omega arith) (omega (arith, e)) in
    ap (list_any p) (drop_more xs low d (omega (arith, e, within)))
    ∙ ap (λ b. b || list_any p (drop (low + 1) xs)) here
    ∙ skip p xs d n (low + 1) high (omega (arith, e)) within (λ j above below. none j (omega (arith, above)) below)

and_true : (a b : Bool) → b ≡ true → a && b ≡ a
and_true true b e = e
and_true false b e = refl

-- none of the dependencies between two places overlaps the bytes
pub hits_skip : (from «end» : ℕ) (rs : List Dependency) (low high k : ℕ) → low ≤ high → high ≤ length rs → NoneOverlaps from «end» rs low high
    → hits from «end» (drop low rs) k ≡ hits from «end» (drop high rs) k
hits_skip from «end» rs low high k ordered within none =
    let n : (n : ℕ) × (low + n ≡ high) = (high - low, omega (arith, ordered)) in
    skip (is_hit from «end» k) rs no_dependency n.0 low high n.1 within (λ j above below. and_right ((at_place rs j).dependent == k) (overlaps from «end» (at_place rs j)) (none j above below))

-- one more dependency that overlaps them
pub hits_visited : (from «end» : ℕ) (rs : List Dependency) (at before k : ℕ) → at < before → before ≤ length rs → overlaps from «end» (at_place rs at) ≡ true → NoneOverlaps from «end» rs (at + 1) before
    → hits from «end» (drop at rs) k ≡ ((at_place rs at).dependent == k || hits from «end» (drop before rs) k)
hits_visited from «end» rs at before k less within visited none =
    ap (list_any (is_hit from «end» k)) (drop_more rs at no_dependency (omega (arith, less, within)))
    ∙ ap (λ b. b || hits from «end» (drop (at + 1) rs) k) (and_true ((at_place rs at).dependent == k) (overlaps from «end» (at_place rs at)) visited)
    ∙ ap (λ b. (at_place rs at).dependent == k || b) (hits_skip from «end» rs (at + 1) before k (omega (arith, less)) within none)

-- ---- those that begin behind the bytes

second_false : (a b c d : Bool) → c ≡ false → a && (b && (c && d)) ≡ false
second_false false b c d e = refl
second_false true false c d e = refl
second_false true true c d e = ap (λ x. x && d) e

pub unmet_behind : (from «end» : ℕ) (r : Dependency) → nat_lt (first_of r) «end» ≡ false → overlaps from «end» r ≡ false
unmet_behind from «end» r behind = second_false (nat_lt from «end») (nat_lt (first_of r) (behind_of r)) (nat_lt (first_of r) «end») (nat_lt from (behind_of r)) behind

pub none_behind : (from «end» : ℕ) (rs : List Dependency) (place k : ℕ) → place ≤ length rs → NoneOverlaps from «end» rs place (length rs) → hits from «end» (drop place rs) k ≡ false
none_behind from «end» rs place k within none =
    hits_skip from «end» rs place (length rs) k within (omega arith) none ∙ ap (list_any (is_hit from «end» k)) (drop_all (length rs) rs (omega arith))

-- Sorted dependencies are parted by where they begin.
pub parted : («end» : ℕ) (rs : List Dependency) → AreSorted rs → (i j : ℕ) (d : Dependency) → i ≤ j → j < length rs → nat_lt (first_of (get_or rs j d)) «end» ≡ true → nat_lt (first_of (get_or rs i d)) «end» ≡ true
parted «end» rs sorted i j d ordered within before =
    let above : first_of (get_or rs j d) < «end» = ltb-true (first_of (get_or rs j d)) «end» before in
    let rise : first_of (get_or rs i d) ≤ first_of (get_or rs j d) = sorted i j d ordered within in
    lt-ltb (first_of (get_or rs i d)) «end» (omega (arith, above, rise))
