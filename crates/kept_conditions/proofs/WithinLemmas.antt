-- Bytes of fields that lie within ranges, and in which stores differ.
use Rattle.std.proofs.Common.{◌≡◌, ℕ, zero, suc, min, max, ◌+◌, ◌-◌, ◌<◌, ◌≤◌, ◌==◌, ◌&&◌, ◌||◌, nat_le, nat_lt, not, Bool, true, false, Option, None, Some, List, [], ◌∷◌, length, drop, get_or, count_by, filter, refl, sym, ap, ◌∙◌, inl, inr, arith}
use Rattle.std.proofs.lemmas.List.{drop_more, drop_all}
use Rattle.std.proofs.lemmas.Bool.{cases_lt, and_from, and_parts, eqb-true, eq-eqb, leb-true, le-leb, ltb-true, lt-ltb, false≢true, and_right, false_from_ne_true}
use Rattle.std.proofs.Math.Bool.{and-true}
use Rattle.std.proofs.lemmas.List.Folds.{list_any_none}
use Rattle.ifr_opcodes.specs.Forest.{Node}
use Rattle.hii_varstore.specs.Stores.{StoreMap, shape_of, bytes_of, byte_of}
use Rattle.hii_questions.specs.Fields.{Field}
use Rattle.hii_questions.specs.code.Entries.{entry_range}
use Rattle.hii_questions.specs.code.Numbers.{first_of, behind_of}
use Rattle.hii_questions.specs.declared.entry.FieldEntry.{FieldEntry}
use Rattle.hii_questions.specs.declared.field_range.FieldRange.{FieldRange}
use Rattle.kept_conditions.specs.code.Invalidation.{common, other_at, other_bytes, LiesWithin, AreAlike, in_range}
use Rattle.kept_conditions.specs.code.Index.{AreSmall, NoneOverlaps, at_place, is_dependency, overlaps, no_dependency, depends_on}
use Rattle.guard_policy.specs.Conditions.{condition_ids, is_kept}
use Rattle.kept_conditions.specs.Touching.{difference, field_with, has_byte, has_one, is_same, renewals, touches}
use Rattle.kept_conditions.specs.declared.index.Dependency.{Dependency}
use Rattle.kept_conditions.proofs.DifferenceLemmas.{difference_at, equal_behind, none_one, one_size}
use Rattle.kept_conditions.proofs.FilterLemmas.{none_count}
use Rattle.kept_conditions.proofs.UntouchedLemmas.{none_has}
use Rattle.kept_conditions.proofs.OverlapLemmas.{alike, has_some, overlaps_range, some_has, skip}

-- ---- a byte of a range

pub is_in : (r : FieldRange) (store at : ℕ) → LiesWithin r store at → in_range r store at ≡ true
is_in r store at lies =
    and_from (store == r.store) (nat_le r.offset at && nat_lt at (r.offset + r.width)) (eq-eqb store r.store lies.0)
    (and_from (nat_le r.offset at) (nat_lt at (r.offset + r.width)) (le-leb r.offset at lies.1) (lt-ltb at (r.offset + r.width) lies.2))

pub lies_in : (r : FieldRange) (store at : ℕ) → in_range r store at ≡ true → LiesWithin r store at
lies_in r store at e =
    let first = and_parts (store == r.store) (nat_le r.offset at && nat_lt at (r.offset + r.width)) e in
    let second = and_parts (nat_le r.offset at) (nat_lt at (r.offset + r.width)) first.1 in
    (eqb-true store r.store first.0, leb-true r.offset at second.0, ltb-true at (r.offset + r.width) second.1)

pub not_in : (r : FieldRange) (store at : ℕ) → (LiesWithin r store at → ⊥) → in_range r store at ≡ false
not_in r store at away = false_from_ne_true (in_range r store at) (λ is. away (lies_in r store at is))

pub lies_out : (r : FieldRange) (store at : ℕ) → in_range r store at ≡ false → LiesWithin r store at → ⊥
lies_out r store at away lies = false≢true (sym away ∙ is_in r store at lies)

-- ---- bytes that are among two sets

pub other_store : (bytes : ℕ → ℕ → Bool) (field within : FieldRange) → (field.store ≡ within.store → ⊥) → has_one (common bytes (in_range within)) field.store field.offset field.width ≡ false
other_store bytes field within other =
    none_one (common bytes (in_range within)) field.store field.width field.offset (λ at from before. and_right (bytes field.store at) (in_range within field.store at) (not_in within field.store at (λ w. other w.0)))

pub fewer_bytes : (bytes others : ℕ → ℕ → Bool) (store offset width : ℕ) → has_one bytes store offset width ≡ false → has_one (common bytes others) store offset width ≡ false
fewer_bytes bytes others store offset width none =
    none_one (common bytes others) store width offset (λ at from before. ap (λ b. b && others store at) (none_has bytes store width offset at none from before))

-- the bytes of a field that lie within a range and in which stores differ
pub parts_differ : (old new : StoreMap) → shape_of old ≡ shape_of new → (field within : FieldRange) → field.store ≡ within.store → (xs ys : List ℕ) → Some xs ≡ bytes_of old field.store → Some ys ≡ bytes_of new field.store
    → other_bytes xs ys (max field.offset within.offset) (min (min (field.offset + field.width) (length xs)) (min (within.offset + within.width) (length xs)) - max field.offset within.offset)
    ≡ has_one (common (difference old new) (in_range within)) field.store field.offset field.width
parts_differ old new shape field within same xs ys e f =
    let from = max field.offset within.offset in
    let to = min (min (field.offset + field.width) (length xs)) (min (within.offset + within.width) (length xs)) in
    let bytes = common (difference old new) (in_range within) in
    let size : length xs ≡ length ys = one_size old new shape field.store xs ys e f in
    let is = difference_at old new field.store xs ys e f in
    alike (other_bytes xs ys from (to - from)) (has_one bytes field.store field.offset field.width)
    (λ has.
    let some = some_has (other_at xs ys) 0 (to - from) from has in
    let at = some.0 in
    has_some bytes field.store field.width field.offset at (omega (arith, some.1)) (omega (arith, some.1, some.2))
    (and_from (difference old new field.store at) (in_range within field.store at) (sym (is at) ∙ some.3)
    (is_in within field.store at (same, omega (arith, some.1), omega (arith, some.1, some.2)))))
    (λ has.
    let some = some_has bytes field.store field.width field.offset has in
    let at = some.0 in
    let two = and_parts (difference old new field.store at) (in_range within field.store at) some.3 in
    let there = lies_in within field.store at two.1 in
    let differs : other_at xs ys 0 at ≡ true = is at ∙ two.0 in
    let inside : at < length xs = elim (cases_lt at (length xs)) [
      | inl inside ↦ inside
      | inr behind ↦ absurd (false≢true (sym (equal_behind xs ys at behind (omega (arith, behind, size))) ∙ differs))
    ] in
    has_some (other_at xs ys) 0 (to - from) from at (omega (arith, some.1, there.1)) (omega (arith, some.2, there.2, inside, some.1, there.1)) differs)

-- ---- sets of bytes that make up a set

module _ (bytes some others : ℕ → ℕ → Bool) (is : (store at : ℕ) → bytes store at ≡ (some store at || others store at)) where
  split_one : (store width offset : ℕ) → has_one bytes store offset width ≡ (has_one some store offset width || has_one others store offset width)
  split_one store zero offset = refl
  split_one store (suc width) offset =
      ap (λ b. b || has_one bytes store (offset + 1) width) (is store offset) ∙ ap (λ b. (some store offset || others store offset) || b) (split_one store width (offset + 1))
      ∙ turned (some store offset) (others store offset) (has_one some store (offset + 1) width) (has_one others store (offset + 1) width)
    where
      turned : (a b x y : Bool) → ((a || b) || (x || y)) ≡ ((a || x) || (b || y))
      turned true b x y = refl
      turned false true true y = refl
      turned false true false y = refl
      turned false false x y = refl

  pub split_depends_on : (rs : List Dependency) (k : ℕ) → depends_on bytes rs k ≡ (depends_on some rs k || depends_on others rs k)
  split_depends_on [] k = refl
  split_depends_on (r ∷ rs) k =
      ap (λ b. (r.dependent == k && b) || depends_on bytes rs k) (split_one r.field.store r.field.width r.field.offset)
      ∙ ap (λ b. (r.dependent == k && (has_one some r.field.store r.field.offset r.field.width || has_one others r.field.store r.field.offset r.field.width)) || b) (split_depends_on rs k)
      ∙ turned (r.dependent == k) (has_one some r.field.store r.field.offset r.field.width) (has_one others r.field.store r.field.offset r.field.width) (depends_on some rs k) (depends_on others rs k)
    where
      turned : (n a b x y : Bool) → ((n && (a || b)) || (x || y)) ≡ (((n && a) || x) || ((n && b) || y))
      turned false a b x y = refl
      turned true true b x y = refl
      turned true false true true y = refl
      turned true false true false y = refl
      turned true false false x y = refl

-- nothing depends on no byte
pub depends_on_nothing : (bytes : ℕ → ℕ → Bool) → ((store at : ℕ) → bytes store at ≡ false) → (rs : List Dependency) (k : ℕ) → depends_on bytes rs k ≡ false
depends_on_nothing bytes none [] k = refl
depends_on_nothing bytes none (r ∷ rs) k =
    ap (λ b. (r.dependent == k && b) || depends_on bytes rs k) (none_one bytes r.field.store r.field.width r.field.offset (λ at from before. none r.field.store at))
    ∙ ap (λ b. b || depends_on bytes rs k) (and_right (r.dependent == k) false refl) ∙ depends_on_nothing bytes none rs k

-- ---- bytes that are the same

pub same_byte : (o : Option ℕ) → is_same o o ≡ true
same_byte None = refl
same_byte (Some b) = eq-eqb b b refl

pub alike_nowhere : (old new : StoreMap) → AreAlike old new → (store at : ℕ) → difference old new store at ≡ false
alike_nowhere old new same store at = ap (λ o. not (is_same o (byte_of new store at))) (same store at) ∙ ap not (same_byte (byte_of new store at))

-- stores that take over what they hold touch no condition
no_count : {X : Type 0} (p : X → Bool) (xs : List X) → ((x : X) → p x ≡ false) → count_by p xs ≡ 0
no_count p [] none = refl
no_count p (x ∷ xs) none = none_count p (x ∷ xs) x (λ k less. none (get_or (x ∷ xs) k x))

untouched_field : (bytes : ℕ → ℕ → Bool) (field : Option Field) → ((store at : ℕ) → bytes store at ≡ false) → has_byte bytes field ≡ false
untouched_field bytes None none = refl
untouched_field bytes (Some f) none = none_one bytes f.store f.width f.offset (λ at from before. none f.store at)

pub none_renewed : (ns : List Node) (m : StoreMap) → renewals ns (difference m m) ≡ 0
none_renewed ns m =
    let none = alike_nowhere m m (λ store at. refl) in
    no_count (touches ns (difference m m)) (filter is_kept ns) (λ c.
    list_any_none (λ id. has_byte (difference m m) (field_with ns id)) (condition_ids ns c) (λ k d less. untouched_field (difference m m) (field_with ns (get_or (condition_ids ns c) k d)) none))

-- a dependency that has no byte of a range has none that is among others, too
pub apart_dependency : (bytes : ℕ → ℕ → Bool) (range : FieldRange) (r : Dependency) (k : ℕ) → range.offset < 65536 → r.field.offset < 65536 → overlaps (first_of range) (behind_of range) r ≡ false → is_dependency (common bytes (in_range range)) k r ≡ false
apart_dependency bytes range r k small small' none =
    let away : has_one (in_range range) r.field.store r.field.offset r.field.width ≡ false = sym (overlaps_range range r small small') ∙ none in
    and_right (r.dependent == k) (has_one (common bytes (in_range range)) r.field.store r.field.offset r.field.width)
    (none_one (common bytes (in_range range)) r.field.store r.field.width r.field.offset (λ at from before.
    and_right (bytes r.field.store at) (in_range range r.field.store at) (none_has (in_range range) r.field.store r.field.width r.field.offset at away from before)))

-- what is told of where a field lies
pub range_told : (bytes : ℕ → ℕ → Bool) (told : Bool) (range : FieldRange) (f : FieldEntry) → told ≡ has_one bytes range.store range.offset range.width → range ≡ entry_range f
    → told ≡ has_one bytes f.store f.offset f.width
range_told bytes told range f is lies = is ∙ ap (λ (r : FieldRange). has_one bytes r.store r.offset r.width) lies

-- whether a dependency is that of a dependent, by whether it has one of the bytes
pub other_dependency : (bytes : ℕ → ℕ → Bool) (r : Dependency) (k : ℕ) → has_one bytes r.field.store r.field.offset r.field.width ≡ false → is_dependency bytes k r ≡ false
other_dependency bytes r k none = and_right (r.dependent == k) (has_one bytes r.field.store r.field.offset r.field.width) none

pub its_dependency : (bytes : ℕ → ℕ → Bool) (r : Dependency) (k : ℕ) → has_one bytes r.field.store r.field.offset r.field.width ≡ true → is_dependency bytes k r ≡ (r.dependent == k)
its_dependency bytes r k has = ap (λ b. r.dependent == k && b) has ∙ and-true (r.dependent == k)

-- ---- dependencies, from the last one on, of which those are told that overlap a range

module _ (bytes : ℕ → ℕ → Bool) (range : FieldRange) (rs : List Dependency) (from behind : ℕ) (first : from ≡ first_of range) (last : behind ≡ behind_of range) (small : range.offset < 65536) (all : AreSmall rs) where
  pub depends_skip : (low high k : ℕ) → low ≤ high → high ≤ length rs → NoneOverlaps from behind rs low high → depends_on (common bytes (in_range range)) (drop low rs) k ≡ depends_on (common bytes (in_range range)) (drop high rs) k
  depends_skip low high k ordered within none =
      skip (is_dependency (common bytes (in_range range)) k) rs no_dependency (high - low) low high (omega (arith, ordered)) within
      (λ j above below.
      let r = at_place rs j in
      apart_dependency bytes range r k small (all j no_dependency (omega (arith, below, within))) (sym (ap (λ n. overlaps n behind r) first ∙ ap (λ n. overlaps (first_of range) n r) last) ∙ none j above below))

  pub depends_behind : (place k : ℕ) → place ≤ length rs → NoneOverlaps from behind rs place (length rs) → depends_on (common bytes (in_range range)) (drop place rs) k ≡ false
  depends_behind place k within none =
      depends_skip place (length rs) k within (omega arith) none
      ∙ ap (λ l. depends_on (common bytes (in_range range)) l k) (drop_all (length rs) rs (omega arith))

  -- the one at a place and those behind it, where none overlaps them up to another place
  module _ (at before k : ℕ) (less : at < before) (within : before ≤ length rs) (none : NoneOverlaps from behind rs (at + 1) before) where
    depends_next : depends_on (common bytes (in_range range)) (drop at rs) k ≡ (is_dependency (common bytes (in_range range)) k (at_place rs at) || depends_on (common bytes (in_range range)) (drop before rs) k)
    depends_next =
        ap (λ l. depends_on (common bytes (in_range range)) l k) (drop_more rs at no_dependency (omega (arith, less, within)))
        ∙ ap (λ b. is_dependency (common bytes (in_range range)) k (at_place rs at) || b) (depends_skip (at + 1) before k (omega (arith, less)) within none)

    pub depends_past : has_one (common bytes (in_range range)) (at_place rs at).field.store (at_place rs at).field.offset (at_place rs at).field.width ≡ false
        → depends_on (common bytes (in_range range)) (drop at rs) k ≡ depends_on (common bytes (in_range range)) (drop before rs) k
    depends_past away = depends_next ∙ ap (λ b. b || depends_on (common bytes (in_range range)) (drop before rs) k) (other_dependency (common bytes (in_range range)) (at_place rs at) k away)

    pub depends_more : has_one (common bytes (in_range range)) (at_place rs at).field.store (at_place rs at).field.offset (at_place rs at).field.width ≡ true
        → depends_on (common bytes (in_range range)) (drop at rs) k ≡ ((at_place rs at).dependent == k || depends_on (common bytes (in_range range)) (drop before rs) k)
    depends_more has = depends_next ∙ ap (λ b. b || depends_on (common bytes (in_range range)) (drop before rs) k) (its_dependency (common bytes (in_range range)) (at_place rs at) k has)
