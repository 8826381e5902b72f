-- What of fields is copied from other stores, and new bytes that are taken back.
use Rattle.std.proofs.Common.{◌≡◌, ◌⊎◌, ℕ, ◌+◌, ◌-◌, ◌<◌, ◌≤◌, ◌&&◌, ◌||◌, not, Bool, true, false, List, ◌∷◌, length, get_or, slice_range, Option, Some, None, option_map, refl, sym, ap, subst, ◌∙◌, arith, inl, inr, eqb, nat_eq, cond, [], map, rules}
use Rattle.std.specs.List.{slice_get, AllByRecursion, IsDistinct, find}
use Rattle.std.specs.Option.{IsSomeAnd, option_and_then}
use Rattle.std.proofs.lemmas.List.{places, same_lists}
use Rattle.std.proofs.lemmas.List.Edits.{length-between}
use Rattle.std.proofs.lemmas.Option.{slice_get-get_or, same_Some}
use Rattle.std.proofs.lemmas.Bool.{cases_Bool, cases_lt, eqb-true, eqb-false, ne_eqb}
use Rattle.std.proofs.Math.Bool.{and-false, and-true}
use Rattle.hii_varstore.specs.Stores.{StoreMap, shape_of, bytes_of, bytes_of_field, with_bytes, byte_of, Store, buffer_of, overwritten, store_with}
use Rattle.hii_varstore.specs.code.Ranges.{HasRange}
use Rattle.hii_varstore.proofs.WriteLemmas.{byte_after, field_back, shape_after, sizes}
use Rattle.hii_varstore.specs.declared.buffer.Buffer.{Buffer}
use Rattle.hii_varstore.specs.code.Table.{AreBuffers}
use Rattle.hii_questions.specs.declared.field_range.FieldRange.{FieldRange}
use Rattle.kept_conditions.specs.code.Invalidation.{common, LiesWithin, AreAlikeOutside, in_range}
use Rattle.kept_conditions.specs.Touching.{difference, is_same}
use Rattle.kept_conditions.proofs.WithinLemmas.{lies_in, lies_out, same_byte}

-- ---- bytes of a range

slice_byte : (bytes : List ℕ) (offset width at : ℕ) → offset + width ≤ length bytes → offset ≤ at → at < offset + width → slice_get bytes at ≡ slice_get (slice_range bytes offset (offset + width)) (at - offset)
slice_byte bytes offset width at inside from to =
    let part = slice_range bytes offset (offset + width) in
    let size : length part ≡ width = length-between bytes offset (offset + width) inside ∙ omega arith in
    let same : get_or bytes at 0 ≡ get_or part (at - offset) 0 = grind (arith, places) in
    slice_get-get_or bytes at 0 (omega (arith, inside, to)) ∙ ap Some same ∙ sym (slice_get-get_or part (at - offset) 0 (omega (arith, size, from, to)))

-- the byte of a store that has a range, as one of the bytes of the range
range_byte : (o : Option (List ℕ)) (offset width at : ℕ) → IsSomeAnd (option_map length o) (λ size. offset + width ≤ size) → offset ≤ at → at < offset + width
    → option_and_then (λ bytes. slice_get bytes at) o ≡ option_and_then (λ part. slice_get part (at - offset)) (option_map (λ bytes. slice_range bytes offset (offset + width)) o)
range_byte None offset width at range from to = absurd range
range_byte (Some bytes) offset width at range from to = slice_byte bytes offset width at range from to

range_size : (o : Option (List ℕ)) (offset width : ℕ) (part : List ℕ) → IsSomeAnd (option_map length o) (λ size. offset + width ≤ size) → option_map (λ bytes. slice_range bytes offset (offset + width)) o ≡ Some part → length part ≡ width
range_size None offset width part range e = absurd range
range_size (Some bytes) offset width part range e =
    let is : slice_range bytes offset (offset + width) ≡ part = cc in
    ap length (sym is) ∙ length-between bytes offset (offset + width) range ∙ omega arith

pub field_size : (m : StoreMap) (id offset width : ℕ) (bytes : List ℕ) → HasRange (shape_of m) id offset width → bytes_of_field m id offset width ≡ Some bytes → length bytes ≡ width
field_size m id offset width bytes range e = range_size (bytes_of m id) offset width bytes (subst (λ (o : Option ℕ). IsSomeAnd o (λ size. offset + width ≤ size)) (sizes m id) range) e

-- stores that hold the same range hold the same bytes in it
same_range : (a b : StoreMap) (r : FieldRange) (at : ℕ) → HasRange (shape_of a) r.store r.offset r.width → HasRange (shape_of b) r.store r.offset r.width → bytes_of_field a r.store r.offset r.width ≡ bytes_of_field b r.store r.offset r.width
    → r.offset ≤ at → at < r.offset + r.width → byte_of a r.store at ≡ byte_of b r.store at
same_range a b r at mine theirs same from to =
    range_byte (bytes_of a r.store) r.offset r.width at (rw (sizes a r.store) at mine) from to
    ∙ ap (λ o. option_and_then (λ part. slice_get part (at - r.offset)) o) same
    ∙ sym (range_byte (bytes_of b r.store) r.offset r.width at (rw (sizes b r.store) at theirs) from to)

some_bytes : (now old : StoreMap) (r : FieldRange) (o : Option (List ℕ)) → IsSomeAnd o (λ bytes. now ≡ with_bytes old r.store r.offset bytes) → (bytes : List ℕ) × (o ≡ Some bytes) × (now ≡ with_bytes old r.store r.offset bytes)
some_bytes now old r None c = absurd c
some_bytes now old r (Some bytes) c = (bytes, refl, c)

-- ---- a range that is copied

module _ (old from now : StoreMap) (r : FieldRange) (shape : shape_of old ≡ shape_of from) (range : HasRange (shape_of old) r.store r.offset r.width)
    (copied : IsSomeAnd (bytes_of_field from r.store r.offset r.width) (λ bytes. now ≡ with_bytes old r.store r.offset bytes)) where
  theirs : HasRange (shape_of from) r.store r.offset r.width
  theirs = subst (λ s. HasRange s r.store r.offset r.width) shape range

  part : (bytes : List ℕ) × (bytes_of_field from r.store r.offset r.width ≡ Some bytes) × (now ≡ with_bytes old r.store r.offset bytes)
  part = some_bytes now old r (bytes_of_field from r.store r.offset r.width) copied

  size : length part.0 ≡ r.width
  size = field_size from r.store r.offset r.width part.0 theirs part.1

  same_part : bytes_of_field now r.store r.offset r.width ≡ bytes_of_field from r.store r.offset r.width
  same_part =
      ap (λ m. bytes_of_field m r.store r.offset r.width) part.2
      ∙ subst (λ n. bytes_of_field (with_bytes old r.store r.offset part.0) r.store r.offset n ≡ Some part.0) size
      (field_back old r.store r.offset part.0 (subst (λ n. HasRange (shape_of old) r.store r.offset n) (sym size) range))
      ∙ sym part.1

  now_range : HasRange (shape_of now) r.store r.offset r.width
  now_range = subst (λ m. HasRange (shape_of m) r.store r.offset r.width) (sym part.2) (subst (λ s. HasRange s r.store r.offset r.width) (sym (shape_after old r.store r.offset part.0)) range)

  inside : (store at : ℕ) → LiesWithin r store at → byte_of now store at ≡ byte_of from store at
  inside store at lies = subst (λ s. byte_of now s at ≡ byte_of from s at) (sym lies.0) (same_range now from r at now_range theirs same_part lies.1 lies.2)

  outside : (store at : ℕ) → (LiesWithin r store at → ⊥) → byte_of now store at ≡ byte_of old store at
  outside store at away = ap (λ m. byte_of m store at) part.2 ∙ byte_after old r.store r.offset store at part.0 apart
    where
      apart : store ≡ r.store → (at < r.offset) ⊎ (r.offset + length part.0 ≤ at)
      apart same = elim (cases_lt at r.offset) [
        | inl before ↦ inl before
        | inr low ↦ elim (cases_lt at (r.offset + r.width)) [
          | inl high ↦ absurd (away (same, low, high))
          | inr behind ↦ inr (omega (arith, size, behind))
        ]
      ]

  -- where they agree outside of what is copied, they do everywhere
  pub copied_agree : (store at : ℕ) → ((LiesWithin r store at → ⊥) → byte_of old store at ≡ byte_of from store at) → byte_of now store at ≡ byte_of from store at
  copied_agree store at agree = elim (cases_Bool (in_range r store at)) [
    | inl is ↦ inside store at (lies_in r store at is)
    | inr away ↦ outside store at (lies_out r store at away) ∙ agree (lies_out r store at away)
  ]

  -- outside of the ranges that are left they hold the same
  pub alike_still : (rest : List FieldRange) → AreAlikeOutside (r ∷ rest) old from → AreAlikeOutside rest now from
  alike_still rest alike store at none = copied_agree store at (λ away. alike store at (away, none))

  -- what is left of the bytes in which they differed
  left_different : (store at : ℕ) → difference now from store at ≡ (difference old from store at && not (in_range r store at))
  left_different store at = elim (cases_Bool (in_range r store at)) [
    | inl is ↦
        ap (λ o. not (is_same o (byte_of from store at))) (inside store at (lies_in r store at is)) ∙ ap not (same_byte (byte_of from store at))
        ∙ sym (ap (λ b. difference old from store at && not b) is ∙ and-false (difference old from store at))
    | inr away ↦
        ap (λ o. not (is_same o (byte_of from store at))) (outside store at (lies_out r store at away)) ∙ sym (ap (λ b. difference old from store at && not b) away ∙ and-true (difference old from store at))
  ]

  pub split_different : (store at : ℕ) → difference old from store at ≡ (common (difference old from) (in_range r) store at || difference now from store at)
  split_different store at = split (difference old from store at) (in_range r store at) ∙ ap (λ b. common (difference old from) (in_range r) store at || b) (sym (left_different store at))
    where
      split : (a b : Bool) → a ≡ ((a && b) || (a && not b))
      split true true = refl
      split true false = refl
      split false b = refl

-- ---- with its bytes of before a range is as it was

abbrev changed : ℕ → ℕ → List ℕ → Store → Store
changed id offset new s = cond (eqb s.id id) (store_with s offset new) s

-- no store of the list has the id
others : (ss : List Store) (id offset : ℕ) (new : List ℕ) → AllByRecursion (λ k. nat_eq id k ≡ false) (map (λ (b : Buffer). b.id) (map buffer_of ss)) → map (changed id offset new) ss ≡ ss
others [] id offset new apart = refl
others (s ∷ ss) id offset new apart =
    let other : eqb s.id id ≡ false = ne_eqb s.id id (λ e. eqb-false id s.id apart.0 (sym e)) in
    rw (other, others ss id offset new apart.1) refl

same_bytes : (old new : List ℕ) (offset width : ℕ) → offset + width ≤ length old → length new ≡ width → overwritten (overwritten old offset new) offset (slice_range old offset (offset + width)) ≡ old
same_bytes old new offset width within size = same_lists _ _ (search (rules, places)) (λ k d h. grind (arith, places))

same_stores : (ss : List Store) (id offset width : ℕ) (new bytes : List ℕ) → IsDistinct nat_eq (map (λ (b : Buffer). b.id) (map buffer_of ss)) → length new ≡ width
    → IsSomeAnd (option_map (λ (xs : List ℕ). length xs) (option_map (λ (s : Store). s.bytes) (find (λ s. eqb s.id id) ss))) (λ size. offset + width ≤ size)
    → option_map (λ (xs : List ℕ). slice_range xs offset (offset + width)) (option_map (λ (s : Store). s.bytes) (find (λ s. eqb s.id id) ss)) ≡ Some bytes
    → map (changed id offset bytes) (map (changed id offset new) ss) ≡ ss
unfolding IsDistinct
same_stores [] id offset width new bytes apart size range e = refl
same_stores (s ∷ ss) id offset width new bytes apart size range e =
    elim (cases_Bool (eqb s.id id)) [
      | inl same ↦
          let none = rw (eqb-true s.id id same) at apart.0 in
          let within : offset + width ≤ length s.bytes = rw same at range in
          let old : slice_range s.bytes offset (offset + width) ≡ bytes = same_Some _ _ (rw same at e) in
          let back : overwritten (overwritten s.bytes offset new) offset bytes ≡ s.bytes = subst (λ (l : List ℕ). overwritten (overwritten s.bytes offset new) offset l ≡ s.bytes) old (same_bytes s.bytes new offset width within size) in
          rw (same, same, others ss id offset new none, others ss id offset bytes none, back) refl
      | inr other ↦ let rest = same_stores ss id offset width new bytes apart.1 size (rw other at range) (rw other at e) in rw (other, other, rest) refl
    ]

pub taken_back : (m : StoreMap) (id offset width : ℕ) (new bytes : List ℕ) → AreBuffers (map buffer_of m.stores) → HasRange (shape_of m) id offset width → bytes_of_field m id offset width ≡ Some bytes → length new ≡ width
    → with_bytes (with_bytes m id offset new) id offset bytes ≡ m
unfolding with_bytes IsDistinct
taken_back m id offset width new bytes sound range e size =
    ap (λ (ss : List Store). record { guid = m.guid; stores = ss })
    (same_stores m.stores id offset width new bytes sound.apart.1 size (subst (λ (o : Option ℕ). IsSomeAnd o (λ size. offset + width ≤ size)) (sizes m id) range) e)
