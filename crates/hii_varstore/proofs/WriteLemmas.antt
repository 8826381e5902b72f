-- What a write of some bytes changes, and what it leaves.
use Rattle.std.proofs.Common.{◌≡◌, ◌⊎◌, ℕ, ◌+◌, ◌<◌, ◌≤◌, true, false, eqb, cond, List, [], ◌∷◌, ◌++◌, length, map, get_or, slice_range, Option, Some, None, option_map, refl, sym, ap, ◌∙◌, arith, rules, inl, inr}
use Rattle.std.specs.List.{find, slice_get}
use Rattle.std.specs.Option.{IsSomeAnd, option_and_then}
use Rattle.std.proofs.lemmas.List.{places, same_lists}
use Rattle.std.proofs.lemmas.Option.{slice_get-get_or, slice_get_past}
use Rattle.std.proofs.lemmas.Bool.{cases_Bool, cases_lt, eqb-true, eq-eqb, ne_eqb, eqb-false}
use Rattle.hii_varstore.specs.Stores.{Store, StoreMap, buffer_of, shape_of, bytes_of, bytes_of_field, overwritten, store_with, with_bytes, byte_of}
use Rattle.hii_varstore.specs.Layout.{size_of}
use Rattle.hii_varstore.specs.code.Ranges.{HasRange}
use Rattle.hii_varstore.specs.declared.buffer.Buffer.{Buffer}
use Rattle.hii_varstore.proofs.PlaceLemmas.{length-overwritten}

-- one store, after a write to the store of an id
abbrev changed : ℕ → ℕ → List ℕ → Store → Store
changed id offset new s = cond (eqb s.id id) (store_with s offset new) s

-- the bytes of each store after a write
bytes_in : (ss : List Store) (id offset other : ℕ) (new : List ℕ) → option_map (λ (s : Store). s.bytes) (find (λ s. eqb s.id other) (map (changed id offset new) ss)) ≡ option_map (λ (bytes : List ℕ). cond (eqb other id) (overwritten bytes offset new) bytes) (option_map (λ (s : Store). s.bytes) (find (λ s. eqb s.id other) ss))
bytes_in [] id offset other new = refl
bytes_in (s ∷ ss) id offset other new =
    elim (cases_Bool (eqb s.id id)) [
      | inl written ↦ elim (cases_Bool (eqb s.id other)) [
        | inl asked ↦ let same : eqb other id ≡ true = eq-eqb other id (sym (eqb-true s.id other asked) ∙ eqb-true s.id id written) in rw (written, asked, same) refl
        | inr passed ↦ rw (written, passed) (bytes_in ss id offset other new)
      ]
      | inr kept ↦ elim (cases_Bool (eqb s.id other)) [
        | inl asked ↦ let apart : eqb other id ≡ false = ne_eqb other id (λ e. eqb-false s.id id kept (eqb-true s.id other asked ∙ e)) in rw (kept, asked, apart) refl
        | inr passed ↦ rw (kept, passed) (bytes_in ss id offset other new)
      ]
    ]

pub bytes_after : (m : StoreMap) (id offset other : ℕ) (new : List ℕ) → bytes_of (with_bytes m id offset new) other ≡ option_map (λ (bytes : List ℕ). cond (eqb other id) (overwritten bytes offset new) bytes) (bytes_of m other)
unfolding with_bytes
bytes_after m id offset other new = bytes_in m.stores id offset other new

-- a byte outside of what is written
other_byte : (old : List ℕ) (offset at : ℕ) (new : List ℕ) → ((at < offset) ⊎ (offset + length new ≤ at)) → slice_get (overwritten old offset new) at ≡ slice_get old at
other_byte old offset at new outside =
    let size = length-overwritten old offset new in
    elim (cases_lt at (length old)) [
      | inl within ↦
          let same : get_or (overwritten old offset new) at 0 ≡ get_or old at 0 = elim outside [ inl before ↦ grind (arith, places) | inr behind ↦ grind (arith, places) ] in
          slice_get-get_or (overwritten old offset new) at 0 (omega (arith, size)) ∙ ap Some same ∙ sym (slice_get-get_or old at 0 within)
      | inr past ↦ slice_get_past (overwritten old offset new) at (omega (arith, size)) ∙ sym (slice_get_past old at past)
    ]

byte_in : (o : Option (List ℕ)) (id offset other at : ℕ) (new : List ℕ) → (other ≡ id → (at < offset) ⊎ (offset + length new ≤ at)) → option_and_then (λ bytes. slice_get bytes at) (option_map (λ (bytes : List ℕ). cond (eqb other id) (overwritten bytes offset new) bytes) o) ≡ option_and_then (λ bytes. slice_get bytes at) o
byte_in None id offset other at new outside = refl
byte_in (Some bytes) id offset other at new outside =
    elim (cases_Bool (eqb other id)) [ inl same ↦ rw same (other_byte bytes offset at new (outside (eqb-true other id same))) | inr apart ↦ rw apart refl ]

pub byte_after : (m : StoreMap) (id offset other at : ℕ) (new : List ℕ) → (other ≡ id → (at < offset) ⊎ (offset + length new ≤ at)) → byte_of (with_bytes m id offset new) other at ≡ byte_of m other at
byte_after m id offset other at new outside = rw (bytes_after m id offset other new) (byte_in (bytes_of m other) id offset other at new outside)

-- a range that does not meet what is written
before_range : (old new : List ℕ) (offset at width : ℕ) → at + width ≤ offset → slice_range (overwritten old offset new) at (at + width) ≡ slice_range old at (at + width)
before_range old new offset at width before = same_lists _ _ (search (rules, places)) (λ k d h. grind (arith, places))

behind_range : (old new : List ℕ) (offset at width : ℕ) → offset + length new ≤ at → slice_range (overwritten old offset new) at (at + width) ≡ slice_range old at (at + width)
behind_range old new offset at width behind = same_lists _ _ (search (rules, places)) (λ k d h. grind (arith, places))

range_in : (o : Option (List ℕ)) (id offset other at width : ℕ) (new : List ℕ) → (other ≡ id → (at + width ≤ offset) ⊎ (offset + length new ≤ at)) → option_map (λ bytes. slice_range bytes at (at + width)) (option_map (λ (bytes : List ℕ). cond (eqb other id) (overwritten bytes offset new) bytes) o) ≡ option_map (λ bytes. slice_range bytes at (at + width)) o
range_in None id offset other at width new outside = refl
range_in (Some bytes) id offset other at width new outside =
    elim (cases_Bool (eqb other id)) [
      | inl same ↦ rw same (elim (outside (eqb-true other id same)) [ inl before ↦ ap Some (before_range bytes new offset at width before) | inr behind ↦ ap Some (behind_range bytes new offset at width behind) ])
      | inr apart ↦ rw apart refl
    ]

pub field_after : (m : StoreMap) (id offset other at width : ℕ) (new : List ℕ) → (other ≡ id → (at + width ≤ offset) ⊎ (offset + length new ≤ at)) → bytes_of_field (with_bytes m id offset new) other at width ≡ bytes_of_field m other at width
field_after m id offset other at width new outside = rw (bytes_after m id offset other new) (range_in (bytes_of m other) id offset other at width new outside)

-- the size of a store is the number of its bytes
sizes_in : (ss : List Store) (id : ℕ) → option_map (λ (b : Buffer). b.size) (find (λ b. eqb b.id id) (map buffer_of ss)) ≡ option_map (λ (bytes : List ℕ). length bytes) (option_map (λ (s : Store). s.bytes) (find (λ s. eqb s.id id) ss))
sizes_in [] id = refl
sizes_in (s ∷ ss) id = elim (cases_Bool (eqb s.id id)) [ inl same ↦ rw same refl | inr other ↦ rw other (sizes_in ss id) ]

pub sizes : (m : StoreMap) (id : ℕ) → size_of (shape_of m) id ≡ option_map (λ (bytes : List ℕ). length bytes) (bytes_of m id)
sizes m id = sizes_in m.stores id

-- what is written is read back
range_back : (old new : List ℕ) (offset : ℕ) → offset + length new ≤ length old → slice_range (overwritten old offset new) offset (offset + length new) ≡ new
range_back old new offset within = same_lists _ _ (search (rules, places)) (λ k d h. grind (arith, places))

back_in : (o : Option (List ℕ)) (id offset : ℕ) (new : List ℕ) → IsSomeAnd (option_map (λ (bytes : List ℕ). length bytes) o) (λ size. offset + length new ≤ size) → option_map (λ bytes. slice_range bytes offset (offset + length new)) (option_map (λ (bytes : List ℕ). cond (eqb id id) (overwritten bytes offset new) bytes) o) ≡ Some new
back_in None id offset new range = absurd range
back_in (Some bytes) id offset new range = rw (eq-eqb id id refl) (ap Some (range_back bytes new offset range))

pub field_back : (m : StoreMap) (id offset : ℕ) (new : List ℕ) → HasRange (shape_of m) id offset (length new) → bytes_of_field (with_bytes m id offset new) id offset (length new) ≡ Some new
field_back m id offset new range = rw (bytes_after m id offset id new) (back_in (bytes_of m id) id offset new (rw (sizes m id) at range))

-- a write keeps ids and sizes
buffers_in : (ss : List Store) (id offset : ℕ) (new : List ℕ) → map buffer_of (map (changed id offset new) ss) ≡ map buffer_of ss
buffers_in [] id offset new = refl
buffers_in (s ∷ ss) id offset new =
    let rest = buffers_in ss id offset new in
    elim (cases_Bool (eqb s.id id)) [ inl same ↦ rw (same, length-overwritten s.bytes offset new, rest) refl | inr other ↦ rw (other, rest) refl ]

pub shape_after : (m : StoreMap) (id offset : ℕ) (new : List ℕ) → shape_of (with_bytes m id offset new) ≡ shape_of m
unfolding with_bytes
shape_after m id offset new = ap (λ (bs : List Buffer). record { guid = m.guid; buffers = bs }) (buffers_in m.stores id offset new)

-- two writes, one behind the other, are one
overwritten_both : (old front rest : List ℕ) (offset : ℕ) → overwritten (overwritten old offset front) (offset + length front) rest ≡ overwritten old offset (front ++ rest)
overwritten_both old front rest offset = same_lists _ _ (search (rules, places)) (λ k d h. grind (arith, places))

both_in : (ss : List Store) (id offset : ℕ) (front rest : List ℕ) → map (changed id (offset + length front) rest) (map (changed id offset front) ss) ≡ map (changed id offset (front ++ rest)) ss
both_in [] id offset front rest = refl
both_in (s ∷ ss) id offset front rest =
    let later = both_in ss id offset front rest in
    elim (cases_Bool (eqb s.id id)) [ inl same ↦ rw (same, same, overwritten_both s.bytes front rest offset, later) refl | inr other ↦ rw (other, other, later) refl ]

pub both_after : (m : StoreMap) (id offset : ℕ) (front rest : List ℕ) → with_bytes (with_bytes m id offset front) id (offset + length front) rest ≡ with_bytes m id offset (front ++ rest)
unfolding with_bytes
both_after m id offset front rest = ap (λ (ss : List Store). record { guid = m.guid; stores = ss }) (both_in m.stores id offset front rest)
