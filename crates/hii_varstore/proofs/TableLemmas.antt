-- The index of the buffer stores.
use Rattle.std.proofs.Common.{◌≡◌, ℕ, suc, ◌+◌, ◌^◌, ◌<◌, ◌≤◌, true, eqb, ltb, List, [], ◌∷◌, ◌++◌, length, map, take, replicate, get_or, Option, refl, ap, arith, inl, inr}
use Rattle.std.specs.List.{AllByRecursion, list_any, position_from}
use Rattle.std.specs.Ordering.{nat_cmp, is_eq}
use Rattle.hii_bytes.specs.code.IdTables.{number_with}
use Rattle.hii_bytes.specs.declared.id_table.IdEntry.{IdEntry}
use Rattle.std.proofs.lemmas.List.{take_more, length-map, length-take-le, length-replicate}
use Rattle.std.proofs.lemmas.Map.Steps.{length-le_from_distinct_below}
use Rattle.std.proofs.lemmas.Bool.{cases_Bool, eqb-true, ne_eqb, ltb-true}
use Rattle.hii_varstore.specs.declared.buffer.Buffer.{Buffer}
use Rattle.hii_varstore.specs.code.Table.{AreBuffers, place_of}
use Rattle.hii_varstore.specs.Stores.{buffer_of, zeros_in}

-- the place of the store of an id, counted from `start`
abbrev place_from : ℕ → List Buffer → ℕ → Option ℕ
place_from start bs id = position_from (λ (b : Buffer). eqb b.id id) start bs

id_below : (bs : List Buffer) (q : ℕ) → AllByRecursion (λ b. (b.id < 2 ^ 16) × (b.size < 2 ^ 16)) bs → list_any (eqb q) (map (λ (b : Buffer). b.id) bs) ≡ true → q < 65536
id_below [] q fit h = cc
id_below (b ∷ bs) q fit h =
    elim (cases_Bool (eqb q b.id)) [
      | inl same ↦ let e = eqb-true q b.id same in let f = fit.0.0 in omega (arith, e, f)
      | inr other ↦ id_below bs q fit.1 (rw other at h)
    ]

-- there are at most 65,535 stores
few_buffers : (bs : List Buffer) → AreBuffers bs → length bs ≤ 65535
few_buffers bs sound =
    let ids = 0 ∷ map (λ (b : Buffer). b.id) bs in
    let below : (q : ℕ) → list_any (eqb q) ids ≡ true → q < 65536 = λ q h. elim (cases_Bool (eqb q 0)) [
      | inl same ↦ let e = eqb-true q 0 same in omega (arith, e)
      | inr other ↦ id_below bs q sound.fit (rw other at h)
    ] in
    let few = length-le_from_distinct_below ids 65536 sound.apart below in
    omega (arith, few, length-map bs (λ (b : Buffer). b.id))

-- so a count fits two bytes
pub few_of : (bs whole_bs : List Buffer) → bs ≡ whole_bs → AreBuffers whole_bs → length bs < 2 ^ 16
few_of bs whole_bs same sound = omega (arith, few_buffers whole_bs sound, ap length same)

pub is_eq-nat_cmp : (a b : ℕ) → is_eq (nat_cmp a b) ≡ eqb a b
is_eq-nat_cmp a b =
    elim (cases_Bool (ltb a b)) [
      | inl less ↦ let other = ne_eqb a b (λ e. omega (arith, ltb-true a b less, e)) in rw (less, other) refl
      | inr greater ↦ rw greater (elim (cases_Bool (eqb a b)) [ inl same ↦ rw same refl | inr other ↦ rw other refl ])
    ]

-- ---- the places of stores by their ids

-- the entries of stores, of which the first has this place
abbrev pub entries_from : ℕ → List Buffer → List IdEntry
entries_from start [] = []
entries_from start (b ∷ bs) = record { id = b.id; number = start } ∷ entries_from (start + 1) bs

found_from : (start : ℕ) (bs : List Buffer) (id : ℕ) → number_with (entries_from start bs) id ≡ place_from start bs id
found_from start [] id = refl
found_from start (b ∷ bs) id = elim (cases_Bool (eqb b.id id)) [
  | inl here ↦ rw here refl
  | inr other ↦ rw other (found_from (start + 1) bs id)
]

pub found : (bs : List Buffer) (id : ℕ) → number_with (entries_from 0 bs) id ≡ place_of bs id
found bs id = found_from 0 bs id

entries-push : (start : ℕ) (bs : List Buffer) (b : Buffer) → entries_from start (bs ++ b ∷ []) ≡ entries_from start bs ++ record { id = b.id; number = start + length bs } ∷ []
entries-push start [] b = let e : start + 0 ≡ start = omega arith in rw e refl
entries-push start (c ∷ bs) b =
    let e : (start + 1) + length bs ≡ start + suc (length bs) = omega arith in
    ap (λ (l : List IdEntry). record { id = c.id; number = start } ∷ l) (rw e at (entries-push (start + 1) bs b))

-- the entries with that of one more store
pub entries_more : (bs : List Buffer) (i : ℕ) (d : Buffer) → i < length bs → entries_from 0 (take (i + 1) bs) ≡ entries_from 0 (take i bs) ++ record { id = (get_or bs i d).id; number = i } ∷ []
entries_more bs i d within =
    let here : 0 + length (take i bs) ≡ i = omega (arith, length-take-le i bs (omega arith)) in
    rw (take_more bs i d within) (rw here at (entries-push 0 (take i bs) (get_or bs i d)))

-- a place among stores fits four bytes
pub small_place : (bs : List Buffer) (i : ℕ) → AreBuffers bs → i < length bs → i < 2 ^ 32
small_place bs i sound within = omega (arith, few_buffers bs sound)

-- stores that hold zeros are those of the layout
pub zeros_laid : (bs : List Buffer) → map buffer_of (map zeros_in bs) ≡ bs
zeros_laid [] = refl
zeros_laid (b ∷ bs) = let size : length {A = ℕ} (replicate b.size 0) ≡ b.size = length-replicate b.size 0 in rw (size, zeros_laid bs) refl
