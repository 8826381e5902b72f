-- What the place of an id tells of the stores.
use Rattle.std.proofs.Common.{◌≡◌, ◌++◌, take, drop, add-one, ℕ, zero, suc, ◌+◌, ◌<◌, ◌≤◌, true, false, eqb, nat_eq, cond, ◌^◌, List, [], ◌∷◌, length, map, get_or, set, slice_range, Option, Some, None, option_map, refl, sym, ap, ◌∙◌, subst, arith, rules, inl, inr}
use Rattle.std.specs.List.{AllByRecursion, IsDistinct, find, position_from}
use Rattle.std.specs.Option.{IsSomeAnd, IsSome}
use Rattle.std.proofs.lemmas.Bool.{cases_Bool, eqb-true, eqb-false, ne_eqb}
use Rattle.hii_varstore.specs.declared.buffer.Buffer.{Buffer}
use Rattle.hii_varstore.specs.Stores.{Store, StoreMap, buffer_of, overwritten, store_with, with_bytes}
use Rattle.hii_varstore.specs.code.Table.{AreStores, place_of}
use Rattle.hii_varstore.proofs.TableLemmas.{few_of}
use Rattle.std.proofs.lemmas.List.{get_or-map, length-map, places, same_lists}

-- the store of the id is the one at this place, and no earlier one
abbrev pub IsAt : List Buffer → ℕ → ℕ → Type 0
IsAt [] id i = ⊥
IsAt (b ∷ bs) id zero = eqb b.id id ≡ true
IsAt (b ∷ bs) id (suc i) = (eqb b.id id ≡ false) × IsAt bs id i

at_from : (start : ℕ) (bs : List Buffer) (id p : ℕ) → position_from (λ b. eqb b.id id) start bs ≡ Some p → (i : ℕ) × (p ≡ start + i) × IsAt bs id i
at_from start [] id p told = cc
at_from start (b ∷ bs) id p told =
    elim (cases_Bool (eqb b.id id)) [
      | inl same ↦ let e : start ≡ p = cc (rw same at told) in (0, omega (arith, e), same)
      | inr other ↦ let rest = at_from (start + 1) bs id p (rw other at told) in (suc rest.0, omega (arith, rest.1), (other, rest.2))
    ]

pub at_place : (bs : List Buffer) (id p : ℕ) → place_of bs id ≡ Some p → IsAt bs id p
at_place bs id p told = let h = at_from 0 bs id p told in let e : h.0 ≡ p = omega (arith, h.1) in rw e at h.2

pub at_within : (bs : List Buffer) (id i : ℕ) → IsAt bs id i → i < length bs
at_within [] id i h = absurd h
at_within (b ∷ bs) id zero h = omega arith
at_within (b ∷ bs) id (suc i) h = omega (arith, at_within bs id i h.1)

-- the store that the index finds
pub found_buffer : (bs : List Buffer) (id i : ℕ) (d : Buffer) → IsAt bs id i → find (λ (b : Buffer). eqb b.id id) bs ≡ Some (get_or bs i d)
found_buffer [] id i d h = absurd h
found_buffer (b ∷ bs) id zero d h = rw h refl
found_buffer (b ∷ bs) id (suc i) d h = rw h.0 (found_buffer bs id i d h.1)

pub no_buffer : (start : ℕ) (bs : List Buffer) (id : ℕ) → position_from (λ (b : Buffer). eqb b.id id) start bs ≡ None → find (λ (b : Buffer). eqb b.id id) bs ≡ None
no_buffer start [] id told = refl
no_buffer start (b ∷ bs) id told =
    elim (cases_Bool (eqb b.id id)) [ inl same ↦ let bad = rw same at told in cc | inr other ↦ rw other (no_buffer (start + 1) bs id (rw other at told)) ]

-- the bytes that the index finds
pub found_bytes : (ss : List Store) (id i : ℕ) (d : Store) → IsAt (map buffer_of ss) id i → option_map (λ (s : Store). s.bytes) (find (λ s. eqb s.id id) ss) ≡ Some (get_or ss i d).bytes
found_bytes [] id i d h = absurd h
found_bytes (s ∷ ss) id zero d h = rw h refl
found_bytes (s ∷ ss) id (suc i) d h = rw h.0 (found_bytes ss id i d h.1)

pub no_bytes : (start : ℕ) (ss : List Store) (id : ℕ) → position_from (λ (b : Buffer). eqb b.id id) start (map buffer_of ss) ≡ None → option_map (λ (s : Store). s.bytes) (find (λ s. eqb s.id id) ss) ≡ None
no_bytes start [] id told = refl
no_bytes start (s ∷ ss) id told =
    elim (cases_Bool (eqb s.id id)) [ inl same ↦ let bad = rw same at told in cc | inr other ↦ rw other (no_bytes (start + 1) ss id (rw other at told)) ]

-- no store of the list has the id
unwritten : (ss : List Store) (id offset : ℕ) (new : List ℕ) → AllByRecursion (λ k. nat_eq id k ≡ false) (map (λ (b : Buffer). b.id) (map buffer_of ss)) → map (λ (s : Store). cond (eqb s.id id) (store_with s offset new) s) ss ≡ ss
unwritten [] id offset new apart = refl
unwritten (s ∷ ss) id offset new apart =
    let other : eqb s.id id ≡ false = ne_eqb s.id id (λ e. eqb-false id s.id apart.0 (sym e)) in
    rw (other, unwritten ss id offset new apart.1) refl

-- a write to the store at its place
written : (ss : List Store) (id i offset : ℕ) (new : List ℕ) (d : Store) → IsDistinct nat_eq (map (λ (b : Buffer). b.id) (map buffer_of ss)) → IsAt (map buffer_of ss) id i → set ss i (store_with (get_or ss i d) offset new) ≡ map (λ (s : Store). cond (eqb s.id id) (store_with s offset new) s) ss
unfolding IsDistinct
written [] id i offset new d apart h = absurd h
written (s ∷ ss) id zero offset new d apart h =
    let none = rw (eqb-true s.id id h) at apart.0 in
    rw (h, unwritten ss id offset new none) refl
written (s ∷ ss) id (suc i) offset new d apart h =
    let rest = written ss id i offset new d apart.1 h.1 in
    rw (h.0, rest) refl

-- the index knows a store that has a range
pub range_is_some : (bs : List Buffer) (id offset width : ℕ) (o : Option ℕ) → o ≡ place_of bs id → IsSomeAnd (option_map (λ (b : Buffer). b.size) (find (λ b. eqb b.id id) bs)) (λ size. offset + width ≤ size) → IsSome o
range_is_some bs id offset width None told range = absurd (rw (no_buffer 0 bs id (sym told)) at range)
range_is_some bs id offset width (Some p) told range = refl

-- the range lies in the store
pub range_within : (ss : List Store) (id offset width i : ℕ) (d : Store) → IsAt (map buffer_of ss) id i → IsSomeAnd (option_map (λ (b : Buffer). b.size) (find (λ b. eqb b.id id) (map buffer_of ss))) (λ size. offset + width ≤ size) → offset + width ≤ length (get_or ss i d).bytes
range_within ss id offset width i d h range =
    let within : i < length ss = omega (arith, at_within (map buffer_of ss) id i h, length-map ss buffer_of) in
    let found : find (λ (b : Buffer). eqb b.id id) (map buffer_of ss) ≡ Some (buffer_of (get_or ss i d)) = found_buffer (map buffer_of ss) id i (buffer_of d) h ∙ ap Some (get_or-map buffer_of ss i d (buffer_of d) within) in
    rw found at range

-- the stores of a table are few
pub few_stores : (bs : List Buffer) (ss : List Store) → AreStores bs ss → length ss < 2 ^ 16
few_stores bs ss held = omega (arith, few_of bs bs refl held.sound, ap length held.laid, length-map ss buffer_of)

-- the index finds a store
pub store_at : (bs : List Buffer) (ss : List Store) (id i : ℕ) → AreStores bs ss → place_of bs id ≡ Some i → IsAt (map buffer_of ss) id i
store_at bs ss id i held told = rw (← held.laid) at (at_place bs id i told)

-- a place that the index finds is one of the stores
pub place_within : (ss : List Store) (id i : ℕ) → IsAt (map buffer_of ss) id i → i < length ss
place_within ss id i h = omega (arith, at_within (map buffer_of ss) id i h, length-map ss buffer_of)

-- a write keeps the number of bytes
pub length-overwritten : (old : List ℕ) (offset : ℕ) (new : List ℕ) → length (overwritten old offset new) ≡ length old
length-overwritten old offset new = search (rules, places)

-- a store of the same id and size in the place of another
same_laid : (ss : List Store) (i : ℕ) (d x : Store) → buffer_of x ≡ buffer_of (get_or ss i d) → map buffer_of (set ss i x) ≡ map buffer_of ss
same_laid [] i d x same = refl
same_laid (s ∷ ss) zero d x same = rw same refl
same_laid (s ∷ ss) (suc i) d x same = rw (same_laid ss i d x same) refl

-- a write keeps the stores those of the table
pub kept_laid : (bs : List Buffer) (ss : List Store) (i offset : ℕ) (new : List ℕ) (d : Store) → AreStores bs ss → d ≡ get_or ss i d → AreStores bs (set ss i (store_with d offset new))
kept_laid bs ss i offset new d held read =
    let size = length-overwritten d.bytes offset new in
    let same : buffer_of (store_with d offset new) ≡ buffer_of (get_or ss i d) = rw (← read, size) refl in
    record { sound = held.sound; laid = same_laid ss i d (store_with d offset new) same ∙ held.laid }

-- the stores after a write to the one at its place
pub put_is : (guid : List ℕ) (bs : List Buffer) (ss : List Store) (id i offset : ℕ) (new : List ℕ) (d : Store) → AreStores bs ss → IsAt (map buffer_of ss) id i → d ≡ get_or ss i d → record { guid = guid; stores = set ss i (store_with d offset new) } ≡ with_bytes record { guid = guid; stores = ss } id offset new
unfolding with_bytes IsDistinct
put_is guid bs ss id i offset new d held here read =
    let apart = (rw (← held.laid) at held.sound.apart).1 in
    let changed : set ss i (store_with d offset new) ≡ set ss i (store_with (get_or ss i d) offset new) = ap (λ (s : Store). set ss i (store_with s offset new)) read in
    ap (λ (stores : List Store). record { guid = guid; stores = stores }) (changed ∙ written ss id i offset new d apart here)

-- bytes whose range was written anew, with that range as it was
given_bytes : (old new : List ℕ) (offset width : ℕ) → offset + width ≤ length old → length new ≡ width → overwritten (overwritten old offset new) offset (slice_range old offset (offset + width)) ≡ old
given_bytes old new offset width within size = same_lists _ _ (search (rules, places)) (λ k d h. grind (arith, places))

given_in : (ss : List Store) (id i offset : ℕ) (new old : List ℕ) (d : Store) → IsDistinct nat_eq (map (λ (b : Buffer). b.id) (map buffer_of ss)) → IsAt (map buffer_of ss) id i
    → overwritten (overwritten (get_or ss i d).bytes offset new) offset old ≡ (get_or ss i d).bytes → map (λ (s : Store). cond (eqb s.id id) (store_with s offset old) s) (map (λ (s : Store). cond (eqb s.id id) (store_with s offset new) s) ss) ≡ ss
unfolding IsDistinct
given_in [] id i offset new old d apart h given = absurd h
given_in (s ∷ ss) id zero offset new old d apart h given =
    let none = rw (eqb-true s.id id h) at apart.0 in
    rw (h, h, unwritten ss id offset new none, unwritten ss id offset old none, given) refl
given_in (s ∷ ss) id (suc i) offset new old d apart h given = rw (h.0, h.0, given_in ss id i offset new old d apart.1 h.1 given) refl

-- stores of which a range was written anew, with that range as it was
pub given_back : (m now : StoreMap) (bs : List Buffer) (id i offset width : ℕ) (new : List ℕ) (d : Store) → AreStores bs m.stores → IsAt (map buffer_of m.stores) id i → d ≡ get_or m.stores i d → offset + width ≤ length d.bytes → length new ≡ width
    → now ≡ with_bytes m id offset new → with_bytes now id offset (slice_range d.bytes offset (offset + width)) ≡ m
unfolding with_bytes IsDistinct
given_back m now bs id i offset width new d held here read within size anew =
    let apart = (rw (← held.laid) at held.sound.apart).1 in
    let old = slice_range d.bytes offset (offset + width) in
    let given = subst (λ (s : Store). overwritten (overwritten s.bytes offset new) offset old ≡ s.bytes) read (given_bytes d.bytes new offset width within size) in
    rw anew (ap (λ (stores : List Store). record { guid = m.guid; stores = stores }) (given_in m.stores id i offset new old d apart here given))

-- one more store that is copied
copied : (ss ts : List Store) (i : ℕ) (d : Store) → i < length ss → i < length ts → set (take i ts ++ drop i ss) i (get_or ts i d) ≡ take (suc i) ts ++ drop (suc i) ss
copied [] ts i d within within' = absurd (omega arith)
copied (s ∷ ss) [] i d within within' = absurd (omega arith)
copied (s ∷ ss) (t ∷ ts) zero d within within' = refl
copied (s ∷ ss) (t ∷ ts) (suc i) d within within' = rw (copied ss ts i d (omega arith) (omega arith)) refl

pub copy_more : (ss ts now : List Store) (i : ℕ) (x : Store) → i < length ss → map buffer_of ss ≡ map buffer_of ts → now ≡ take i ts ++ drop i ss → x ≡ get_or ts i x → set now i x ≡ take (i + 1) ts ++ drop (i + 1) ss
copy_more ss ts now i x within same so_far read =
    let long : i < length ts = omega (arith, ap length same, length-map ss buffer_of, length-map ts buffer_of) in
    let changed = copied ss ts i x within long in
    rw (so_far, add-one) (rw (← read) at changed)

-- the store that is copied is of the same id and size
same_at : (ss ts : List Store) (i : ℕ) (d e : Store) → i < length ss → map buffer_of ss ≡ map buffer_of ts → buffer_of (get_or (take i ts ++ drop i ss) i d) ≡ buffer_of (get_or ts i e)
same_at [] ts i d e within same = absurd (omega arith)
same_at (s ∷ ss) [] i d e within same = cc
same_at (s ∷ ss) (t ∷ ts) zero d e within same = cc
same_at (s ∷ ss) (t ∷ ts) (suc i) d e within same = let rest : map buffer_of ss ≡ map buffer_of ts = cc in same_at ss ts i d e (omega arith) rest

pub copy_same : (ss ts now : List Store) (i : ℕ) (x y : Store) → i < length ss → map buffer_of ss ≡ map buffer_of ts → now ≡ take i ts ++ drop i ss → y ≡ get_or ts i y → buffer_of (get_or now i x) ≡ buffer_of y
copy_same ss ts now i x y within same so_far read =
    let e = same_at ss ts i x y within same in
    rw so_far (rw (← read) at e)
