-- Stores that hold the same bytes.
use Rattle.std.proofs.Common.{◌≡◌, ℕ, suc, true, false, eqb, List, [], ◌∷◌, length, map, Option, Some, None, option_map, refl, sym, ap, subst, arith, inl, inr}
use Rattle.std.specs.List.{AllByRecursion, IsDistinct, find, slice_get}
use Rattle.std.specs.Prelude.{nat_eq}
use Rattle.std.specs.Option.{option_and_then}
use Rattle.std.proofs.lemmas.Bool.{cases_Bool, eqb-true, eq-eqb, ne_eqb, eqb-false}
use Rattle.hii_varstore.specs.Stores.{Store, StoreMap, buffer_of, shape_of, byte_of}
use Rattle.hii_varstore.specs.code.Table.{AreBuffers}
use Rattle.hii_varstore.specs.declared.buffer.Buffer.{Buffer}

-- lists of one length with the same elements
same_elements : (xs ys : List ℕ) → length xs ≡ length ys → ((at : ℕ) → slice_get xs at ≡ slice_get ys at) → xs ≡ ys
same_elements [] [] size same = refl
same_elements [] (y ∷ ys) size same = absurd (omega (arith, size))
same_elements (x ∷ xs) [] size same = absurd (omega (arith, size))
same_elements (x ∷ xs) (y ∷ ys) size same =
    let e : Some x ≡ Some y = same 0 in
    let first : x ≡ y = cc in
    let rest = same_elements xs ys (omega (arith, size)) (λ at. same (suc at)) in
    rw (first, rest) refl

-- the bytes of the store of an id
abbrev bytes_in : List Store → ℕ → Option (List ℕ)
bytes_in ss id = option_map (λ (s : Store). s.bytes) (find (λ s. eqb s.id id) ss)

abbrev byte_in : List Store → ℕ → ℕ → Option ℕ
byte_in ss id at = option_and_then (λ bytes. slice_get bytes at) (bytes_in ss id)

-- no store has the id
none_has : (ss : List Store) (id : ℕ) → AllByRecursion (λ k. nat_eq id k ≡ false) (map (λ (b : Buffer). b.id) (map buffer_of ss)) → bytes_in ss id ≡ None
none_has [] id apart = refl
none_has (s ∷ ss) id apart =
    let other : eqb s.id id ≡ false = ne_eqb s.id id (λ e. eqb-false id s.id apart.0 (sym e)) in
    rw other (none_has ss id apart.1)

-- stores in one order, with one id each
same_in : (ss ts : List Store) → map buffer_of ss ≡ map buffer_of ts → IsDistinct nat_eq (map (λ (b : Buffer). b.id) (map buffer_of ss))
    → ((id at : ℕ) → byte_in ss id at ≡ byte_in ts id at) → ss ≡ ts
unfolding IsDistinct
same_in [] [] laid apart same = refl
same_in [] (t ∷ ts) laid apart same = let bad : ◌≡◌ {A = List Buffer} [] (buffer_of t ∷ map buffer_of ts) = laid in (cc)
same_in (s ∷ ss) [] laid apart same = let bad : ◌≡◌ {A = List Buffer} (buffer_of s ∷ map buffer_of ss) [] = laid in (cc)
same_in (s ∷ ss) (t ∷ ts) laid apart same =
    let all : buffer_of s ∷ map buffer_of ss ≡ buffer_of t ∷ map buffer_of ts = laid in
    let one : buffer_of s ≡ buffer_of t = cc in
    let others : map buffer_of ss ≡ map buffer_of ts = cc in
    let id : s.id ≡ t.id = ap (λ (b : Buffer). b.id) one in
    let size : length s.bytes ≡ length t.bytes = ap (λ (b : Buffer). b.size) one in
    let here : eqb s.id s.id ≡ true = eq-eqb s.id s.id refl in
    let there : eqb t.id s.id ≡ true = eq-eqb t.id s.id (sym id) in
    let bytes : s.bytes ≡ t.bytes = same_elements s.bytes t.bytes size (λ at. rw (here, there) at (same s.id at)) in
    let tail : ss ≡ ts = same_in ss ts others apart.1 (λ other at. elim (cases_Bool (eqb s.id other)) [
      | inl is ↦
          let e : s.id ≡ other = eqb-true s.id other is in
          let mine : bytes_in ss other ≡ None = subst (λ k. bytes_in ss k ≡ None) e (none_has ss s.id apart.0) in
          let apart_too : AllByRecursion (λ k. nat_eq s.id k ≡ false) (map (λ (b : Buffer). b.id) (map buffer_of ts)) = subst (λ (bs : List Buffer). AllByRecursion (λ k. nat_eq s.id k ≡ false) (map (λ (b : Buffer). b.id) bs)) others apart.0 in
          let theirs : bytes_in ts other ≡ None = subst (λ k. bytes_in ts k ≡ None) e (none_has ts s.id apart_too) in
          rw (mine, theirs) refl
      | inr is ↦
          let mine : eqb s.id other ≡ false = is in
          let theirs : eqb t.id other ≡ false = subst (λ k. eqb k other ≡ false) id is in
          rw (mine, theirs) at (same other at)
    ]) in
    let store : s ≡ t = rw (id, bytes) refl in
    rw (store, tail) refl

-- two maps of one form, whose stores have one id each, that hold the same bytes
pub same_stores : (a b : StoreMap) → shape_of a ≡ shape_of b → AreBuffers (shape_of a).buffers → ((id at : ℕ) → byte_of a id at ≡ byte_of b id at) → a ≡ b
unfolding IsDistinct
same_stores a b shape sound same =
    let guid : a.guid ≡ b.guid = ap (λ x. x.guid) shape in
    let stores : a.stores ≡ b.stores = same_in a.stores b.stores (ap (λ x. x.buffers) shape) sound.apart.1 same in
    rw (guid, stores) refl
