-- Bytes in which stores differ.
use Rattle.std.proofs.Common.{◌&&◌, nat_le, nat_lt, ◌⊎◌, ◌≡◌, ℕ, zero, suc, ◌+◌, ◌<◌, ◌≤◌, ◌==◌, ◌||◌, not, Bool, true, false, Option, Some, None, List, length, get_or, refl, sym, ap, ◌∙◌, inl, inr, arith, ◌-◌, length-append, subst}
use Rattle.std.proofs.lemmas.List.{length-replicate}
use Rattle.std.specs.Prelude.{replicate, slice_get, option_map, option_and_then}
use Rattle.std.proofs.lemmas.Bool.{cases_Bool, cases_lt, ne_eqb, eq-eqb, eqb-true, false≢true, le-leb, lt-ltb}
use Rattle.std.proofs.lemmas.Option.{slice_get-get_or, slice_get_cases}
use Rattle.hii_varstore.specs.Layout.{Shape, size_of}
use Rattle.hii_varstore.specs.Stores.{StoreMap, shape_of, bytes_of, byte_of, with_bytes}
use Rattle.hii_varstore.proofs.WriteLemmas.{sizes, byte_after, shape_after}
use Rattle.hii_values.specs.Items.{filled}
use Rattle.kept_conditions.specs.code.Invalidation.{other_at}
use Rattle.kept_conditions.specs.Touching.{has_one, is_same, difference, range_of}
use Rattle.kept_conditions.specs.laws.Writes.{IsWrite, PutsAreWrites}

pub none_one : (bytes : ℕ → ℕ → Bool) (store width offset : ℕ) → ((at : ℕ) → offset ≤ at → at < offset + width → bytes store at ≡ false) → has_one bytes store offset width ≡ false
none_one bytes store zero offset none = refl
none_one bytes store (suc width) offset none =
    ap (λ b. b || has_one bytes store (offset + 1) width) (none offset (omega arith) (omega arith))
    ∙ none_one bytes store width (offset + 1) (λ at from before. none at (omega (arith, from)) (omega (arith, before)))

-- the bytes at an offset inside of both
pub equal_at : (old new : List ℕ) (at : ℕ) → at < length old → at < length new → get_or old at 0 ≡ get_or new at 0 → other_at old new 0 at ≡ false
equal_at old new at within within' e =
    ap (λ o. not (is_same o (slice_get new at))) (slice_get-get_or old at 0 within) ∙ ap (λ o. not (is_same (Some (get_or old at 0)) o)) (slice_get-get_or new at 0 within')
    ∙ ap (λ b. not b) (eq-eqb (get_or old at 0) (get_or new at 0) e)

pub unequal_at : (old new : List ℕ) (at : ℕ) → at < length old → at < length new → (get_or old at 0 ≡ get_or new at 0 → ⊥) → other_at old new 0 at ≡ true
unequal_at old new at within within' e =
    ap (λ o. not (is_same o (slice_get new at))) (slice_get-get_or old at 0 within) ∙ ap (λ o. not (is_same (Some (get_or old at 0)) o)) (slice_get-get_or new at 0 within')
    ∙ ap (λ b. not b) (ne_eqb (get_or old at 0) (get_or new at 0) e)

-- behind both there are none
none_at : (xs : List ℕ) (at : ℕ) → length xs ≤ at → slice_get xs at ≡ None
none_at xs at behind = let cases = slice_get_cases xs at in elim cases.1 [
  | inl found ↦ absurd (omega (arith, found.1, behind))
  | inr none ↦ none.1
]

pub equal_behind : (old new : List ℕ) (at : ℕ) → length old ≤ at → length new ≤ at → other_at old new 0 at ≡ false
equal_behind old new at behind behind' =
    ap (λ o. not (is_same o (slice_get new at))) (none_at old at behind) ∙ ap (λ o. not (is_same None o)) (none_at new at behind')

-- ---- stores

module _ (old new : StoreMap) (shape : shape_of old ≡ shape_of new) (store : ℕ) where
  same_size : option_map (λ (bytes : List ℕ). length bytes) (bytes_of old store) ≡ option_map (λ (bytes : List ℕ). length bytes) (bytes_of new store)
  same_size = sym (sizes old store) ∙ ap (λ (s : Shape). size_of s store) shape ∙ sizes new store

  pub one_size : (xs ys : List ℕ) → Some xs ≡ bytes_of old store → Some ys ≡ bytes_of new store → length xs ≡ length ys
  one_size xs ys e f =
      let all : Some (length xs) ≡ Some (length ys) = ap (option_map (λ (bytes : List ℕ). length bytes)) e ∙ same_size ∙ sym (ap (option_map (λ (bytes : List ℕ). length bytes)) f) in
      cc

  neither : (o p : Option (List ℕ)) → option_map (λ (bytes : List ℕ). length bytes) o ≡ option_map (λ (bytes : List ℕ). length bytes) p → (o ≡ None) ⊎ (p ≡ None) → (o ≡ None) × (p ≡ None)
  neither None None e h = (refl, refl)
  neither None (Some ys) e h = absurd cc
  neither (Some xs) None e h = absurd cc
  neither (Some xs) (Some ys) e (inl h) = absurd cc
  neither (Some xs) (Some ys) e (inr h) = absurd cc

  pub nowhere : (bytes_of old store ≡ None) ⊎ (bytes_of new store ≡ None) → (at : ℕ) → difference old new store at ≡ false
  nowhere h at =
      let none = neither (bytes_of old store) (bytes_of new store) same_size h in
      ap (λ (o : Option (List ℕ)). not (is_same (option_and_then (λ (bytes : List ℕ). slice_get bytes at) o) (option_and_then (λ (bytes : List ℕ). slice_get bytes at) (bytes_of new store)))) none.0
      ∙ ap (λ (o : Option (List ℕ)). not (is_same None (option_and_then (λ (bytes : List ℕ). slice_get bytes at) o))) none.1

  pub none_differ : (offset width : ℕ) → (bytes_of old store ≡ None) ⊎ (bytes_of new store ≡ None) → has_one (difference old new) store offset width ≡ false
  none_differ offset width h = none_one (difference old new) store width offset (λ at from before. nowhere h at)

-- the bytes of a store in both, at an offset
pub difference_at : (old new : StoreMap) (store : ℕ) (xs ys : List ℕ) → Some xs ≡ bytes_of old store → Some ys ≡ bytes_of new store → (at : ℕ) → other_at xs ys 0 at ≡ difference old new store at
difference_at old new store xs ys e f at =
    ap (λ (o : Option (List ℕ)). not (is_same (option_and_then (λ (b : List ℕ). slice_get b at) o) (slice_get ys at))) e
    ∙ ap (λ (o : Option (List ℕ)). not (is_same (option_and_then (λ (b : List ℕ). slice_get b at) (bytes_of old store)) (option_and_then (λ (b : List ℕ). slice_get b at) o))) f

-- ---- a change of stores is a write of the bytes in which they differ

same_from : (o p : Option ℕ) → not (is_same o p) ≡ false → p ≡ o
same_from None None e = refl
same_from None (Some y) e = absurd cc
same_from (Some x) None e = absurd cc
same_from (Some x) (Some y) e = elim (cases_Bool (x == y)) [
  | inl same ↦ ap Some (sym (eqb-true x y same))
  | inr other ↦ let bad : true ≡ false = sym (ap (λ b. not b) other) ∙ e in absurd cc
]

pub differing : (old new : StoreMap) → shape_of old ≡ shape_of new → IsWrite (difference old new) old new
differing old new shape = record { shape = sym shape; others = λ store at e. same_from (byte_of old store at) (byte_of new store at) e }

-- ---- a put of bytes is a write of as many bytes

outside : (store offset width s at : ℕ) → range_of store offset width s at ≡ false → s ≡ store → (at < offset) ⊎ (offset + width ≤ at)
outside store offset width s at e same = elim (cases_lt at offset) [
  | inl before ↦ inl before
  | inr from ↦ elim (cases_lt at (offset + width)) [
    | inl inside ↦
        let in' : range_of store offset width s at ≡ true =
        ap (λ (b : Bool). b && (nat_le offset at && nat_lt at (offset + width))) (eq-eqb s store same)
        ∙ ap (λ (b : Bool). b && nat_lt at (offset + width)) (le-leb offset at from) ∙ lt-ltb at (offset + width) inside in
        absurd (false≢true (sym e ∙ in'))
    | inr behind ↦ inr behind
  ]
]

pub put : PutsAreWrites
put m store offset bytes = record {
  shape = shape_after m store offset bytes;
  others = λ s at e. byte_after m store offset s at bytes (outside store offset (length bytes) s at e);
}

-- the same, where bytes are filled up with zeros
pub filled_wide : (size : ℕ) (bytes : List ℕ) → length bytes ≤ size → length (filled size bytes) ≡ size
filled_wide size bytes few = length-append bytes (replicate (size - length bytes) 0) ∙ ap (λ n. length bytes + n) (length-replicate (size - length bytes) 0) ∙ omega (arith, few)

pub put_filled : (m : StoreMap) (store offset size : ℕ) (bytes : List ℕ) → length bytes ≤ size → IsWrite (range_of store offset size) m (with_bytes m store offset (filled size bytes))
put_filled m store offset size bytes few =
    subst (λ n. IsWrite (range_of store offset n) m (with_bytes m store offset (filled size bytes))) (filled_wide size bytes few) (put m store offset (filled size bytes))
