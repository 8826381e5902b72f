-- The bytes of a field that lies in its store.
use Rattle.std.proofs.Common.{◌≡◌, ◌∙◌, ◌+◌, ◌-◌, ◌≤◌, ℕ, false, true, List, Option, None, Some, IsSomeAnd, arith, drop, length, length-drop, option_map, slice_range, sym}
use Rattle.std.proofs.lemmas.Bool.{eq-eqb}
use Rattle.std.proofs.lemmas.List.{length-take}
use Rattle.hii_varstore.specs.Stores.{StoreMap, bytes_of, bytes_of_field, shape_of}
use Rattle.hii_varstore.specs.code.Ranges.{HasRange, IsCut}
use Rattle.hii_varstore.proofs.WriteLemmas.{sizes}

uncut : (o : Option (List ℕ)) (offset width : ℕ) → IsSomeAnd (option_map (λ (bytes : List ℕ). length bytes) o) (λ size. offset + width ≤ size)
    → IsCut width (option_map (λ bytes. slice_range bytes offset (offset + width)) o) → ⊥
uncut None offset width range cut = range
uncut (Some bytes) offset width range cut =
    let whole : length (slice_range bytes offset (offset + width)) ≡ width = omega (arith, range, length-take (offset + width - offset) (drop offset bytes), length-drop offset bytes) in
    let bad : true ≡ false = sym (eq-eqb (length (slice_range bytes offset (offset + width))) width whole) ∙ cut in
    cc

-- they are there, and all of them
pub whole_range : (m : StoreMap) (id offset width : ℕ) → HasRange (shape_of m) id offset width → IsCut width (bytes_of_field m id offset width) → ⊥
whole_range m id offset width range = uncut (bytes_of m id) offset width (rw (sizes m id) at range)
