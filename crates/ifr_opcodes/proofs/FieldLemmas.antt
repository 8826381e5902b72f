-- Fields of an opcode are numbers of the bytes behind its header.
use Rattle.std.proofs.Common.{◌≡◌, ℕ, ◌+◌, ◌-◌, ◌≤◌, min, Bool, true, false, cond, ltb, Some, None, List, ◌∷◌, length, get_or, take, drop, refl, sym, ap, ◌∙◌, arith, add-zero}
use Rattle.std.specs.Prelude.{slice_range}
use Rattle.std.specs.List.{position, position_or_len, before_first}
use Rattle.std.proofs.Math.Seq.{take-length}
use Rattle.std.proofs.lemmas.List.{drop-drop, get_or-drop, take_min}
use Rattle.std.proofs.lemmas.Bool.{ltb-false}
use Rattle.hii_bytes.specs.Numbers.{number_in}
use Rattle.hii_bytes.proofs.NumberLemmas.{number_in-drop}
use Rattle.ifr_opcodes.specs.Fields.{is_nul}

pub number_behind : (code sized : ℕ) (body : List ℕ) (at width : ℕ) → 2 ≤ at → number_in body (at - 2) width ≡ number_in (code ∷ sized ∷ body) at width
number_behind code sized body at width two =
    let same : 2 + (at - 2) ≡ at = omega arith in
    number_in-drop (code ∷ sized ∷ body) 2 (at - 2) width ∙ ap (λ k. number_in (code ∷ sized ∷ body) k width) same

pub range_behind : (code sized : ℕ) (body : List ℕ) (at n : ℕ) → 2 ≤ at → slice_range body (at - 2) (at - 2 + n) ≡ slice_range (code ∷ sized ∷ body) at (at + n)
range_behind code sized body at n two =
    let same : 2 + (at - 2) ≡ at = omega arith in
    let front : at - 2 + n - (at - 2) ≡ n = omega arith in
    let back : at + n - at ≡ n = omega arith in
    let whole = code ∷ sized ∷ body in
    rw (front, back) (ap (take n) (drop-drop (at - 2) 2 whole ∙ ap (λ k. drop k whole) same))

pub number_of_byte : (bytes : List ℕ) (at : ℕ) → get_or bytes at 0 ≡ number_in bytes at 1
unfolding number_in
number_of_byte bytes at =
    let here : get_or (drop at bytes) 0 0 ≡ get_or bytes at 0 = get_or-drop at bytes 0 0 ∙ ap (λ k. get_or bytes k 0) (add-zero at) in
    omega arith

pub taken_to_nul : (bytes : List ℕ) (len : ℕ) → position is_nul bytes ≡ Some len → take len bytes ≡ before_first is_nul bytes
taken_to_nul bytes len e = go (ltb (position_or_len is_nul bytes) (length bytes)) e
  where
    go : (b : Bool) → cond b (Some (position_or_len is_nul bytes)) None ≡ Some len → take len bytes ≡ before_first is_nul bytes
    go true e = let same : position_or_len is_nul bytes ≡ len = cc in ap (λ n. take n bytes) (sym same)
    go false e = absurd cc

pub taken_without_nul : (bytes : List ℕ) → position is_nul bytes ≡ None → bytes ≡ before_first is_nul bytes
taken_without_nul bytes e = go (ltb (position_or_len is_nul bytes) (length bytes)) refl e
  where
    go : (b : Bool) → ltb (position_or_len is_nul bytes) (length bytes) ≡ b → cond b (Some (position_or_len is_nul bytes)) None ≡ None → bytes ≡ before_first is_nul bytes
    go true h e = absurd cc
    go false h e =
        let past : length bytes ≤ position_or_len is_nul bytes = ltb-false (position_or_len is_nul bytes) (length bytes) h in
        let all : length bytes ≡ min (position_or_len is_nul bytes) (length bytes) = omega arith in
        sym (take-length bytes) ∙ ap (λ n. take n bytes) all ∙ take_min (position_or_len is_nul bytes) bytes
