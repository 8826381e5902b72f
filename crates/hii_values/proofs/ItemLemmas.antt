-- The items in bytes, one after the other.
use Rattle.std.proofs.Common.{◌≡◌, ◌⊎◌, ◌==◌, ℕ, zero, suc, ◌+◌, ◌-◌, ◌*◌, ◌/◌, ◌%◌, ◌<◌, ◌≤◌, true, false, cond, eqb, List, [], ◌∷◌, length, take, drop, refl, sym, ap, ◌∙◌, arith, inl, inr, length-drop, length-take}
use Rattle.std.proofs.Math.Nat.{div-add-mod', mod-lt, mul-le-mul_right, div-mul-le_self}
use Rattle.std.proofs.lemmas.Nat.{div-mul-add, div_below}
use Rattle.std.proofs.lemmas.Bool.{cases_Bool, eqb-true}
use Rattle.std.specs.List.{take_while, prefix_len}
use Rattle.byteorder.specs.Endian.{little_number}
use Rattle.ifr_opcodes.specs.Fields.{type_width}
use Rattle.hii_values.specs.Items.{numbers, numbers_in, is_item, items_in}
use Rattle.hii_values.specs.code.Widths.{is_width}

-- a width is one of four numbers
pub widths : (w : ℕ) → is_width w ≡ true → (w ≡ 1) ⊎ (w ≡ 2) ⊎ (w ≡ 4) ⊎ (w ≡ 8)
widths w h = elim (cases_Bool (eqb w 1)) [
  | inl one ↦ inl (eqb-true w 1 one)
  | inr a ↦ elim (cases_Bool (eqb w 2)) [
    | inl two ↦ inr (inl (eqb-true w 2 two))
    | inr b ↦ elim (cases_Bool (eqb w 4)) [
      | inl four ↦ inr (inr (inl (eqb-true w 4 four)))
      | inr d ↦ inr (inr (inr (eqb-true w 8 (rw (a, b, d) at h))))
    ]
  ]
]

-- a value that is a number or a Boolean has one of them
pub kind_widths : (kind : ℕ) → kind ≤ 4 → type_width kind ≡ cond (kind == 1) 2 (cond (kind == 2) 4 (cond (kind == 3) 8 1))
kind_widths zero few = refl
kind_widths (suc zero) few = refl
kind_widths (suc (suc zero)) few = refl
kind_widths (suc (suc (suc zero))) few = refl
kind_widths (suc (suc (suc (suc zero)))) few = refl
kind_widths (suc (suc (suc (suc (suc n))))) few = absurd (omega arith)

pub width_bounds : (w : ℕ) → is_width w ≡ true → (0 < w) × (w ≤ 8)
width_bounds w h = elim (widths w h) [
  | inl e ↦ (omega arith, omega arith)
  | inr (inl e) ↦ (omega arith, omega arith)
  | inr (inr (inl e)) ↦ (omega arith, omega arith)
  | inr (inr (inr e)) ↦ (omega arith, omega arith)
]

-- how many widths there are, with one more in front
quotient_more : (n w : ℕ) → 0 < w → w ≤ n → n / w ≡ suc ((n - w) / w)
quotient_more n w some h =
    let q = (n - w) / w in
    let r = (n - w) % w in
    let split : q * w + r ≡ n - w = div-add-mod' (n - w) w in
    let less : r < w = mod-lt (n - w) some in
    let whole : n ≡ (suc q) * w + r = omega arith in
    ap (λ (m : ℕ). m / w) whole ∙ div-mul-add (suc q) w r less

pub numbers_more : (w : ℕ) (bytes : List ℕ) → 0 < w → w ≤ length bytes → numbers_in w bytes ≡ little_number w bytes ∷ numbers_in w (drop w bytes)
numbers_more w bytes some h =
    ap (λ (n : ℕ). numbers n w bytes) (quotient_more (length bytes) w some h)
    ∙ ap (λ (n : ℕ). little_number w bytes ∷ numbers (n / w) w (drop w bytes)) (sym (length-drop w bytes))

pub numbers_short : (w : ℕ) (bytes : List ℕ) → length bytes < w → numbers_in w bytes ≡ []
numbers_short w bytes h =
    let few : length bytes / w < 1 = div_below (length bytes) w 1 (omega arith) (omega arith) in
    let none : length bytes / w ≡ 0 = omega arith in
    ap (λ (n : ℕ). numbers n w bytes) none

-- an item in front of others
pub while_more : (n : ℕ) (ns : List ℕ) → eqb n 0 ≡ false → take_while is_item (n ∷ ns) ≡ n ∷ take_while is_item ns
while_more n ns item =
    let one : 1 + prefix_len is_item ns ≡ suc (prefix_len is_item ns) = omega arith in
    rw item (ap (λ (k : ℕ). take k (n ∷ ns)) one)

pub items_short : (w : ℕ) (bytes : List ℕ) → length bytes < w → items_in w bytes ≡ []
items_short w bytes h = ap (take_while is_item) (numbers_short w bytes h)

pub items_end : (w : ℕ) (bytes : List ℕ) → 0 < w → w ≤ length bytes → little_number w bytes ≡ 0 → items_in w bytes ≡ []
items_end w bytes some h none =
    ap (take_while is_item) (numbers_more w bytes some h) ∙ ap (λ (n : ℕ). take_while is_item (n ∷ numbers_in w (drop w bytes))) none

pub items_more : (w n : ℕ) (bytes : List ℕ) → 0 < w → w ≤ length bytes → little_number w bytes ≡ n → eqb n 0 ≡ false → items_in w bytes ≡ n ∷ items_in w (drop w bytes)
items_more w n bytes some h is item =
    ap (take_while is_item) (numbers_more w bytes some h) ∙ ap (λ (n : ℕ). take_while is_item (n ∷ numbers_in w (drop w bytes))) is
    ∙ while_more n (numbers_in w (drop w bytes)) item

length_numbers : (n w : ℕ) (bytes : List ℕ) → length (numbers n w bytes) ≡ n
length_numbers zero w bytes = refl
length_numbers (suc n) w bytes = let rest = length_numbers n w (drop w bytes) in omega (arith, rest)

while_within : (ns : List ℕ) → length (take_while is_item ns) ≤ length ns
while_within ns = let h = length-take (prefix_len is_item ns) ns in omega (arith, h)

-- the items lie in the bytes
pub items_within : (w : ℕ) (bytes : List ℕ) → length (items_in w bytes) * w ≤ length bytes
items_within w bytes =
    let few = while_within (numbers_in w bytes) in
    let counted = length_numbers (length bytes / w) w bytes in
    let less : length (items_in w bytes) ≤ length bytes / w = omega (arith, few, counted) in
    let part : length (items_in w bytes) * w ≤ length bytes / w * w = mul-le-mul_right w less in
    let whole = div-mul-le_self (length bytes) w in
    omega (arith, part, whole)

-- up to where so many items lie, where these are left of all
pub front_more : (end left fewer w all : ℕ) → end + left * w ≡ all → left ≡ suc fewer → end + w ≤ all
front_more end left fewer w all counted more = let h = rw more at counted in grind (arith, h)

pub front_all : (end left w all : ℕ) → end + left * w ≡ all → left ≡ 0 → end ≡ all
front_all end left w all counted none = let h = rw none at counted in omega (arith, h)
