-- Blocks that are laid over bytes.
use Rattle.std.proofs.Common.{◌≡◌, ◌≤◌, ◌+◌, ◌-◌, ◌*◌, ℕ, suc, List, [], ◌∷◌, ◌++◌, ◌^◌, ◌<◌, ◌/◌, ◌%◌, eq-eqb, length, take, drop, Option, Some, None, option_map, refl, sym, ap, ◌∙◌, arith, append_assoc}
use Rattle.std.proofs.lemmas.List.{take-append-drop}
use Rattle.std.proofs.lemmas.Slice.{take-put_mid, drop-put_mid}
use borrow.Rule.Slice.PartMut.{put_mid}
use Rattle.hii_bytes.specs.Digits.{number_below}
use Rattle.hii_bytes.proofs.DigitLemmas.{number_below-is}
use Rattle.std.proofs.lemmas.Int.Digits.{digits_value-lt}
use Rattle.std.proofs.lemmas.Bool.{cond-true}
use Rattle.std.proofs.Math.Nat.{pow-le-pow_right, suc-mul}
use Rattle.std.specs.Str.Parse.{digits_value}
use Rattle.exported_config.specs.Exported.{groups, numbers}

-- a part of a list that is written anew
pub put_mid_is : {X : Type 0} (at width : ℕ) (xs ys : List X) → at ≤ length xs → length ys ≡ width → put_mid at width xs ys ≡ take at xs ++ (ys ++ drop (at + width) xs)
put_mid_is at width xs ys inside size =
    let n = at + width in
    let front : take n (put_mid at width xs ys) ≡ take at xs ++ ys = take-put_mid at width xs ys n (omega (arith, size)) inside in
    let back : drop n (put_mid at width xs ys) ≡ drop n xs = drop-put_mid at width xs ys n (omega arith) inside size in
    sym (take-append-drop n (put_mid at width xs ys)) ∙ rw (front, back) (append_assoc (take at xs) ys (drop n xs))

-- a number behind those so far, and behind it those that are left
pub one_more : (so_far : List ℕ) (left next size : ℕ) (rest : List ℕ) (n : ℕ) → left ≡ suc next → number_below (2 ^ 64) 16 size (take size rest) ≡ Some n
    → option_map (λ ns. so_far ++ ns) (numbers left size rest) ≡ option_map (λ ns. (so_far ++ (n ∷ [])) ++ ns) (numbers next size (drop size rest))
one_more so_far left next size rest n more is = rw more (rw is (go (numbers next size (drop size rest))))
  where
    go : (o : Option (List ℕ)) → option_map (λ ns. so_far ++ ns) (option_map (λ ns. n ∷ ns) o) ≡ option_map (λ ns. (so_far ++ (n ∷ [])) ++ ns) o
    go None = refl
    go (Some ns) = ap Some (sym (append_assoc so_far (n ∷ []) ns))

-- a group that is no number
pub no_more : (so_far : List ℕ) (left next size : ℕ) (rest : List ℕ) → left ≡ suc next → number_below (2 ^ 64) 16 size (take size rest) ≡ None
    → option_map (λ ns. so_far ++ ns) (numbers left size rest) ≡ None
no_more so_far left next size rest more is = rw more (rw is refl)

-- a text of whole groups
pub whole_groups : (size : ℕ) (text : List ℕ) → length text % size ≡ 0 → groups size text ≡ numbers (length text / size) size text
whole_groups size text whole = cond-true _ _ None (eq-eqb _ _ whole)

-- a number of four digits at most
pub four_digits : (size : ℕ) (text : List ℕ) (n : ℕ) → size ≤ 4 → number_below (2 ^ 64) 16 size text ≡ Some n → n < 2 ^ 16
four_digits size text n few is =
    let number = number_below-is (2 ^ 64) 16 size text n is in
    let below : digits_value 16 text < 16 ^ length text = digits_value-lt 16 text number.digits.1 in
    let four : length text ≤ 4 = omega (arith, number.few) in
    let small : 16 ^ length text ≤ 16 ^ 4 = pow-le-pow_right (omega arith) four in
    omega (arith, below, small, number.value)

-- the groups that are left behind one
pub one_less : (left next size long : ℕ) → left ≡ suc next → long ≡ left * size → long - size ≡ next * size
one_less left next size long more all = let sum = all ∙ ap (λ k. k * size) more ∙ suc-mul next size in omega (arith, sum)
