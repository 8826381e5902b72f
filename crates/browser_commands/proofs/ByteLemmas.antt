-- Bytes that write a number.
use Rattle.std.proofs.Common.{◌≡◌, ◌/◌, ℕ, zero, suc, ◌+◌, ◌*◌, ◌^◌, ◌<◌, List, [], ◌∷◌, length, slice_index, refl, sym, ap, ◌∙◌, arith}
use Rattle.std.proofs.Math.Nat.{mod-lt}
use Rattle.std.proofs.Common.{append-nil}
use Rattle.std.specs.Int.{byte_at, bytes_low_first}
use Rattle.byteorder.specs.Endian.{little_from, little_bytes}
use Rattle.byteorder.specs.Numbers.{little_from-cons, little_from-lt, little_number-reads_back, length-bytes_low_first}
use Rattle.hii_bytes.specs.Numbers.{number_in}

-- each is a byte
abbrev AreSmall : List ℕ → Type 0
AreSmall bytes = (k : ℕ) → slice_index bytes k < 256

byte_small : (i x : ℕ) → byte_at i x < 256
byte_small zero x = mod-lt x (omega arith)
byte_small (suc i) x = mod-lt (x / 256 ^ suc i) (omega arith)

low_small : (i n x : ℕ) → AreSmall (bytes_low_first i n x)
low_small i zero x k = omega arith
low_small i (suc n) x zero = byte_small i x
low_small i (suc n) x (suc k) = low_small (suc i) n x k

-- bytes are those of one number
one_number : (n : ℕ) (xs ys : List ℕ) → length xs ≡ n → length ys ≡ n → AreSmall xs → AreSmall ys → little_from 0 n xs ≡ little_from 0 n ys → xs ≡ ys
one_number zero [] [] a b p q same = refl
one_number zero (x ∷ xs) ys a b p q same = absurd (omega (arith, a))
one_number zero [] (y ∷ ys) a b p q same = absurd (omega (arith, b))
one_number (suc n) [] ys a b p q same = absurd (omega (arith, a))
one_number (suc n) (x ∷ xs) [] a b p q same = absurd (omega (arith, b))
one_number (suc n) (x ∷ xs) (y ∷ ys) a b p q same =
    let mine : little_from 1 n (x ∷ xs) ≡ little_from 0 n xs = little_from-cons 0 n x xs in
    let theirs : little_from 1 n (y ∷ ys) ≡ little_from 0 n ys = little_from-cons 0 n y ys in
    let sum : x + 256 * little_from 1 n (x ∷ xs) ≡ y + 256 * little_from 1 n (y ∷ ys) = same in
    let first : x ≡ y = omega (arith, p 0, q 0, sum) in
    let rest : little_from 0 n xs ≡ little_from 0 n ys = omega (arith, p 0, q 0, sum, mine, theirs) in
    rw (first, one_number n xs ys (omega (arith, a)) (omega (arith, b)) (λ k. p (suc k)) (λ k. q (suc k)) rest) refl

-- the bytes that a number in them has
pub bytes_of_number : (bytes : List ℕ) (n x : ℕ) → AreSmall bytes → length bytes ≡ n → number_in bytes 0 n ≡ x → bytes ≡ little_bytes n x
unfolding number_in
bytes_of_number bytes n x small size is =
    let number : little_from 0 n bytes ≡ x = is in
    let less : x < 256 ^ n = rw (sym number) (little_from-lt 0 n bytes small) in
    let back : little_from 0 n (little_bytes n x) ≡ x = ap (little_from 0 n) (sym (append-nil (little_bytes n x))) ∙ little_number-reads_back n x [] less in
    one_number n bytes (little_bytes n x) size (length-bytes_low_first 0 n x) small (low_small 0 n x) (number ∙ sym back)
