-- Bytes that write a number.
use Rattle.std.proofs.Common.{◌≡◌, ◌/◌, ◌%◌, ℕ, zero, suc, ◌+◌, ◌*◌, ◌^◌, ◌<◌, ◌≤◌, List, [], ◌∷◌, length, refl, sym, ap, ◌∙◌, add-mul, arith}
use Rattle.std.proofs.Math.Nat.{div-one, mul-le-mul_right, mul_assoc, pow-succ'}
use Rattle.std.proofs.lemmas.Nat.{div-mul-add, mod-mul-add}
use Rattle.std.specs.Int.{byte_at, bytes_low_first}
use Rattle.byteorder.specs.Endian.{little_from, little_bytes}
use Rattle.byteorder.specs.Numbers.{little_from-cons}
use Rattle.hii_bytes.specs.Numbers.{AreBytes, number_in}

byte_of : (i x : ℕ) → byte_at i x ≡ x / 256 ^ i % 256
byte_of zero x = ap (λ y. y % 256) (sym (div-one x))
byte_of (suc i) x = refl

below_next : (b p low q : ℕ) → low < p → b < 256 → q ≡ 256 * p → b * p + low < q
below_next b p low q less small is =
    let most : b * p ≤ 255 * p = mul-le-mul_right p (omega (arith, small)) in
    omega (arith, less, is, most)

-- above a lower part, bytes are those of their number
bytes_above : (bytes : List ℕ) (i low : ℕ) → AreBytes bytes → low < 256 ^ i → bytes ≡ bytes_low_first i (length bytes) (little_from 0 (length bytes) bytes * 256 ^ i + low)
bytes_above [] i low small less = refl
bytes_above (b ∷ bytes) i low small less =
    let n = length bytes in
    let y = little_from 0 n bytes in
    let p = 256 ^ i in
    let rest : little_from 1 n (b ∷ bytes) ≡ y = little_from-cons 0 n b bytes in
    let number : little_from 0 (suc n) (b ∷ bytes) ≡ y * 256 + b = omega (arith, rest) in
    let byte : byte_at i ((y * 256 + b) * p + low) ≡ b =
    byte_of i ((y * 256 + b) * p + low) ∙ ap (λ m. m % 256) (div-mul-add (y * 256 + b) p low less) ∙ mod-mul-add y 256 b (small 0) in
    let power : 256 ^ suc i ≡ 256 * p = pow-succ' 256 i in
    let next : (y * 256 + b) * p + low ≡ y * 256 ^ suc i + (b * p + low) =
    omega (arith, add-mul (y * 256) b p, mul_assoc y 256 p, ap (λ m. y * m) power) in
    let below : b * p + low < 256 ^ suc i = below_next b p low (256 ^ suc i) less (small 0) power in
    let tail = bytes_above bytes (suc i) (b * p + low) (λ k. small (suc k)) below in
    rw (number, byte, next, ← tail) refl

-- the bytes that a number in them has
pub bytes_of_number : (bytes : List ℕ) (n x : ℕ) → AreBytes bytes → length bytes ≡ n → number_in bytes 0 n ≡ x → bytes ≡ little_bytes n x
unfolding number_in
bytes_of_number bytes n x small size is =
    let whole : little_from 0 n bytes * 1 + 0 ≡ x = omega (arith, is) in
    bytes_above bytes 0 0 small (omega arith) ∙ rw size (ap (bytes_low_first 0 n) whole)
