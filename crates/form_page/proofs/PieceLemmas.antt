-- The parts of a row's value, one after the other.
use Rattle.std.proofs.Common.{◌≡◌, ◌≢◌, ℕ, zero, suc, ◌+◌, ◌-◌, ◌*◌, ◌/◌, ◌%◌, ◌^◌, List, [], ◌∷◌, ◌++◌, append_assoc, refl, sym, ap, ◌∙◌, arith}
use Rattle.std.proofs.lemmas.List.{append-nil}
use Rattle.std.proofs.lemmas.Nat.{pow-add}
use Rattle.std.proofs.Math.Nat.{pow-succ'}
use Rattle.std.specs.Char.{digit_char}
use Rattle.form_page.specs.RowValues.{hex_digits}

pub without_units : (front text units behind : List ℕ) → units ≡ [] → (front ++ (text ++ units)) ++ behind ≡ front ++ (text ++ behind)
without_units front text units behind none =
    ap (λ (u : List ℕ). (front ++ (text ++ u)) ++ behind) none ∙ ap (λ (t : List ℕ). (front ++ t) ++ behind) (append-nil text) ∙ append_assoc front text behind

pub digits_alone : (front digits text units : List ℕ) → text ≡ [] → units ≡ [] → (front ++ (digits ++ (text ++ units))) ++ [] ≡ front ++ digits
digits_alone front digits text units none_shown none =
    rw (none_shown, none) (append-nil (front ++ (digits ++ [])) ∙ ap (λ (d : List ℕ). front ++ d) (append-nil digits))

pub next_element : (texts front text behind choice later : List ℕ) → texts ≡ [] → front ++ text ≡ 32 ∷ choice → behind ≡ (44 ∷ 32 ∷ choice) ++ later → texts ++ behind ≡ 44 ∷ (front ++ (text ++ later))
next_element texts front text behind choice later none first its =
    ap (λ (t : List ℕ). t ++ behind) none ∙ its ∙ ap (λ (l : List ℕ). 44 ∷ (l ++ later)) (sym first) ∙ ap (λ (l : List ℕ). 44 ∷ l) (append_assoc front text later)

powers : (k : ℕ) → 2 ^ (4 * k) ≡ 16 ^ k
powers zero = refl
powers (suc k) =
    let more : 4 * suc k ≡ 4 + 4 * k = omega arith in
    ap (λ (m : ℕ). 2 ^ m) more ∙ pow-add 2 4 (4 * k) ∙ ap (λ (m : ℕ). 16 * m) (powers k) ∙ sym (pow-succ' 16 k)

pub first_digit : (count n : ℕ) → count ≢ 0 → hex_digits count n ≡ digit_char (n / 2 ^ (4 * (count - 1)) % 16) ∷ hex_digits (count - 1) n
first_digit zero n some = absurd (some refl)
first_digit (suc k) n some =
    let less : suc k - 1 ≡ k = omega arith in
    rw (less, powers k) refl
