-- Numbers in columns, digit by digit.
use Rattle.std.proofs.Common.{◌≡◌, ◌≢◌, ℕ, zero, suc, ◌+◌, ◌-◌, ◌/◌, ◌%◌, ◌^◌, ◌≤◌, ◌<◌, ◌==◌, if◌then◌else◌, decimal, replicate, List, [], ◌∷◌, ◌++◌, length, refl, sym, ap, ◌∙◌, inl, inr, append_assoc, append-nil, length-append, arith}
use Rattle.std.proofs.lemmas.Bool.{cond-true, cond-false, cases_eq, cases_lt, eq-eqb, ne_eqb}
use Rattle.std.proofs.lemmas.Fmt.{decimal_digit, decimal_step}
use Rattle.hii_bytes.specs.Texts.{right_aligned}
use Rattle.form_page.specs.code.Columns.{last_digit}

-- the digits of a number, none for 0
abbrev digits : ℕ → List ℕ
digits n = if n == 0 then [] else decimal n

no_digits : (n : ℕ) → n ≡ 0 → digits n ≡ []
no_digits n none = cond-true (n == 0) [] (decimal n) (eq-eqb n 0 none)

some_digits : (n : ℕ) → n ≢ 0 → digits n ≡ decimal n
some_digits n some = cond-false (n == 0) [] (decimal n) (ne_eqb n 0 some)

one_more : (k : ℕ) → replicate {A = ℕ} (suc k) 32 ≡ replicate k 32 ++ 32 ∷ []
one_more zero = refl
one_more (suc k) = ap (λ (l : List ℕ). 32 ∷ l) (one_more k)

alone : (size n c : ℕ) → n ≡ 0 → right_aligned (suc size) (c ∷ []) ≡ right_aligned size (digits n) ++ c ∷ []
alone size n c none =
    let spaces : suc size - length (c ∷ []) ≡ size - 0 = omega arith in
    ap (λ (k : ℕ). replicate k 32 ++ c ∷ []) spaces
    ∙ ap (λ (l : List ℕ). l ++ c ∷ []) (sym (append-nil (replicate (size - 0) 32)))
    ∙ ap (λ (l : List ℕ). right_aligned size l ++ c ∷ []) (sym (no_digits n none))

behind : (size c : ℕ) (front : List ℕ) → right_aligned (suc size) (front ++ c ∷ []) ≡ right_aligned size front ++ c ∷ []
behind size c front =
    let spaces : suc size - length (front ++ c ∷ []) ≡ size - length front = omega (arith, length-append front (c ∷ [])) in
    ap (λ (k : ℕ). replicate k 32 ++ (front ++ c ∷ [])) spaces ∙ sym (append_assoc (replicate (size - length front) 32) front (c ∷ []))

-- the last digit of a number, and those before it
last_column : (size n : ℕ) → n < 2 ^ 64 → right_aligned (suc size) (decimal n) ≡ right_aligned size (digits (n / 10)) ++ (48 + n % 10) ∷ []
last_column size n small = elim (cases_lt n 10) [
  | inl one ↦
      let none : n / 10 ≡ 0 = omega (arith, one) in
      let same : 48 + n ≡ 48 + n % 10 = omega (arith, one) in
      ap (right_aligned (suc size)) (decimal_digit n one ∙ ap (λ (c : ℕ). c ∷ []) same) ∙ alone size (n / 10) (48 + n % 10) none
  | inr more ↦
      let some : n / 10 ≢ 0 = λ none. omega (arith, more, none) in
      ap (right_aligned (suc size)) (decimal_step n more small) ∙ behind size (48 + n % 10) (decimal (n / 10))
      ∙ ap (λ (l : List ℕ). right_aligned size l ++ (48 + n % 10) ∷ []) (sym (some_digits (n / 10) some))
]

column : (size n : ℕ) → n < 2 ^ 64 → right_aligned (suc size) (digits n) ≡ right_aligned size (digits (n / 10)) ++ last_digit n ∷ []
column size n small = elim (cases_eq n 0) [
  | inl none ↦
      let rest : n / 10 ≡ 0 = omega (arith, none) in
      let spaces : suc size - 0 ≡ suc (size - 0) = omega arith in
      let space : 32 ≡ last_digit n = sym (cond-true (n == 0) 32 (48 + n % 10) (eq-eqb n 0 none)) in
      ap (right_aligned (suc size)) (no_digits n none)
      ∙ ap (λ (k : ℕ). replicate k 32 ++ []) spaces ∙ append-nil (replicate (suc (size - 0)) 32) ∙ one_more (size - 0)
      ∙ ap (λ (l : List ℕ). l ++ 32 ∷ []) (sym (append-nil (replicate (size - 0) 32)))
      ∙ ap (λ (l : List ℕ). right_aligned size l ++ 32 ∷ []) (sym (no_digits (n / 10) rest))
      ∙ ap (λ (c : ℕ). right_aligned size (digits (n / 10)) ++ c ∷ []) space
  | inr some ↦
      let digit : 48 + n % 10 ≡ last_digit n = sym (cond-false (n == 0) 32 (48 + n % 10) (ne_eqb n 0 some)) in
      ap (right_aligned (suc size)) (some_digits n some) ∙ last_column size n small
      ∙ ap (λ (c : ℕ). right_aligned size (digits (n / 10)) ++ c ∷ []) digit
]

-- nothing is left
before : (n : ℕ) → n ≡ 0 → right_aligned 0 (digits n) ≡ []
before n none = ap (right_aligned 0) (no_digits n none)

pub in_three : (n : ℕ) → n < 1000 → right_aligned 3 (decimal n) ≡ last_digit (n / 10 / 10) ∷ last_digit (n / 10) ∷ (48 + n % 10) ∷ []
in_three n small =
    let none : n / 10 / 10 / 10 ≡ 0 = omega (arith, small) in
    last_column 2 n (omega (arith, small))
    ∙ ap (λ (l : List ℕ). l ++ (48 + n % 10) ∷ []) (column 1 (n / 10) (omega (arith, small))
    ∙ ap (λ (l : List ℕ). l ++ last_digit (n / 10) ∷ []) (column 0 (n / 10 / 10) (omega (arith, small))
    ∙ ap (λ (l : List ℕ). l ++ last_digit (n / 10 / 10) ∷ []) (before (n / 10 / 10 / 10) none)))

pub in_four : (n : ℕ) → 1000 ≤ n → n < 10000 → decimal n ≡ (48 + n / 10 / 10 / 10) ∷ (48 + n / 10 / 10 % 10) ∷ (48 + n / 10 % 10) ∷ (48 + n % 10) ∷ []
in_four n least most =
    decimal_step n (omega (arith, least)) (omega (arith, most))
    ∙ ap (λ (l : List ℕ). l ++ (48 + n % 10) ∷ []) (decimal_step (n / 10) (omega (arith, least)) (omega (arith, most))
    ∙ ap (λ (l : List ℕ). l ++ (48 + n / 10 % 10) ∷ []) (decimal_step (n / 10 / 10) (omega (arith, least)) (omega (arith, most))
    ∙ ap (λ (l : List ℕ). l ++ (48 + n / 10 / 10 % 10) ∷ []) (decimal_digit (n / 10 / 10 / 10) (omega (arith, most)))))

pub in_five : (n : ℕ) → n < 2 ^ 16
    → right_aligned 5 (decimal n) ≡ last_digit (n / 10 / 10 / 10 / 10) ∷ last_digit (n / 10 / 10 / 10) ∷ last_digit (n / 10 / 10) ∷ last_digit (n / 10) ∷ (48 + n % 10) ∷ []
in_five n small =
    let hundreds = n / 10 / 10 in
    let thousands = n / 10 / 10 / 10 in
    let none : thousands / 10 / 10 ≡ 0 = omega (arith, small) in
    last_column 4 n (omega (arith, small))
    ∙ ap (λ (l : List ℕ). l ++ (48 + n % 10) ∷ []) (column 3 (n / 10) (omega (arith, small))
    ∙ ap (λ (l : List ℕ). l ++ last_digit (n / 10) ∷ []) (column 2 hundreds (omega (arith, small))
    ∙ ap (λ (l : List ℕ). l ++ last_digit hundreds ∷ []) (column 1 thousands (omega (arith, small))
    ∙ ap (λ (l : List ℕ). l ++ last_digit thousands ∷ []) (column 0 (thousands / 10) (omega (arith, small))
    ∙ ap (λ (l : List ℕ). l ++ last_digit (thousands / 10) ∷ []) (before (thousands / 10 / 10) none)))))
