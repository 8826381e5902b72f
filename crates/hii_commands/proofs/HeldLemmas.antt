-- What a line buffer holds after more bytes.
use Rattle.std.proofs.Common.{◌≡◌, ℕ, ◌+◌, ◌-◌, ◌<◌, ◌≤◌, Bool, true, List, [], ◌++◌, length, take, refl, sym, ap, ◌∙◌, arith, length-append, inl, inr, append-nil, ltb, min}
use Rattle.std.proofs.lemmas.List.{take-append-le, length-take, nil_from_length, take_all}
use Rattle.std.proofs.lemmas.Bool.{cases_lt, lt-ltb, le-ltb}
use Rattle.std.proofs.Math.Seq.{take-append-add}
use Rattle.hii_commands.specs.code.Held.{Held}

-- what is held of a line, with any limit
abbrev pub held_at : ℕ → List ℕ → Held
held_at n line = record { front = take n line; more = ltb n (length line) }

same_held : (f g : List ℕ) (a b : Bool) → f ≡ g → a ≡ b → ◌≡◌ {A = Held} record { front = f; more = a } record { front = g; more = b }
same_held f g a b p q = rw (p, q) refl

-- the front of two lists is the front of the first, and what is left of the front of the second
take_of_both : (n : ℕ) (xs ys : List ℕ) → take n (xs ++ ys) ≡ take n xs ++ take (n - length xs) ys
take_of_both n xs ys = elim (cases_lt n (length xs)) [
  | inl below ↦ let within : n ≤ length xs = omega arith in let none : n - length xs ≡ 0 = omega arith in
      take-append-le n xs ys within ∙ sym (rw none (append-nil (take n xs)))
  | inr above ↦ let sum : length xs + (n - length xs) ≡ n = omega arith in
      sym (ap (λ k. take k (xs ++ ys)) sum) ∙ take-append-add xs ys (n - length xs) ∙ ap (λ l. l ++ take (n - length xs) ys) (sym (take_all n xs above))
]

-- the part fits
pub held_whole : (n : ℕ) (line part front : List ℕ) (more : Bool) → front ≡ take n line → more ≡ ltb n (length line) → length front + length part ≤ n
    → record { front = front ++ part; more = more } ≡ held_at n (line ++ part)
held_whole n line part front more e m fits =
    let front_length : length front ≡ min n (length line) = ap length e ∙ length-take n line in
    let both : length (line ++ part) ≡ length line + length part = length-append line part in
    elim (cases_lt n (length line)) [
      | inl long ↦ let none : part ≡ [] = nil_from_length part (omega arith) in
          same_held _ _ _ _ (ap (λ l. front ++ l) none ∙ append-nil front ∙ e ∙ sym (ap (λ l. take n (line ++ l)) none ∙ ap (take n) (append-nil line))) (m ∙ lt-ltb n (length line) long ∙ sym (lt-ltb n (length (line ++ part)) (omega arith)))
      | inr short ↦
          let within : length part ≤ n - length line = omega arith in
          same_held _ _ _ _ (ap (λ l. l ++ part) e ∙ ap (λ l. take n line ++ l) (sym (take_all (n - length line) part within)) ∙ sym (take_of_both n line part)) (m ∙ le-ltb n (length line) short ∙ sym (le-ltb n (length (line ++ part)) (omega arith)))
    ]

-- the part does not fit
pub held_front : (n : ℕ) (line part front : List ℕ) (more : Bool) → front ≡ take n line → more ≡ ltb n (length line) → n < length front + length part
    → record { front = front ++ take (n - length front) part; more = true } ≡ held_at n (line ++ part)
held_front n line part front more e m many =
    let front_length : length front ≡ min n (length line) = ap length e ∙ length-take n line in
    let both : length (line ++ part) ≡ length line + length part = length-append line part in
    let room : n - length front ≡ n - length line = omega arith in
    same_held _ _ _ _ (ap (λ l. l ++ take (n - length front) part) e ∙ ap (λ k. take n line ++ take k part) room ∙ sym (take_of_both n line part)) (sym (lt-ltb n (length (line ++ part)) (omega arith)))
