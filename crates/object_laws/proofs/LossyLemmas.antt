-- What bytes spell, with a replacement character for what is no character, are characters.
use Rattle.std.proofs.Common.{◌≡◌, ◌==◌, ◌&&◌, ℕ, zero, suc, ◌<◌, ◌≤◌, nat_lt, true, List, [], ◌∷◌, length, map, take, drop, slice_index, refl, arith, inl, inr}
use Rattle.std.specs.Str.{all_scalars}
use Rattle.std.proofs.lemmas.Bool.{and_from, and_parts, cases_Bool, cond_both, eqb-false, eqb-true, le-leb, lt-ltb, ltb-false, ltb-true}
use lib.Utf8.{low_scalar, scalar}
use Rattle.bstr.specs.Utf8.{Decoded, code_of_2, code_of_3, code_of_4, continues, decoded, decoded_by, lossy_chars, or_replacement, pieces_from, second}
use Rattle.hii_bytes.specs.Numbers.{AreBytes}
use Rattle.json_laws.proofs.WordLemmas.{Bytes, all_bytes, are_bytes, bytes_drop}

abbrev IsGoodChar : Decoded → Type 0
IsGoodChar p = scalar (or_replacement p.char) ≡ true

high_scalar : (c : ℕ) → 57344 ≤ c → c < 1114112 → scalar c ≡ true
high_scalar c least most = cond_both (nat_lt c 55296) true _ (λ b. b ≡ true) (λ _. refl) (λ _. and_from _ _ (le-leb 57344 c least) (lt-ltb c 1114112 most))

-- which bytes may stand second
between : (low c high : ℕ) → (nat_lt low c && nat_lt c high) ≡ true → (low < c) × (c < high)
between low c high both = let p = and_parts (nat_lt low c) (nat_lt c high) both in (ltb-true low c p.0, ltb-true c high p.1)

record Second (b c : ℕ) : Type 0 where
  least : 0x7F < c
  most : c < 0xC0
  after_ed : b ≡ 0xED → c < 0xA0
  after_f0 : b ≡ 0xF0 → 0x8F < c
  after_f4 : b ≡ 0xF4 → c < 0x90

second_range : (b c : ℕ) → second b c ≡ true → Second b c
second_range b c fits =
    elim (cases_Bool (b == 0xE0)) [
      | inl e ↦ let h : (nat_lt 0x9F c && nat_lt c 0xC0) ≡ true = rw e at fits in let r = between 0x9F c 0xC0 h in let same = eqb-true b 0xE0 e in
          record { least = omega arith; most = r.1; after_ed = λ f. omega arith; after_f0 = λ f. omega arith; after_f4 = λ f. omega arith }
      | inr e ↦ elim (cases_Bool (b == 0xED)) [
        | inl f ↦ let h : (nat_lt 0x7F c && nat_lt c 0xA0) ≡ true = rw (e, f) at fits in let r = between 0x7F c 0xA0 h in let same = eqb-true b 0xED f in
            record { least = r.0; most = omega arith; after_ed = λ g. r.1; after_f0 = λ g. omega arith; after_f4 = λ g. omega arith }
        | inr f ↦ elim (cases_Bool (b == 0xF0)) [
          | inl g ↦ let h : (nat_lt 0x8F c && nat_lt c 0xC0) ≡ true = rw (e, f, g) at fits in let r = between 0x8F c 0xC0 h in let same = eqb-true b 0xF0 g in
              record { least = omega arith; most = r.1; after_ed = λ i. omega arith; after_f0 = λ i. r.0; after_f4 = λ i. omega arith }
          | inr g ↦ elim (cases_Bool (b == 0xF4)) [
            | inl i ↦ let h : (nat_lt 0x7F c && nat_lt c 0x90) ≡ true = rw (e, f, g, i) at fits in let r = between 0x7F c 0x90 h in let same = eqb-true b 0xF4 i in
                record { least = r.0; most = omega arith; after_ed = λ j. omega arith; after_f0 = λ j. omega arith; after_f4 = λ j. r.1 }
            | inr i ↦ let h : (nat_lt 0x7F c && nat_lt c 0xC0) ≡ true = rw (e, f, g, i) at fits in let r = between 0x7F c 0xC0 h in
                let no_ed = eqb-false b 0xED f in let no_f0 = eqb-false b 0xF0 g in let no_f4 = eqb-false b 0xF4 i in
                record { least = r.0; most = r.1; after_ed = λ j. absurd (no_ed j); after_f0 = λ j. absurd (no_f0 j); after_f4 = λ j. absurd (no_f4 j) }
          ]
        ]
      ]
    ]

three_good : (b c d : ℕ) → 0xE0 ≤ b → b < 0xF0 → Second b c → 0x7F < d → d < 0xC0 → scalar (code_of_3 b c d) ≡ true
three_good b c d least most s low high =
    let from = s.least in
    let to = s.most in
    elim (cases_Bool (b == 0xED)) [
      | inl e ↦ let same = eqb-true b 0xED e in let few = s.after_ed same in low_scalar (code_of_3 b c d) (omega arith)
      | inr e ↦ elim (cases_Bool (nat_lt b 0xED)) [
        | inl before ↦ let h = ltb-true b 0xED before in low_scalar (code_of_3 b c d) (omega arith)
        | inr behind ↦ let h = ltb-false b 0xED behind in let other = eqb-false b 0xED e in let past : 0xED < b = omega arith in high_scalar (code_of_3 b c d) (omega arith) (omega arith)
      ]
    ]

four_good : (b c d e : ℕ) → 0xF0 ≤ b → b ≤ 0xF4 → Second b c → 0x7F < d → d < 0xC0 → 0x7F < e → e < 0xC0 → scalar (code_of_4 b c d e) ≡ true
four_good b c d e least most s low high low_too high_too =
    let from = s.least in
    let to = s.most in
    elim (cases_Bool (b == 0xF0)) [
      | inl f ↦ let same = eqb-true b 0xF0 f in let many = s.after_f0 same in high_scalar (code_of_4 b c d e) (omega arith) (omega arith)
      | inr f ↦ let other = eqb-false b 0xF0 f in let past : 0xF0 < b = omega arith in elim (cases_Bool (b == 0xF4)) [
        | inl g ↦ let same = eqb-true b 0xF4 g in let few = s.after_f4 same in high_scalar (code_of_4 b c d e) (omega arith) (omega arith)
        | inr g ↦ let no = eqb-false b 0xF4 g in let below : b < 0xF4 = omega arith in high_scalar (code_of_4 b c d e) (omega arith) (omega arith)
      ]
    ]

decoded_good : (n b c d e : ℕ) → c < 256 → IsGoodChar (decoded_by n b c d e)
decoded_good n b c d e small =
    cond_both (n == 0) _ _ IsGoodChar (λ _. refl)
    (λ _. cond_both (nat_lt b 0x80) _ _ IsGoodChar (λ is. let h = ltb-true b 0x80 is in low_scalar b (omega arith))
    (λ _. cond_both (nat_lt b 0xC2) _ _ IsGoodChar (λ _. refl)
    (λ many. let least = ltb-false b 0xC2 many in cond_both (nat_lt 0xF4 b) _ _ IsGoodChar (λ _. refl)
    (λ few. let most = ltb-false 0xF4 b few in cond_both (nat_lt n 2) _ _ IsGoodChar (λ _. refl)
    (λ _. cond_both (second b c) _ _ IsGoodChar
    (λ fits. let s = second_range b c fits in cond_both (nat_lt b 0xE0) _ _ IsGoodChar (λ is. let h = ltb-true b 0xE0 is in low_scalar (code_of_2 b c) (omega arith))
    (λ three. let from = ltb-false b 0xE0 three in cond_both (nat_lt n 3) _ _ IsGoodChar (λ _. refl)
    (λ _. cond_both (continues d) _ _ IsGoodChar
    (λ on. let r = between 0x7F d 0xC0 on in cond_both (nat_lt b 0xF0) _ _ IsGoodChar (λ is. let h = ltb-true b 0xF0 is in three_good b c d from h s r.0 r.1)
    (λ four. let past = ltb-false b 0xF0 four in cond_both (nat_lt n 4) _ _ IsGoodChar (λ _. refl)
    (λ _. cond_both (continues e) _ _ IsGoodChar (λ more. let t = between 0x7F e 0xC0 more in four_good b c d e past most s r.0 r.1 t.0 t.1) (λ _. refl))))
    (λ _. refl))))
    (λ _. refl))))))

pieces_good : (n : ℕ) (bytes : List ℕ) → Bytes bytes → all_scalars (map (λ p. or_replacement p.char) (pieces_from n bytes)) ≡ true
unfolding pieces_from
pieces_good zero bytes all = refl
pieces_good (suc n) [] all = refl
pieces_good (suc n) (b ∷ rest) all =
    let bytes = b ∷ rest in
    and_from _ _ (decoded_good (length bytes) b (slice_index bytes 1) (slice_index bytes 2) (slice_index bytes 3) (are_bytes bytes all 1))
    (pieces_good n (drop (decoded bytes).size bytes) (bytes_drop (decoded bytes).size bytes all))

pub lossy_are_text : (bytes : List ℕ) → AreBytes bytes → all_scalars (lossy_chars bytes) ≡ true
lossy_are_text bytes are = pieces_good (length bytes) bytes (all_bytes bytes are)

pub taken_are_text : (most : ℕ) (text : List ℕ) → all_scalars text ≡ true → all_scalars (take most text) ≡ true
taken_are_text zero text all = refl
taken_are_text (suc most) [] all = refl
taken_are_text (suc most) (c ∷ text) all = let p = and_parts (scalar c) (all_scalars text) all in and_from _ _ p.0 (taken_are_text most text p.1)
