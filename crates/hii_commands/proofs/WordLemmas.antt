-- Words of a line.
use Rattle.std.proofs.Common.{◌≡◌, ◌==◌, ℕ, ◌+◌, ◌<◌, ◌^◌, true, List, [], ◌∷◌, ◌++◌, length, take, drop, Option, Some, None, refl, sym, ap, subst, ◌∙◌, arith, inl, inr, append_assoc}
use Rattle.std.specs.Char.{digit_value}
use Rattle.std.specs.List.{position, before_first}
use Rattle.std.specs.Str.Parse.{AllDigits}
use Rattle.std.proofs.lemmas.Bool.{cases_Bool, cond-true, cond-false, eqb-true, ne_eqb}
use Rattle.std.proofs.lemmas.List.{take-append-drop}
use Rattle.std.proofs.lemmas.Slice.Eq.{bytes_eq-Decides}
use Rattle.std.proofs.lemmas.Int.Digits.{digits_value-lt}
use Rattle.std.proofs.Math.Nat.{pow-le-pow_right}
use Rattle.hii_bytes.specs.Digits.{number_below}
use Rattle.hii_bytes.proofs.DigitLemmas.{number_below-from, number_below-is}
use Rattle.hii_commands.specs.laws.Lines.{Lacks}
use Rattle.hii_commands.specs.code.Reading.{begins_with, cut_word}
use Rattle.hii_commands.proofs.CutLemmas.{Lacks-before_first, piece_whole, piece_at}

-- ---- words

-- a text without a space is one word
pub cut_word-alone : (word : List ℕ) → Lacks 32 word → cut_word word ≡ (word, None)
cut_word-alone [] h = refl
cut_word-alone (b ∷ word) h =
    cond-false (b == 32) _ _ (ne_eqb b 32 h.0) ∙ ap (λ (p : List ℕ × Option (List ℕ)). (b ∷ p.0, p.1)) (cut_word-alone word h.1)

-- a word ends at the first space
pub cut_word-spaced : (word rest : List ℕ) → Lacks 32 word → cut_word (word ++ 32 ∷ rest) ≡ (word, Some rest)
cut_word-spaced [] rest h = refl
cut_word-spaced (b ∷ word) rest h =
    cond-false (b == 32) _ _ (ne_eqb b 32 h.0) ∙ ap (λ (p : List ℕ × Option (List ℕ)). (b ∷ p.0, p.1)) (cut_word-spaced word rest h.1)

-- a word and what stands behind its space, put together again
abbrev pub together : List ℕ × Option (List ℕ) → List ℕ
together (word, None) = word
together (word, Some rest) = word ++ 32 ∷ rest

together-front : (b : ℕ) (p : List ℕ × Option (List ℕ)) → together (b ∷ p.0, p.1) ≡ b ∷ together p
together-front b (word, None) = refl
together-front b (word, Some rest) = refl

pub cut_word-together : (text : List ℕ) → together (cut_word text) ≡ text
cut_word-together [] = refl
cut_word-together (b ∷ text) = elim (cases_Bool (b == 32)) [
  | inl e ↦ ap together (cond-true (b == 32) _ _ e) ∙ ap (λ x. x ∷ text) (sym (eqb-true b 32 e))
  | inr e ↦ ap together (cond-false (b == 32) _ _ e) ∙ together-front b (cut_word text) ∙ ap (λ l. b ∷ l) (cut_word-together text)
]

-- ---- what a text begins with

pub begins : (text word : List ℕ) → begins_with text word ≡ true → text ≡ word ++ drop (length word) text
begins text word e =
    sym (take-append-drop (length word) text) ∙ ap (λ l. l ++ drop (length word) text) ((bytes_eq-Decides (take (length word) text) word).0 e)

-- ---- digits

-- digits have no space
pub Lacks-digits : (text : List ℕ) → AllDigits 10 text → Lacks 32 text
Lacks-digits [] h = tt
Lacks-digits (b ∷ text) h = (λ e. let bad : digit_value 32 < 10 = subst (λ x. digit_value x < 10) e h.0 in omega (arith, bad), Lacks-digits text h.1)

-- a number of so many decimal digits is below that power of ten
pub number_below-power : (limit most : ℕ) (text : List ℕ) (n : ℕ) → number_below limit 10 most text ≡ Some n → (n < 10 ^ most) × (number_below (10 ^ most) 10 most text ≡ Some n)
number_below-power limit most text n e =
    let is = number_below-is limit 10 most text n e in
    let small : n < 10 ^ most = omega (arith, is.value, digits_value-lt 10 text is.digits.1, pow-le-pow_right {n = 10} (omega arith) is.few) in
    (small, number_below-from (10 ^ most) 10 most text n (record { digits = is.digits; few = is.few; value = is.value; small = small }))

-- what stands before the first space and after it
pub cut_word-at : (text : List ℕ) (end : ℕ) → position (λ byte. byte == 32) text ≡ Some end → cut_word text ≡ (take end text, Some (drop (end + 1) text))
cut_word-at text end e =
    let p = piece_at 32 text end e in
    ap cut_word (p.2 ∙ append_assoc (before_first (λ byte. byte == 32) text) (32 ∷ []) (drop (end + 1) text))
    ∙ cut_word-spaced (before_first (λ byte. byte == 32) text) (drop (end + 1) text) (Lacks-before_first 32 text)
    ∙ ap (λ w. (w, Some (drop (end + 1) text))) p.1

pub cut_word-whole : (text : List ℕ) → position (λ byte. byte == 32) text ≡ None → cut_word text ≡ (text, None)
cut_word-whole text e = cut_word-alone text (subst (Lacks 32) (piece_whole 32 text e) (Lacks-before_first 32 text))
