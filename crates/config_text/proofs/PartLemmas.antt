-- The parts of a text between its `&`.
use Rattle.std.proofs.Common.{◌≡◌, ℕ, ◌+◌, ◌<◌, List, [], ◌∷◌, length, take, drop, Option, Some, None, sym, ap, ◌∙◌, arith, inl, inr, add-one}
use Rattle.std.proofs.Math.Seq.{drop-cons}
use Rattle.std.specs.List.{position, position_or_len, onto_first}
use Rattle.std.proofs.lemmas.Bool.{cases_Bool, cond-true, cond-false, cases_lt, lt-ltb, le-ltb}
use Rattle.std.proofs.lemmas.List.Sums.{fails_before_first}
use Rattle.std.proofs.lemmas.List.Splits.{slice_split_none, slice_split_first}
use Rattle.config_text.specs.code.Parts.{is_between, text_parts}
use Rattle.config_text.specs.code.Elements.{parts_behind}

-- ---- the first part

place_of : (text : List ℕ) (end : ℕ) → position is_between text ≡ Some end → (position_or_len is_between text ≡ end) × (end < length text)
place_of text end e =
    let at = position_or_len is_between text in
    elim (cases_lt at (length text)) [
      | inl less ↦ let some : Some at ≡ Some end = sym (cond-true _ (Some at) None (lt-ltb _ _ less)) ∙ e in
          let same : at ≡ end = cc in (same, omega (arith, same, less))
      | inr all ↦ let none : ◌≡◌ {A = Option ℕ} None (Some end) = sym (cond-false _ (Some at) None (le-ltb _ _ all)) ∙ e in (cc)
    ]

-- what stands from a byte on, without that byte
behind_drop : (text : List ℕ) (end : ℕ) → end < length text → parts_behind (drop end text) ≡ text_parts (drop (end + 1) text)
behind_drop text end h = rw add-one (ap parts_behind (drop-cons text end 0 h))

pub parts_at : (text : List ℕ) (end : ℕ) → position is_between text ≡ Some end → text_parts text ≡ take end text ∷ parts_behind (drop end text)
parts_at text end e =
    let place = place_of text end e in
    let less : position_or_len is_between text < length text = omega (arith, place.0, place.1) in
    slice_split_first is_between text 0 less
    ∙ ap (λ k. take k text ∷ text_parts (drop (k + 1) text)) place.0
    ∙ ap (λ l. take end text ∷ l) (sym (behind_drop text end place.1))

pub parts_whole : (text : List ℕ) → position is_between text ≡ None → text_parts text ≡ text ∷ []
parts_whole text e =
    let at = position_or_len is_between text in
    slice_split_none is_between text (elim (cases_lt at (length text)) [
      | inl less ↦ let bad : ◌≡◌ {A = Option ℕ} (Some at) None = sym (cond-true _ (Some at) None (lt-ltb _ _ less)) ∙ e in (cc)
      | inr all ↦ λ k d m. fails_before_first is_between text k d (omega (arith, all, m))
    ])

-- a text has a part
onto_some : (x : ℕ) (parts : List (List ℕ)) → 0 < length parts → 0 < length (onto_first x parts)
onto_some x [] h = absurd (omega (arith, h))
onto_some x (part ∷ parts) h = omega arith

pub parts_some : (text : List ℕ) → 0 < length (text_parts text)
parts_some [] = omega arith
parts_some (b ∷ text) = elim (cases_Bool (is_between b)) [
  | inl e ↦ rw (cond-true (is_between b) ([] ∷ text_parts text) (onto_first b (text_parts text)) e) (omega arith)
  | inr e ↦ rw (cond-false (is_between b) ([] ∷ text_parts text) (onto_first b (text_parts text)) e) (onto_some b (text_parts text) (parts_some text))
]

pub behind_some : (text : List ℕ) → 0 < length text → 0 < length (parts_behind text)
behind_some [] h = absurd (omega (arith, h))
behind_some (b ∷ text) h = parts_some text
