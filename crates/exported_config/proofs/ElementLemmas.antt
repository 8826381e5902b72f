-- The first element of a text.
use Rattle.std.proofs.Common.{◌≡◌, ◌+◌, ◌<◌, ◌≤◌, ℕ, suc, true, false, List, [], ◌∷◌, ◌++◌, length, take, drop, get_or, sym, ap, ◌∙◌, arith, length-take-le}
use Rattle.std.specs.List.{slice_split}
use Rattle.std.proofs.Math.Seq.{drop-cons}
use Rattle.std.proofs.lemmas.List.{get_or-take, take-append-drop}
use Rattle.std.proofs.lemmas.List.Splits.{slice_split_at, slice_split_none}
use Rattle.exported_config.specs.Exported.{is_separator}

-- no byte before a place is a separator
abbrev pub IsFree : List ℕ → ℕ → Type 0
IsFree text place = (k : ℕ) (d : ℕ) → k < place → is_separator (get_or text k d) ≡ false

-- the first element ends at the first separator
pub element_at : (text : List ℕ) (place : ℕ) → IsFree text place → place < length text → is_separator (get_or text place 0) ≡ true
    → slice_split is_separator text ≡ take place text ∷ slice_split is_separator (drop (place + 1) text)
element_at text place free inside ends =
    let next : suc place ≡ place + 1 = omega arith in
    let behind : drop place text ≡ get_or text place 0 ∷ drop (suc place) text = drop-cons text place 0 inside in
    let whole : take place text ++ (get_or text place 0 ∷ drop (suc place) text) ≡ text = ap (λ l. take place text ++ l) (sym behind) ∙ take-append-drop place text in
    let long = length-take-le place text (omega (arith, inside)) in
    rw (← next) (sym (ap (slice_split is_separator) whole)
    ∙ slice_split_at is_separator (take place text) (get_or text place 0) (drop (suc place) text)
    (λ k d m. let before : k < place = omega (arith, m, long) in ap is_separator (get_or-take place text k d before) ∙ free k d before) ends)

-- a text without one is one element
pub element_whole : (text : List ℕ) (place : ℕ) → IsFree text place → length text ≤ place → slice_split is_separator text ≡ text ∷ []
element_whole text place free all = slice_split_none is_separator text (λ k d m. free k d (omega (arith, all, m)))
