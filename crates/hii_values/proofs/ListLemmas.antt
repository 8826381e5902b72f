-- Elements one after the other.
use Rattle.std.proofs.Common.{◌≡◌, ◌==◌, ℕ, ◌+◌, ◌-◌, ◌≤◌, Bool, true, false, cond, Option, Some, None, List, [], ◌∷◌, ◌++◌, length, take, sym, ap, ◌∙◌, arith, refl, length-append, append_assoc, zero, suc}
use Rattle.std.proofs.Common.{◌&&◌, ◌||◌, ◌*◌, not, leb, ltb, Ok, inl, inr}
use Rattle.std.proofs.Math.Nat.{mul-le-mul_right}
use Rattle.std.proofs.lemmas.Bool.{cases_Bool, ne_eqb, leb-true, le-ltb}
use Rattle.std.proofs.lemmas.Option.{cond_some}
use Rattle.byteorder.specs.Endian.{little_bytes}
use Rattle.byteorder.specs.Numbers.{length-bytes_low_first}
use Rattle.hii_values.specs.Inputs.{is_offered, denial_of, elements_behind, element_denial, list_denial, bytes_unless, list_bytes, text_bytes}
use Rattle.hii_values.specs.Items.{spelled, filled}
use Rattle.hii_values.specs.code.Fitting.{denial_behind}
use Rattle.hii_values.specs.declared.denial.DenialKind.{DenialKind}
use Rattle.hii_values.specs.declared.denial.DenialKind.TheVariants.{NoOption}
use Rattle.std.proofs.lemmas.List.{take_at}
use Rattle.std.specs.List.{list_any, find}
use Rattle.std.specs.Option.{is_some, option_and_then}

-- what is among the first of some items, and not the very first
pub among_more : (wanted left item : ℕ) (items rest : List ℕ) → items ≡ item ∷ rest → (left ≡ 0 → ⊥) → (item ≡ wanted → ⊥)
    → list_any (λ x. x == wanted) (take (left - 1) rest) ≡ list_any (λ x. x == wanted) (take left items)
among_more wanted zero item items rest is some other = absurd (some refl)
among_more wanted (suc n) item items rest is some other =
    let less : suc n - 1 ≡ n = omega arith in
    let first = ne_eqb item wanted other in
    rw (is, less, first) refl

-- the items before those that are left
abbrev pub before_of : List ℕ → List ℕ → List ℕ
before_of all left = take (length all - length left) all

-- one more item before the others
pub before_more : (count item : ℕ) (all items rest : List ℕ) → take count all ++ items ≡ all → items ≡ item ∷ rest → count + length items ≡ length all
    → take (count + 1) all ≡ take count all ++ item ∷ []
before_more count item all items rest whole is counted =
    let e : (take count all ++ item ∷ []) ++ rest ≡ all = append_assoc (take count all) (item ∷ []) rest ∙ ap (λ (l : List ℕ). take count all ++ l) (sym is) ∙ whole in
    let lengths = ap (length {A = ℕ}) whole in
    let sum = length-append (take count all) items in
    let sized : length (take count all ++ item ∷ []) ≡ count + 1 = length-append (take count all) (item ∷ []) ∙ omega (arith, lengths, sum, counted) in
    ap (take (count + 1)) (sym e) ∙ take_at (take count all ++ item ∷ []) rest (count + 1) sized

pub before_one : (item : ℕ) (all left rest : List ℕ) → before_of all left ++ left ≡ all → left ≡ item ∷ rest → length left ≤ length all
    → before_of all rest ≡ before_of all left ++ item ∷ []
before_one item all left rest whole is few =
    let e = ap (length {A = ℕ}) is in
    let next : length all - length rest ≡ (length all - length left) + 1 = omega (arith, e, few) in
    ap (λ n. take n all) next ∙ before_more (length all - length left) item all left rest whole is (omega (arith, few))

pub none_before : (all left : List ℕ) → left ≡ all → before_of all left ≡ []
none_before all left is =
    let e = ap (length {A = ℕ}) is in
    let none : length all - length left ≡ 0 = omega (arith, e) in
    ap (λ n. take n all) none

-- an element that is 0, or that no option has
pub element_denied : (values : List ℕ) (unique : Bool) (before : List ℕ) (item : ℕ) (rest : List ℕ) → ((item == 0) || not (is_offered values item)) ≡ true
    → denial_behind values unique before (item ∷ rest) ≡ Some NoOption
element_denied values unique before item rest bad = rw bad refl

-- an element that is fine, and stands before others
pub element_more : (values : List ℕ) (unique : Bool) (before : List ℕ) (item : ℕ) (rest : List ℕ) → (item ≡ 0 → ⊥) → is_offered values item ≡ true
    → unique && list_any (λ earlier. earlier == item) before ≡ false
    → denial_behind values unique before (item ∷ rest) ≡ denial_behind values unique (before ++ item ∷ []) rest
element_more values unique before item rest some has new =
    let is = ne_eqb item 0 some in
    rw (is, has, new) refl

-- the first element that may not be is found one after the other
denied_behind : (values : List ℕ) (unique : Bool) (before ns : List ℕ)
    → option_and_then (denial_of values unique) (find (λ e. is_some (denial_of values unique e)) (elements_behind before ns)) ≡ denial_behind values unique before ns
denied_behind values unique before [] = refl
denied_behind values unique before (n ∷ ns) = elim (cases_Bool ((n == 0) || not (is_offered values n))) [
  | inl bad ↦ rw bad (rw bad refl)
  | inr fine ↦ elim (cases_Bool (unique && list_any (λ earlier. earlier == n) before)) [
    | inl again ↦ rw (fine, again) (rw (fine, again) refl)
    | inr new ↦ rw (fine, new) (denied_behind values unique (before ++ n ∷ []) ns)
  ]
]

pub first_denied : (values : List ℕ) (unique : Bool) (ns : List ℕ) → element_denial values unique ns ≡ denial_behind values unique [] ns
first_denied values unique ns = denied_behind values unique [] ns

pub length_spelled : (width : ℕ) (items : List ℕ) → length (spelled width items) ≡ length items * width
length_spelled width [] = omega arith
length_spelled width (n ∷ items) =
    let rest = length_spelled width items in
    let one = length-bytes_low_first 0 width n in
    length-append (little_bytes width n) (spelled width items) ∙ omega (arith, rest, one)

-- units that are not too few, and counted up to the most
pub units_fit : (minimum maximum count : ℕ) (us : List ℕ) → Some count ≡ cond (leb (length us) maximum) (Some (length us)) None → minimum ≤ count
    → (text_bytes minimum maximum us ≡ Ok (filled (2 * maximum) (spelled 2 us))) × (length (spelled 2 us) ≤ 2 * maximum)
units_fit minimum maximum count us counted few =
    let is = cond_some (leb (length us) maximum) (length us) count (sym counted) in
    let most : length us ≤ maximum = leb-true (length us) maximum is.0 in
    let low : ltb (length us) minimum ≡ false = le-ltb (length us) minimum (omega (arith, is.1)) in
    let high : ltb maximum (length us) ≡ false = le-ltb maximum (length us) most in
    let sized = length_spelled 2 us in
    (rw (low, high) refl, omega arith)

-- elements that an ordered list takes
pub elements_fit : (width most : ℕ) (unique some : Bool) (values ns : List ℕ) → list_denial most unique some values ns ≡ None → length ns ≤ most
    → (list_bytes width most unique some values ns ≡ Ok (filled (most * width) (spelled width ns))) × (length (spelled width ns) ≤ most * width)
elements_fit width most unique some values ns none few =
    let sized = length_spelled width ns in
    let wide : length ns * width ≤ most * width = mul-le-mul_right width few in
    (ap (λ (d : Option DenialKind). bytes_unless d (filled (most * width) (spelled width ns))) none, omega arith)
