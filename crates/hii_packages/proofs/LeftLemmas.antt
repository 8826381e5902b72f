-- What is left of bytes behind a package, whatever number of packages is allowed.
use Rattle.std.proofs.Common.{◌≡◌, ◌≢◌, ℕ, zero, suc, ◌+◌, ◌-◌, ◌*◌, ◌^◌, ◌<◌, ◌≤◌, true, false, List, [], ◌∷◌, length, take, drop, refl, ap, sym, ◌∙◌, subst, inl, inr, arith}
use Rattle.std.proofs.lemmas.List.{length-drop, length-take-le, take_rest}
use Rattle.std.proofs.lemmas.Bool.{cases_Bool, cases_lt, cases_eq}
use Rattle.hii_bytes.proofs.ChapterFaultLemmas.{some_faults}
use Rattle.browser_rules.specs.Faults.{Fault, fault_at, faults_of_packages}
use Rattle.browser_rules.specs.Packages.{Package, END_PACKAGE, is_bad, package_length, package_type, packages_from}
use Rattle.browser_rules.specs.Words.{Cause}
use Rattle.hii_packages.specs.code.Sound.{AreWhole}
use Rattle.hii_packages.proofs.FrontLemmas.{front, is_good, at_no_bytes, at_bad, at_end, at_last, at_whole, none_at_bad, none_at_end, none_at_zero, one_at_whole, bad_cut}

-- what is left behind the package at the front
abbrev pub left : List ℕ → List ℕ
left bytes = drop (package_length bytes) bytes

fewer_left : (bytes : List ℕ) (n : ℕ) → is_bad bytes ≡ false → length bytes ≤ suc n → length (left bytes) ≤ n
fewer_left bytes n good few = omega (arith, length-drop (package_length bytes) bytes, (is_good bytes good).low, few)

-- ---- as many as there are bytes are enough

pub same_faults : (n m at : ℕ) (bytes : List ℕ) → length bytes ≤ n → length bytes ≤ m → faults_of_packages n at bytes ≡ faults_of_packages m at bytes
same_faults zero m at bytes few fewer = at_no_bytes zero at bytes (omega arith) ∙ sym (at_no_bytes m at bytes (omega arith))
same_faults (suc n) zero at bytes few fewer = at_no_bytes (suc n) at bytes (omega arith) ∙ sym (at_no_bytes zero at bytes (omega arith))
same_faults (suc n) (suc m) at bytes few fewer =
    elim (cases_lt 0 (length bytes)) [
      | inr none ↦ at_no_bytes (suc n) at bytes (omega arith) ∙ sym (at_no_bytes (suc m) at bytes (omega arith))
      | inl some ↦ elim (cases_Bool (is_bad bytes)) [
        | inl bad ↦ at_bad n at bytes some bad ∙ sym (at_bad m at bytes some bad)
        | inr good ↦ elim (cases_eq (package_type bytes) END_PACKAGE) [
          | inl end ↦ elim (cases_lt 4 (length bytes)) [
            | inl more ↦ at_end n at bytes more good end ∙ sym (at_end m at bytes more good end)
            | inr last ↦ (
                let four : length bytes ≡ 4 = omega (arith, last, (is_good bytes good).header) in
                at_last n at bytes four good end ∙ sym (at_last m at bytes four good end))
          ]
          | inr other ↦
              at_whole n at bytes some good other
              ∙ same_faults n m (at + package_length bytes) (left bytes) (fewer_left bytes n good few) (fewer_left bytes m good fewer)
              ∙ sym (at_whole m at bytes some good other)
        ]
      ]
    ]

pub same_packages : (n m at : ℕ) (bytes : List ℕ) → length bytes ≤ n → length bytes ≤ m → packages_from n at bytes ≡ packages_from m at bytes
same_packages zero m at bytes few fewer =
    let bad : is_bad bytes ≡ true = bad_cut bytes (omega arith) in none_at_bad zero at bytes bad ∙ sym (none_at_bad m at bytes bad)
same_packages (suc n) zero at bytes few fewer =
    let bad : is_bad bytes ≡ true = bad_cut bytes (omega arith) in none_at_bad (suc n) at bytes bad ∙ sym (none_at_bad zero at bytes bad)
same_packages (suc n) (suc m) at bytes few fewer =
    elim (cases_Bool (is_bad bytes)) [
      | inl bad ↦ none_at_bad (suc n) at bytes bad ∙ sym (none_at_bad (suc m) at bytes bad)
      | inr good ↦ elim (cases_eq (package_type bytes) END_PACKAGE) [
        | inl end ↦ none_at_end (suc n) at bytes end ∙ sym (none_at_end (suc m) at bytes end)
        | inr other ↦
            one_at_whole n at bytes good other
            ∙ ap (λ (ps : List Package). front at bytes ∷ ps) (same_packages n m (at + package_length bytes) (left bytes) (fewer_left bytes n good few) (fewer_left bytes m good fewer))
            ∙ sym (one_at_whole m at bytes good other)
      ]
    ]

-- ---- one package on

by_one : (n : ℕ) → 0 < n → (m : ℕ) × (n ≡ suc m)
by_one zero some = absurd (omega arith)
by_one (suc m) some = (m, refl)

pub next_faults : (at : ℕ) (bytes : List ℕ) → is_bad bytes ≡ false → package_type bytes ≢ END_PACKAGE
    → faults_of_packages (length bytes) at bytes ≡ faults_of_packages (length (left bytes)) (at + package_length bytes) (left bytes)
next_faults at bytes good other =
    let some : 0 < length bytes = omega (arith, (is_good bytes good).header) in
    let m = by_one (length bytes) some in
    ap (λ (n : ℕ). faults_of_packages n at bytes) m.1
    ∙ at_whole m.0 at bytes some good other
    ∙ same_faults m.0 (length (left bytes)) (at + package_length bytes) (left bytes) (fewer_left bytes m.0 good (omega (arith, m.1))) (omega arith)

pub next_packages : (at : ℕ) (bytes : List ℕ) → is_bad bytes ≡ false → package_type bytes ≢ END_PACKAGE
    → packages_from (length bytes) at bytes ≡ front at bytes ∷ packages_from (length (left bytes)) (at + package_length bytes) (left bytes)
next_packages at bytes good other =
    let m = by_one (length bytes) (omega (arith, (is_good bytes good).header)) in
    ap (λ (n : ℕ). packages_from n at bytes) m.1
    ∙ one_at_whole m.0 at bytes good other
    ∙ ap (λ (ps : List Package). front at bytes ∷ ps) (same_packages m.0 (length (left bytes)) (at + package_length bytes) (left bytes) (fewer_left bytes m.0 good (omega (arith, m.1))) (omega arith))

-- the faults where no package is passed over
pub faults_of_none : (at : ℕ) (bytes : List ℕ) → length bytes ≡ 0 → faults_of_packages (length bytes) at bytes ≡ fault_at Cause.NoEnd at
faults_of_none at bytes none = at_no_bytes (length bytes) at bytes none

pub faults_of_bad : (at : ℕ) (bytes : List ℕ) → 0 < length bytes → is_bad bytes ≡ true → faults_of_packages (length bytes) at bytes ≡ fault_at Cause.PackageLength at
faults_of_bad at bytes some bad =
    let m = by_one (length bytes) some in ap (λ (n : ℕ). faults_of_packages n at bytes) m.1 ∙ at_bad m.0 at bytes some bad

pub faults_of_end : (at : ℕ) (bytes : List ℕ) → 4 < length bytes → is_bad bytes ≡ false → package_type bytes ≡ END_PACKAGE → faults_of_packages (length bytes) at bytes ≡ fault_at Cause.AfterEnd (at + 4)
faults_of_end at bytes more good end =
    let m = by_one (length bytes) (omega arith) in ap (λ (n : ℕ). faults_of_packages n at bytes) m.1 ∙ at_end m.0 at bytes more good end

pub faults_of_last : (at : ℕ) (bytes : List ℕ) → length bytes ≤ 4 → is_bad bytes ≡ false → package_type bytes ≡ END_PACKAGE → faults_of_packages (length bytes) at bytes ≡ []
faults_of_last at bytes last good end =
    let four : length bytes ≡ 4 = omega (arith, last, (is_good bytes good).header) in
    let m = by_one (length bytes) (omega arith) in ap (λ (n : ℕ). faults_of_packages n at bytes) m.1 ∙ at_last m.0 at bytes four good end

-- ---- bytes without a fault

some_fault : (cause : Cause) (place : ℕ) → fault_at cause place ≡ [] → ⊥
some_fault cause place e = some_faults (record { cause = cause; place = place }) [] e

pub good_where_whole : (at : ℕ) (bytes : List ℕ) → AreWhole at bytes → is_bad bytes ≡ false
good_where_whole at bytes are =
    elim (cases_lt 0 (length bytes)) [
      | inr none ↦ absurd (some_fault Cause.NoEnd at (sym (faults_of_none at bytes (omega arith)) ∙ are.sound))
      | inl some ↦ elim (cases_Bool (is_bad bytes)) [
        | inl bad ↦ absurd (some_fault Cause.PackageLength at (sym (faults_of_bad at bytes some bad) ∙ are.sound))
        | inr good ↦ good
      ]
    ]

pub whole_next : (at : ℕ) (bytes : List ℕ) → AreWhole at bytes → package_type bytes ≢ END_PACKAGE → AreWhole (at + package_length bytes) (left bytes)
whole_next at bytes are other =
    let good = good_where_whole at bytes are in record {
      sound = sym (next_faults at bytes good other) ∙ are.sound;
      small = omega (arith, length-drop (package_length bytes) bytes, (is_good bytes good).high, are.small);
    }

-- ---- one package on, as the code goes

-- what is left behind so many bytes, as a part of them
abbrev pub rest_of : List ℕ → ℕ → List ℕ
rest_of bytes size = take (length bytes - size) (drop size bytes)

pub faults_behind : (at size : ℕ) (bytes : List ℕ) → is_bad bytes ≡ false → package_type bytes ≢ END_PACKAGE → size ≡ package_length bytes
    → faults_of_packages (length bytes) at bytes ≡ faults_of_packages (length (rest_of bytes size)) (at + size) (rest_of bytes size)
faults_behind at size bytes good other told =
    next_faults at bytes good other
    ∙ ap (λ (n : ℕ). faults_of_packages (length (drop n bytes)) (at + n) (drop n bytes)) (sym told)
    ∙ ap (λ (rest : List ℕ). faults_of_packages (length rest) (at + size) rest) (sym (take_rest bytes size))

pub together_behind : (at size whole : ℕ) (bytes : List ℕ) → is_bad bytes ≡ false → size ≡ package_length bytes → at + length bytes ≡ whole → at + size + length (rest_of bytes size) ≡ whole
together_behind at size whole bytes good told all =
    let long : length (rest_of bytes size) ≡ length bytes - size = ap (λ (rest : List ℕ). length rest) (take_rest bytes size) ∙ length-drop size bytes in
    omega (arith, long, (is_good bytes good).high, told, all)

-- the package at the front of bytes, and what is left behind it
pub record IsFirst (place : ℕ) (bytes first behind : List ℕ) : Type 0 where
  pub header : 4 ≤ length first
  pub in_list : place + length first < 2 ^ 64
  pub whole : AreWhole (place + length first) behind
  pub seen : packages_from (length bytes) place bytes ≡ record { place = place; kind = package_type bytes; bytes = first } ∷ packages_from (length behind) (place + length first) behind

pub is_first : (place : ℕ) (bytes first behind : List ℕ) → AreWhole place bytes → package_type bytes ≢ END_PACKAGE → first ≡ take (package_length bytes) bytes → behind ≡ left bytes → IsFirst place bytes first behind
is_first place bytes first behind are other first_is behind_is =
    let good = good_where_whole place bytes are in
    let g = is_good bytes good in
    let size : length first ≡ package_length bytes = ap (λ (b : List ℕ). length b) first_is ∙ length-take-le (package_length bytes) bytes g.high in
    let with_bytes : List ℕ → Package = λ b. record { place = place; kind = package_type bytes; bytes = b } in
    record {
      header = omega (arith, size, g.low);
      in_list = omega (arith, size, g.high, are.small);
      whole = subst (AreWhole (place + length first)) (sym behind_is) (subst (λ (n : ℕ). AreWhole (place + n) (left bytes)) (sym size) (whole_next place bytes are other));
      seen = next_packages place bytes good other
          ∙ ap (λ (b : List ℕ). with_bytes b ∷ packages_from (length (left bytes)) (place + package_length bytes) (left bytes)) (sym first_is)
          ∙ ap (λ (n : ℕ). with_bytes first ∷ packages_from (length (left bytes)) (place + n) (left bytes)) (sym size)
          ∙ ap (λ (b : List ℕ). with_bytes first ∷ packages_from (length b) (place + length first) b) (sym behind_is);
    }

pub one_less : (ps later : List Package) (p : Package) → ps ≡ p ∷ later → length later < length ps
one_less ps later p e = let long : length ps ≡ suc (length later) = ap (λ (qs : List Package). length qs) e in omega (arith, long)

-- ---- packages have four bytes each

pub four_each : (n at : ℕ) (bytes : List ℕ) → 4 * length (packages_from n at bytes) ≤ length bytes
four_each zero at bytes = subst (λ (ps : List Package). 4 * length ps ≤ length bytes) (sym (none_at_zero at bytes)) (omega arith)
four_each (suc n) at bytes =
    elim (cases_Bool (is_bad bytes)) [
      | inl bad ↦ subst (λ (ps : List Package). 4 * length ps ≤ length bytes) (sym (none_at_bad (suc n) at bytes bad)) (omega arith)
      | inr good ↦ elim (cases_eq (package_type bytes) END_PACKAGE) [
        | inl end ↦ subst (λ (ps : List Package). 4 * length ps ≤ length bytes) (sym (none_at_end (suc n) at bytes end)) (omega arith)
        | inr other ↦ (
            let g = is_good bytes good in
            let more = four_each n (at + package_length bytes) (left bytes) in
            let rest = packages_from n (at + package_length bytes) (left bytes) in
            let all : 4 * length (front at bytes ∷ rest) ≤ length bytes = omega (arith, more, g.low, g.high, length-drop (package_length bytes) bytes) in
            subst (λ (ps : List Package). 4 * length ps ≤ length bytes) (sym (one_at_whole n at bytes good other)) all)
      ]
    ]

pub few_packages : (at : ℕ) (bytes : List ℕ) (ps : List Package) → AreWhole at bytes → ps ≡ packages_from (length bytes) at bytes → length ps < 2 ^ 62
few_packages at bytes ps are same =
    let long : length ps ≡ length (packages_from (length bytes) at bytes) = ap (λ (qs : List Package). length qs) same in
    omega (arith, long, four_each (length bytes) at bytes, are.small)
