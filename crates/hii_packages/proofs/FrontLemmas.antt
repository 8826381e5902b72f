-- What stands at the front of bytes, and what packages from there on are and lack.
use Rattle.std.proofs.Common.{◌≡◌, ◌≢◌, ℕ, zero, suc, ◌+◌, ◌<◌, ◌≤◌, true, false, ◌||◌, List, [], ◌∷◌, length, take, drop, refl, ◌∙◌, arith}
use Rattle.std.specs.Prelude.{◌==◌, nat_lt}
use Rattle.std.proofs.lemmas.Bool.{lt-ltb, le-ltb, eq-eqb, ne_eqb, or_left, or_right, or_from}
use Rattle.std.proofs.lemmas.Bool.Decides.{nat_tests}
use Rattle.browser_rules.specs.Faults.{Fault, fault_at, faults_of_packages}
use Rattle.browser_rules.specs.Packages.{Package, END_PACKAGE, is_bad, package_length, package_type, packages_from}
use Rattle.browser_rules.specs.Words.{Cause}

-- ---- whether a whole package stands there

pub good_header : (bytes : List ℕ) → 4 ≤ package_length bytes → package_length bytes ≤ length bytes → package_type bytes ≢ 0xdf → is_bad bytes ≡ false
good_header bytes low high other = grind (arith, nat_tests)

pub good_end : (bytes : List ℕ) → 4 ≤ length bytes → package_length bytes ≡ 4 → is_bad bytes ≡ false
good_end bytes long four = grind (arith, nat_tests)

pub bad_cut : (bytes : List ℕ) → length bytes < 4 → is_bad bytes ≡ true
bad_cut bytes h = grind (arith, nat_tests)

pub bad_low : (bytes : List ℕ) → package_length bytes < 4 → is_bad bytes ≡ true
bad_low bytes h = grind (arith, nat_tests)

pub bad_high : (bytes : List ℕ) → length bytes < package_length bytes → is_bad bytes ≡ true
bad_high bytes h = grind (arith, nat_tests)

pub bad_end : (bytes : List ℕ) → package_type bytes ≡ 0xdf → package_length bytes ≢ 4 → is_bad bytes ≡ true
bad_end bytes h k = grind (arith, nat_tests)

-- what no bad header is
pub record IsGood (bytes : List ℕ) : Type 0 where
  pub header : 4 ≤ length bytes
  pub low : 4 ≤ package_length bytes
  pub high : package_length bytes ≤ length bytes
  pub end : package_type bytes ≡ 0xdf → package_length bytes ≡ 4

long_where : (bytes : List ℕ) → is_bad bytes ≡ false → 4 ≤ length bytes
long_where bytes good = grind (arith, nat_tests)

low_where : (bytes : List ℕ) → is_bad bytes ≡ false → 4 ≤ package_length bytes
low_where bytes good = grind (arith, nat_tests)

high_where : (bytes : List ℕ) → is_bad bytes ≡ false → package_length bytes ≤ length bytes
high_where bytes good = grind (arith, nat_tests)

four_where : (bytes : List ℕ) → is_bad bytes ≡ false → package_type bytes ≡ 0xdf → package_length bytes ≡ 4
four_where bytes good end = grind (arith, nat_tests)

pub is_good : (bytes : List ℕ) → is_bad bytes ≡ false → IsGood bytes
is_good bytes good = record { header = long_where bytes good; low = low_where bytes good; high = high_where bytes good; end = four_where bytes good }

-- ---- the faults, one way of the chapter after the other

pub at_no_bytes : (n at : ℕ) (bytes : List ℕ) → length bytes ≡ 0 → faults_of_packages n at bytes ≡ fault_at Cause.NoEnd at
unfolding faults_of_packages
at_no_bytes zero at bytes none = refl
at_no_bytes (suc n) at bytes none = rw none refl

pub at_zero : (at : ℕ) (bytes : List ℕ) → faults_of_packages zero at bytes ≡ fault_at Cause.NoEnd at
unfolding faults_of_packages
at_zero at bytes = refl

pub at_bad : (n at : ℕ) (bytes : List ℕ) → 0 < length bytes → is_bad bytes ≡ true → faults_of_packages (suc n) at bytes ≡ fault_at Cause.PackageLength at
unfolding faults_of_packages
at_bad n at bytes some bad = let more : (length bytes == 0) ≡ false = ne_eqb _ _ (λ e. omega (arith, e)) in rw (more, bad) refl

pub at_end : (n at : ℕ) (bytes : List ℕ) → 4 < length bytes → is_bad bytes ≡ false → package_type bytes ≡ END_PACKAGE
    → faults_of_packages (suc n) at bytes ≡ fault_at Cause.AfterEnd (at + 4)
unfolding faults_of_packages
at_end n at bytes some good end =
    let more : (length bytes == 0) ≡ false = ne_eqb _ _ (λ e. omega (arith, e)) in
    let is : (package_type bytes == 0xdf) ≡ true = eq-eqb _ _ end in
    let left : nat_lt 4 (length bytes) ≡ true = lt-ltb _ _ some in
    rw (more, good, is, left) refl

pub at_last : (n at : ℕ) (bytes : List ℕ) → length bytes ≡ 4 → is_bad bytes ≡ false → package_type bytes ≡ END_PACKAGE → faults_of_packages (suc n) at bytes ≡ []
unfolding faults_of_packages
at_last n at bytes four good end =
    let more : (length bytes == 0) ≡ false = ne_eqb _ _ (λ e. omega (arith, e)) in
    let is : (package_type bytes == 0xdf) ≡ true = eq-eqb _ _ end in
    let left : nat_lt 4 (length bytes) ≡ false = le-ltb _ _ (omega arith) in
    rw (more, good, is, left) refl

pub at_whole : (n at : ℕ) (bytes : List ℕ) → 0 < length bytes → is_bad bytes ≡ false → package_type bytes ≢ END_PACKAGE
    → faults_of_packages (suc n) at bytes ≡ faults_of_packages n (at + package_length bytes) (drop (package_length bytes) bytes)
unfolding faults_of_packages
at_whole n at bytes some good other =
    let more : (length bytes == 0) ≡ false = ne_eqb _ _ (λ e. omega (arith, e)) in
    let is_not : (package_type bytes == 0xdf) ≡ false = ne_eqb _ _ other in
    rw (more, good, is_not) refl

-- ---- the packages, one way of the chapter after the other

-- the package at the front of bytes at a place
abbrev pub front : ℕ → List ℕ → Package
front at bytes = record { place = at; kind = package_type bytes; bytes = take (package_length bytes) bytes }

pub none_at_zero : (at : ℕ) (bytes : List ℕ) → packages_from zero at bytes ≡ []
unfolding packages_from
none_at_zero at bytes = refl

pub none_at_bad : (n at : ℕ) (bytes : List ℕ) → is_bad bytes ≡ true → packages_from n at bytes ≡ []
unfolding packages_from
none_at_bad zero at bytes bad = refl
none_at_bad (suc n) at bytes bad =
    let stop : (is_bad bytes || (package_type bytes == 0xdf)) ≡ true = or_left (is_bad bytes) (package_type bytes == 0xdf) bad in rw stop refl

pub none_at_end : (n at : ℕ) (bytes : List ℕ) → package_type bytes ≡ END_PACKAGE → packages_from n at bytes ≡ []
unfolding packages_from
none_at_end zero at bytes end = refl
none_at_end (suc n) at bytes end =
    let stop : (is_bad bytes || (package_type bytes == 0xdf)) ≡ true = or_right (is_bad bytes) (package_type bytes == 0xdf) (eq-eqb _ _ end) in rw stop refl

pub one_at_whole : (n at : ℕ) (bytes : List ℕ) → is_bad bytes ≡ false → package_type bytes ≢ END_PACKAGE
    → packages_from (suc n) at bytes ≡ front at bytes ∷ packages_from n (at + package_length bytes) (drop (package_length bytes) bytes)
unfolding packages_from
one_at_whole n at bytes good other =
    let on : (is_bad bytes || (package_type bytes == 0xdf)) ≡ false = or_from (is_bad bytes) (package_type bytes == 0xdf) good (ne_eqb _ _ other) in rw on refl
