-- The faults of a list: of its header, or of what stands behind it.
use Rattle.std.proofs.Common.{◌≡◌, ◌⊎◌, ℕ, ◌+◌, ◌-◌, ◌<◌, ◌≤◌, true, false, ◌||◌, List, [], ◌∷◌, length, take, drop, refl, ap, sym, ◌∙◌, inl, inr, arith}
use Rattle.std.specs.Prelude.{◌↔◌, ◌==◌, nat_lt, slice_get, slice_range, filter, Some, None, Option, IsSome, is_some, option_map, unwrap_or}
use Rattle.std.proofs.lemmas.List.{drop-take, length-drop, length-take-le}
use Rattle.std.proofs.lemmas.Bool.{cases_lt, lt-ltb, le-ltb, or_left, or_right, false≢true}
use Rattle.hii_bytes.specs.Faults.{IsLeastAmong}
use Rattle.hii_bytes.specs.declared.cause.Cause.TheVariants.{NoForms}
use Rattle.hii_bytes.specs.declared.cause.Fault.{Fault as CodeFault}
use Rattle.hii_bytes.proofs.ChapterFaultLemmas.{some_faults, least_alone}
use Rattle.browser_rules.specs.Faults.{Fault, fault_at, faults_of_packages, list_faults, number_faults}
use Rattle.browser_rules.specs.Packages.{DEVICE_PATH, Package, forms_package, list_length, packages_from}
use Rattle.browser_rules.specs.Words.{Cause}
use Rattle.hii_packages.specs.Packages.{packages_of}
use Rattle.hii_packages.specs.code.Sound.{AreWhole, IsSound}
use Rattle.hii_packages.specs.laws.Faults.{HasHeader}
use Rattle.hii_packages.proofs.LeftLemmas.{same_faults, same_packages}

-- ---- one way of the chapter after the other

pub short_faults : (list : List ℕ) → length list < 20 → list_faults list ≡ fault_at Cause.ListShort 0
short_faults list short = let is : nat_lt (length list) 20 ≡ true = lt-ltb _ _ short in rw is refl

pub length_faults : (list : List ℕ) → 20 ≤ length list → (list_length list < 20) ⊎ (length list < list_length list) → list_faults list ≡ fault_at Cause.ListLength 16
length_faults list long wrong =
    let is_not : nat_lt (length list) 20 ≡ false = le-ltb _ _ long in
    let is : nat_lt (list_length list) 20 || nat_lt (length list) (list_length list) ≡ true = by wrong in
    rw (is_not, is) refl
  where
    by : (list_length list < 20) ⊎ (length list < list_length list) → (nat_lt (list_length list) 20 || nat_lt (length list) (list_length list)) ≡ true
    by (inl low) = or_left _ _ (lt-ltb _ _ low)
    by (inr high) = or_right _ _ (lt-ltb _ _ high)

pub behind_header : (list : List ℕ) → HasHeader list → list_faults list ≡ faults_of_packages (length list) 20 (drop 20 (take (list_length list) list))
behind_header list h =
    let long : nat_lt (length list) 20 ≡ false = le-ltb _ _ h.header in
    let low : nat_lt (list_length list) 20 ≡ false = le-ltb _ _ h.low in
    let high : nat_lt (length list) (list_length list) ≡ false = le-ltb _ _ h.high in
    rw (long, low, high) refl

-- how the header of a list is
pub header_cases : (list : List ℕ) → (length list < 20) ⊎ ((20 ≤ length list) × ((list_length list < 20) ⊎ (length list < list_length list))) ⊎ HasHeader list
header_cases list =
    elim (cases_lt (length list) 20) [
      | inl short ↦ inl short
      | inr long ↦ elim (cases_lt (list_length list) 20) [
        | inl low ↦ inr (inl (long, inl low))
        | inr low ↦ elim (cases_lt (length list) (list_length list)) [
          | inl high ↦ inr (inl (long, inr high))
          | inr high ↦ inr (inr (record { header = long; low = low; high = high }))
        ]
      ]
    ]

-- a list without a fault has its header
pub has_header : (list : List ℕ) → list_faults list ≡ [] → HasHeader list
has_header list none =
    elim (header_cases list) [
      | inl short ↦ absurd (some_faults (record { cause = Cause.ListShort; place = 0 }) [] (sym (short_faults list short) ∙ none))
      | inr b ↦ elim b [
        | inl a ↦ absurd (some_faults (record { cause = Cause.ListLength; place = 16 }) [] (sym (length_faults list a.0 a.1) ∙ none))
        | inr h ↦ h
      ]
    ]

-- ---- the packages of a list as a part of it

-- the packages and the end package
abbrev pub body : List ℕ → List ℕ
body list = drop 20 (take (list_length list) list)

pub body_length : (list : List ℕ) → HasHeader list → length (body list) ≡ list_length list - 20
body_length list h =
    length-drop 20 (take (list_length list) list) ∙ ap (λ (n : ℕ). n - 20) (length-take-le (list_length list) list h.high)

pub body_cut : (list : List ℕ) → HasHeader list → body list ≡ slice_range list 20 (list_length list)
body_cut list h =
    let size : list_length list ≡ 20 + (list_length list - 20) = omega (arith, h.low) in
    ap (λ (n : ℕ). drop 20 (take n list)) size ∙ drop-take 20 (list_length list - 20) list

few_bytes : (list : List ℕ) → HasHeader list → length (body list) ≤ length list
few_bytes list h = omega (arith, body_length list h, h.high)

-- the faults of a list are those of its packages
pub faults_of_body : (list : List ℕ) (size : ℕ) → HasHeader list → size ≡ list_length list
    → list_faults list ≡ faults_of_packages (length (slice_range list 20 size)) 20 (slice_range list 20 size)
faults_of_body list size h told =
    behind_header list h
    ∙ same_faults (length list) (length (body list)) 20 (body list) (few_bytes list h) (omega arith)
    ∙ ap (λ (bytes : List ℕ). faults_of_packages (length bytes) 20 bytes) (body_cut list h ∙ ap (slice_range list 20) (sym told))

-- what a sound list has behind its header
pub record HasBody (list : List ℕ) (size : ℕ) : Type 0 where
  pub low : 20 ≤ size
  pub high : size ≤ length list
  pub whole : AreWhole 20 (slice_range list 20 size)
  pub packages : packages_from (length (slice_range list 20 size)) 20 (slice_range list 20 size) ≡ packages_of list

pub has_body : (list : List ℕ) (size : ℕ) → IsSound list size → HasBody list size
has_body list size is =
    let h = has_header list is.sound in
    let cut : body list ≡ slice_range list 20 size = body_cut list h ∙ ap (slice_range list 20) (sym is.told) in
    record {
      low = omega (arith, is.told, h.low);
      high = omega (arith, is.told, h.high);
      whole = record {
        sound = sym (faults_of_body list size h is.told) ∙ is.sound;
        small = omega (arith, ap (λ (bytes : List ℕ). length bytes) cut, body_length list h, h.low, h.high, is.small);
      };
      packages = sym (ap (λ (bytes : List ℕ). packages_from (length bytes) 20 bytes) cut)
          ∙ same_packages (length (body list)) (length list) 20 (body list) (omega arith) (few_bytes list h);
    }

-- ---- the number of a forms package

pub missing_faults : (list : List ℕ) (n : ℕ) → forms_package list n ≡ None → number_faults list n ≡ fault_at Cause.NoForms 0
missing_faults list n none = rw none refl

pub found_faults : (list : List ℕ) (n : ℕ) (p : Package) → forms_package list n ≡ Some p → number_faults list n ≡ []
found_faults list n p some = rw some refl

abbrev pub no_forms : CodeFault
no_forms = record { cause = NoForms; place = 0 }

pub missing_least : (list : List ℕ) (n : ℕ) → forms_package list n ≡ None → IsLeastAmong (number_faults list n) no_forms
missing_least list n none = least_alone (number_faults list n) no_forms (missing_faults list n none)

pub there_without_fault : (list : List ℕ) (n : ℕ) → ((number_faults list n ≡ []) ↔ IsSome (forms_package list n))
there_without_fault list n = by (forms_package list n) refl
  where
    by : (o : Option Package) → forms_package list n ≡ o → ((number_faults list n ≡ []) ↔ IsSome (forms_package list n))
    by None none = (
      λ sound. absurd (some_faults (record { cause = Cause.NoForms; place = 0 }) [] (sym (missing_faults list n none) ∙ sound)),
      λ some. absurd (false≢true (sym (ap is_some none) ∙ some)),
    )
    by (Some p) some = (λ sound. ap is_some some, λ _. found_faults list n p some)

-- ---- what is left of a list

-- the packages of a Type
abbrev pub of_type : ℕ → List Package → List Package
of_type kind ps = filter (λ p. p.kind == kind) ps

-- the device path of packages
abbrev pub path_in : List Package → List ℕ
path_in ps = unwrap_or (option_map (λ p. drop 4 p.bytes) (slice_get (of_type DEVICE_PATH ps) 0)) []
