-- What string packages say, and their faults.
use Rattle.std.proofs.Common.{◌≡◌, ℕ, ◌==◌, Bool, true, List, [], ◌∷◌, ◌++◌, filter, map, length, take, nat_lt, Option, Some, None, inl, inr, arith, refl, ap, sym, ◌∙◌, subst, append_assoc}
use Rattle.std.proofs.lemmas.List.{append-nil, map-append, take_all}
use Rattle.std.proofs.lemmas.Bool.{cases_Bool, cond-true, cond-false}
use Rattle.std.proofs.lemmas.Bool.Decides.{nat_tests}
use Rattle.std.specs.List.{position, position_or_len, before_first}
use Rattle.browser_rules.specs.Packages.{Package, STRINGS}
use Rattle.browser_rules.specs.Strings.{Spoken, spoken_by}
use Rattle.browser_rules.specs.Faults.{Fault, string_package_faults, each_package, then_faults}
use Rattle.hii_bytes.specs.declared.cause.Fault.{Fault as CodeFault}
use Rattle.hii_bytes.specs.Faults.{IsLeastAmong}
use Rattle.hii_bytes.proofs.ChapterFaultLemmas.{then_faults_none}
use Rattle.sibt_strings.proofs.FaultLemmas.{some_least, speech_read, read_speech}
use Rattle.hii_languages.specs.laws.Speaking.{AreSpoken}

-- ---- what is said

-- what is said of packages
pub record AreRead (ps : List Package) (spoken : List Spoken) : Type 0 where
  pub said : spoken ≡ map spoken_by ps
  pub sound : each_package ps ≡ []

pub speech_of_each : (ps : List Package) (spoken : List Spoken) → AreSpoken ps spoken → AreRead ps spoken
speech_of_each [] [] a = record { said = refl; sound = refl }
speech_of_each [] (s ∷ ss) a = absurd a
speech_of_each (p ∷ ps) [] a = absurd a
speech_of_each (p ∷ ps) (s ∷ ss) a =
    let first = speech_read p s a.0 in
    let others = speech_of_each ps ss a.1 in
    record {
      said = ap (λ x. x ∷ ss) first.0 ∙ ap (λ xs. spoken_by p ∷ xs) others.said;
      sound = ap (λ fs. then_faults fs (each_package ps)) first.1 ∙ others.sound;
    }

pub one_speech_of_each : (ps : List Package) (spoken other : List Spoken) → AreSpoken ps spoken → AreSpoken ps other → spoken ≡ other
one_speech_of_each ps spoken other a b = (speech_of_each ps spoken a).said ∙ sym (speech_of_each ps other b).said

pub each_speech : (ps : List Package) → each_package ps ≡ [] → AreSpoken ps (map spoken_by ps)
each_speech [] none = tt
each_speech (p ∷ ps) none =
    let parts = then_faults_none (string_package_faults p) (each_package ps) none in
    (read_speech p parts.0, each_speech ps parts.1)

-- ---- packages that are read one by one

-- the faults behind packages that have none
faults_later : (ps later : List Package) → each_package ps ≡ [] → each_package (ps ++ later) ≡ each_package later
faults_later [] later none = refl
faults_later (p ∷ ps) later none =
    let parts = then_faults_none (string_package_faults p) (each_package ps) none in
    ap (λ fs. then_faults fs (each_package (ps ++ later))) parts.0 ∙ faults_later ps later parts.1

-- the faults of a part that has one are all
pub first_faults : (faults behind : List Fault) → (faults ≡ [] → ⊥) → then_faults faults behind ≡ faults
first_faults [] behind some = absurd (some refl)
first_faults (f ∷ fs) behind some = refl

abbrev pub is_strings : Package → Bool
is_strings e = e.kind == STRINGS

-- Of the packages some are read, and these say what was found; others are left.
pub record IsRead (all : List Package) (spoken : List Spoken) (left : List Package) : Type 0 where
  pub done : List Package
  pub parts : filter is_strings all ≡ done ++ filter is_strings left
  pub read : AreRead done spoken

pub read_more : (all : List Package) (spoken : List Spoken) (e : Package) (left : List Package) (s : Spoken) → IsRead all spoken (e ∷ left) → is_strings e ≡ true
    → s ≡ spoken_by e → string_package_faults e ≡ [] → IsRead all (spoken ++ s ∷ []) left
read_more all spoken e left s r strings says none = record {
  done = r.done ++ e ∷ [];
  parts = r.parts ∙ ap (λ es. r.done ++ es) (rw strings refl) ∙ sym (append_assoc r.done (e ∷ []) (filter is_strings left));
  read = record {
    said = ap (λ ss. ss ++ s ∷ []) r.read.said ∙ ap (λ x. map spoken_by r.done ++ x ∷ []) says ∙ sym (map-append spoken_by r.done (e ∷ []));
    sound = faults_later r.done (e ∷ []) r.read.sound ∙ ap (λ fs. then_faults fs []) none;
  };
}

-- the least fault of a package is that of all, where those before it have none
pub read_fault : (all : List Package) (spoken : List Spoken) (e : Package) (left : List Package) (fault : CodeFault) → IsRead all spoken (e ∷ left) → is_strings e ≡ true
    → IsLeastAmong (string_package_faults e) fault → IsLeastAmong (each_package (filter is_strings all)) fault
read_fault all spoken e left fault r strings least =
    let parts = r.parts ∙ ap (λ es. r.done ++ es) (rw strings refl) in
    let faults = ap each_package parts ∙ faults_later r.done (e ∷ filter is_strings left) r.read.sound
    ∙ first_faults (string_package_faults e) (each_package (filter is_strings left)) (some_least (string_package_faults e) fault least) in
    subst (λ (fs : List Fault). IsLeastAmong fs fault) (sym faults) least

-- what stands before the first of the bytes that pass a test, by their place
pub before_first-some : (p : ℕ → Bool) (xs : List ℕ) (n : ℕ) → Some n ≡ position p xs → take n xs ≡ before_first p xs
before_first-some p xs n e = elim (cases_Bool (nat_lt (position_or_len p xs) (length xs))) [
  | inl within ↦ ap (λ k. take k xs) (same n (position_or_len p xs) (e ∙ cond-true _ _ _ within))
  | inr past ↦ absurd (none n (e ∙ cond-false _ _ _ past))
]
  where
    same : (a b : ℕ) → Some a ≡ Some b → a ≡ b
    same a b e = cc

    none : (a : ℕ) → ◌≡◌ {A = Option ℕ} (Some a) None → ⊥
    none a e = cc

pub before_first-none : (p : ℕ → Bool) (xs : List ℕ) → None ≡ position p xs → xs ≡ before_first p xs
before_first-none p xs e = elim (cases_Bool (nat_lt (position_or_len p xs) (length xs))) [
  | inl within ↦ absurd (none (position_or_len p xs) (e ∙ cond-true _ _ _ within))
  | inr past ↦ sym (take_all (position_or_len p xs) xs (grind (arith, nat_tests)))
]
  where
    none : (a : ℕ) → ◌≡◌ {A = Option ℕ} None (Some a) → ⊥
    none a e = cc
