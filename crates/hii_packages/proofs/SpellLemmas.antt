-- A list has no fault exactly where it spells packages, and then these are read.
use Rattle.std.proofs.Common.{◌≡◌, ◌≢◌, ℕ, zero, suc, ◌+◌, ◌-◌, ◌<◌, ◌≤◌, false, List, [], ◌∷◌, ◌++◌, length, take, drop, map, refl, ap, sym, ◌∙◌, subst, inl, inr, arith, append_assoc, length-append, lit≤}
use Rattle.std.specs.Prelude.{filter, ◌==◌}
use Rattle.std.specs.List.{AllByRecursion, concat}
use Rattle.std.proofs.lemmas.List.{take-append-drop, drop-drop, drop-take, length-drop, length-take-le, get_or-take, take_at, drop_at, get_or_append_left}
use Rattle.std.proofs.lemmas.Bool.{cases_Bool, cases_lt, cases_eq}
use Rattle.browser_rules.specs.Faults.{Fault, fault_at, faults_of_packages, list_faults}
use Rattle.browser_rules.specs.Packages.{Package, END_PACKAGE, is_bad, list_length, package_length, package_type, packages_from, packages_with}
use Rattle.browser_rules.specs.Words.{Cause, number_in}
use Rattle.hii_bytes.proofs.ChapterFaultLemmas.{some_faults}
use Rattle.hii_bytes.proofs.NumberLemmas.{number_in-append}
use Rattle.hii_packages.specs.Packages.{packages_of}
use Rattle.hii_packages.specs.laws.Faults.{HasHeader}
use Rattle.hii_packages.specs.laws.Places.{LiesIn}
use Rattle.hii_packages.specs.laws.Spelling.{IsPackage, SpellsPackages, end_package, placed}
use Rattle.hii_packages.proofs.FrontLemmas.{front, good_header, good_end, is_good, at_zero, at_no_bytes, at_bad, at_end, at_last, at_whole, none_at_end, one_at_whole}
use Rattle.hii_packages.proofs.LeftLemmas.{left}
use Rattle.hii_packages.proofs.ListLemmas.{behind_header, body, body_cut, body_length, has_header}

-- ---- a package that is spelled at the front

record IsFront (p tail : List ℕ) : Type 0 where
  good : is_bad (p ++ tail) ≡ false
  other : package_type (p ++ tail) ≢ END_PACKAGE
  size : package_length (p ++ tail) ≡ length p
  kind : package_type (p ++ tail) ≡ package_type p
  first : take (package_length (p ++ tail)) (p ++ tail) ≡ p
  behind : left (p ++ tail) ≡ tail

is_front : (p tail : List ℕ) → IsPackage p → IsFront p tail
is_front p tail h =
    let size : package_length (p ++ tail) ≡ length p = number_in-append p tail 0 3 (omega (arith, h.header)) ∙ h.sized in
    let kind : package_type (p ++ tail) ≡ package_type p = get_or_append_left p tail 0 3 (omega (arith, h.header)) in
    record {
      good = good_header (p ++ tail) (omega (arith, size, h.header)) (omega (arith, size, length-append p tail)) (λ e. h.kind (sym kind ∙ e));
      other = λ e. h.kind (sym kind ∙ e);
      size = size;
      kind = kind;
      first = ap (λ (n : ℕ). take n (p ++ tail)) size ∙ take_at p tail (length p) refl;
      behind = ap (λ (n : ℕ). drop n (p ++ tail)) size ∙ drop_at p tail (length p) refl;
    }

abbrev package_at : ℕ → List ℕ → Package
package_at at p = record { place = at; kind = package_type p; bytes = p }

front_is : (at : ℕ) (p tail : List ℕ) → IsPackage p → front at (p ++ tail) ≡ package_at at p
front_is at p tail h =
    let f = is_front p tail h in
    let kind = f.kind in
    let first = f.first in
    λ i. record { place = at; kind = kind i; bytes = first i }

-- ---- packages that are spelled

more : (p : List ℕ) (ps : List (List ℕ)) (n : ℕ) → IsPackage p → length (concat (p ∷ ps)) ≤ suc n → length (concat ps) ≤ n
more p ps n h few = omega (arith, h.header, length-append p (concat ps), few)

placed_read : (n at : ℕ) (ps : List (List ℕ)) (tail : List ℕ) → AllByRecursion IsPackage ps → package_type tail ≡ END_PACKAGE → length (concat ps) ≤ n
    → packages_from n at (concat ps ++ tail) ≡ placed at ps
placed_read n at [] tail each end few = none_at_end n at tail end
placed_read zero at (p ∷ ps) tail each end few = absurd (omega (arith, each.0.header, length-append p (concat ps), few))
placed_read (suc n) at (p ∷ ps) tail each end few =
    let rest = concat ps ++ tail in
    let f = is_front p rest each.0 in
    let again = placed_read n (at + length p) ps tail each.1 end (more p ps n each.0 few) in
    ap (packages_from (suc n) at) (append_assoc p (concat ps) tail)
    ∙ one_at_whole n at (p ++ rest) f.good f.other
    ∙ ap (λ (q : Package). q ∷ packages_from n (at + package_length (p ++ rest)) (left (p ++ rest))) (front_is at p rest each.0)
    ∙ ap (λ (qs : List Package). package_at at p ∷ qs)
    (ap (λ (k : ℕ). packages_from n (at + k) (left (p ++ rest))) f.size ∙ ap (packages_from n (at + length p)) f.behind ∙ again)

size_of_end : package_length end_package ≡ 4
unfolding number_in
size_of_end = refl

placed_sound : (n at : ℕ) (ps : List (List ℕ)) → AllByRecursion IsPackage ps → 4 + length (concat ps) ≤ n → faults_of_packages n at (concat ps ++ end_package) ≡ []
placed_sound zero at ps each few = absurd (omega (arith, few))
placed_sound (suc n) at [] each few = at_last n at end_package refl (good_end end_package (lit≤ tt) size_of_end) refl
placed_sound (suc n) at (p ∷ ps) each few =
    let rest = concat ps ++ end_package in
    let f = is_front p rest each.0 in
    let again = placed_sound n (at + length p) ps each.1 (omega (arith, each.0.header, length-append p (concat ps), few)) in
    ap (faults_of_packages (suc n) at) (append_assoc p (concat ps) end_package)
    ∙ at_whole n at (p ++ rest) (omega (arith, each.0.header, length-append p rest)) f.good f.other
    ∙ ap (λ (k : ℕ). faults_of_packages n (at + k) (left (p ++ rest))) f.size
    ∙ ap (faults_of_packages n (at + length p)) f.behind
    ∙ again

-- ---- a list that spells packages

record IsSpelled (list : List ℕ) (ps : List (List ℕ)) : Type 0 where
  header : HasHeader list
  enough : 4 + length (concat ps) ≤ length list
  parts : body list ≡ concat ps ++ end_package

is_spelled : (list : List ℕ) (ps : List (List ℕ)) → SpellsPackages list ps → IsSpelled list ps
is_spelled list ps s =
    let packages = concat ps ++ end_package in
    let long : length list - 20 ≡ length (concat ps) + (4 + length s.rest) = omega (arith, length-drop 20 list, ap length s.whole, length-append (concat ps) (end_package ++ s.rest)) in
    let size : length packages ≡ 4 + length (concat ps) = omega (arith, length-append (concat ps) end_package) in
    let told : list_length list ≡ 20 + (4 + length (concat ps)) = omega (arith, s.list_length) in
    record {
      header = record { header = omega (arith, long); low = omega (arith, told); high = omega (arith, told, long) };
      enough = omega (arith, long);
      parts = ap (λ (n : ℕ). drop 20 (take n list)) told
          ∙ drop-take 20 (4 + length (concat ps)) list
          ∙ ap (take (4 + length (concat ps))) (s.whole ∙ sym (append_assoc (concat ps) end_package s.rest))
          ∙ take_at packages s.rest (4 + length (concat ps)) size;
    }

pub spelled_sound : (list : List ℕ) (ps : List (List ℕ)) → SpellsPackages list ps → list_faults list ≡ []
spelled_sound list ps s =
    let is = is_spelled list ps s in
    behind_header list is.header ∙ ap (faults_of_packages (length list) 20) is.parts ∙ placed_sound (length list) 20 ps s.each is.enough

pub spelled_read : (list : List ℕ) (ps : List (List ℕ)) → SpellsPackages list ps → packages_of list ≡ placed 20 ps
spelled_read list ps s =
    let is = is_spelled list ps s in
    ap (packages_from (length list) 20) is.parts ∙ placed_read (length list) 20 ps end_package s.each refl (omega (arith, is.enough))

pub spelled_of_type : (list : List ℕ) (ps : List (List ℕ)) (kind : ℕ) → SpellsPackages list ps → packages_with kind list ≡ filter (λ (p : Package). p.kind == kind) (placed 20 ps)
spelled_of_type list ps kind s = ap (filter (λ (p : Package). p.kind == kind)) (spelled_read list ps s)

-- the bytes of packages
abbrev bytes_of : Package → List ℕ
bytes_of p = p.bytes

bytes_of_placed : (at : ℕ) (ps : List (List ℕ)) → map bytes_of (placed at ps) ≡ ps
bytes_of_placed at [] = refl
bytes_of_placed at (p ∷ ps) = ap (λ (qs : List (List ℕ)). p ∷ qs) (bytes_of_placed (at + length p) ps)

pub one_spelled : (list : List ℕ) (ps qs : List (List ℕ)) → SpellsPackages list ps → SpellsPackages list qs → ps ≡ qs
one_spelled list ps qs s t =
    sym (bytes_of_placed 20 ps) ∙ ap (map bytes_of) (sym (spelled_read list ps s) ∙ spelled_read list qs t) ∙ bytes_of_placed 20 qs

-- ---- a list without a fault

-- The bytes are these packages and the end package.
record IsCut (bytes : List ℕ) (packages : List Package) : Type 0 where
  each : AllByRecursion IsPackage (map bytes_of packages)
  whole : bytes ≡ concat (map bytes_of packages) ++ end_package

front_package : (bytes : List ℕ) → is_bad bytes ≡ false → package_type bytes ≢ END_PACKAGE → IsPackage (take (package_length bytes) bytes)
front_package bytes good other =
    let g = is_good bytes good in
    let n = package_length bytes in
    let long : length (take n bytes) ≡ n = length-take-le n bytes g.high in
    record {
      header = omega (arith, long, g.low);
      sized = sym (number_in-append (take n bytes) (drop n bytes) 0 3 (omega (arith, long, g.low))) ∙ ap (λ (b : List ℕ). number_in b 0 3) (take-append-drop n bytes) ∙ sym long;
      kind = λ e. other (sym (get_or-take n bytes 3 0 (omega (arith, g.low))) ∙ e);
    }

end_where : (bytes : List ℕ) → length bytes ≡ 4 → package_length bytes ≡ 4 → package_type bytes ≡ END_PACKAGE → bytes ≡ end_package
unfolding number_in
end_where [] four size kind = absurd (omega (arith, four))
end_where (x ∷ []) four size kind = absurd (omega (arith, four))
end_where (x ∷ y ∷ []) four size kind = absurd (omega (arith, four))
end_where (x ∷ y ∷ z ∷ []) four size kind = absurd (omega (arith, four))
end_where (x ∷ y ∷ z ∷ k ∷ []) four size kind =
    let first : x ≡ 4 = omega (arith, size) in
    let second : y ≡ 0 = omega (arith, size) in
    let third : z ≡ 0 = omega (arith, size) in
    let last : k ≡ END_PACKAGE = kind in
    λ i. first i ∷ second i ∷ third i ∷ last i ∷ []
end_where (x ∷ y ∷ z ∷ k ∷ b ∷ bytes) four size kind = absurd (omega (arith, four))

some_fault : (cause : Cause) (place : ℕ) → fault_at cause place ≡ [] → ⊥
some_fault cause place e = some_faults (record { cause = cause; place = place }) [] e

cut : (n at : ℕ) (bytes : List ℕ) → faults_of_packages n at bytes ≡ [] → IsCut bytes (packages_from n at bytes)
cut zero at bytes none = absurd (some_fault Cause.NoEnd at (sym (at_zero at bytes) ∙ none))
cut (suc n) at bytes none =
    elim (cases_lt 0 (length bytes)) [
      | inr empty ↦ absurd (some_fault Cause.NoEnd at (sym (at_no_bytes (suc n) at bytes (omega arith)) ∙ none))
      | inl some ↦ elim (cases_Bool (is_bad bytes)) [
        | inl bad ↦ absurd (some_fault Cause.PackageLength at (sym (at_bad n at bytes some bad) ∙ none))
        | inr good ↦ elim (cases_eq (package_type bytes) END_PACKAGE) [
          | inl end ↦ elim (cases_lt 4 (length bytes)) [
            | inl more ↦ absurd (some_fault Cause.AfterEnd (at + 4) (sym (at_end n at bytes more good end) ∙ none))
            | inr last ↦ (
                let g = is_good bytes good in
                let is : IsCut bytes [] = record { each = tt; whole = end_where bytes (omega (arith, last, g.header)) (g.end end) end } in
                subst (IsCut bytes) (sym (none_at_end (suc n) at bytes end)) is)
          ]
          | inr other ↦ (
              let size = package_length bytes in
              let rest = cut n (at + size) (left bytes) (sym (at_whole n at bytes some good other) ∙ none) in
              let is : IsCut bytes (front at bytes ∷ packages_from n (at + size) (left bytes)) = record {
                each = (front_package bytes good other, rest.each);
                whole = sym (take-append-drop size bytes)
                    ∙ ap (λ (b : List ℕ). take size bytes ++ b) rest.whole
                    ∙ sym (append_assoc (take size bytes) (concat (map bytes_of (packages_from n (at + size) (left bytes)))) end_package);
              } in
              subst (IsCut bytes) (sym (one_at_whole n at bytes good other)) is)
        ]
      ]
    ]

pub spelled_where_sound : (list : List ℕ) → list_faults list ≡ [] → SpellsPackages list (map bytes_of (packages_of list))
spelled_where_sound list none =
    let h = has_header list none in
    let is = cut (length list) 20 (body list) (sym (behind_header list h) ∙ none) in
    let ps = map bytes_of (packages_of list) in
    let whole : body list ≡ concat ps ++ end_package = is.whole in
    let rest = drop (list_length list - 20) (drop 20 list) in
    record {
      each = is.each;
      rest = rest;
      whole = sym (take-append-drop (list_length list - 20) (drop 20 list))
          ∙ ap (λ (b : List ℕ). b ++ rest) (sym (body_cut list h) ∙ whole)
          ∙ append_assoc (concat ps) end_package rest;
      list_length = omega (arith, body_length list h, ap length whole, length-append (concat ps) end_package, h.low);
    }

-- ---- where packages lie

placed_lie : (list tail : List ℕ) (ps : List (List ℕ)) (place : ℕ) → drop place list ≡ concat ps ++ tail → AllByRecursion (LiesIn list) (placed place ps)
placed_lie list tail [] place stand = tt
placed_lie list tail (p ∷ ps) place stand =
    let size : place + length p - place ≡ length p = omega arith in
    let first : drop place list ≡ p ++ (concat ps ++ tail) = stand ∙ append_assoc p (concat ps) tail in
    let here : take (length p) (drop place list) ≡ p = ap (take (length p)) first ∙ take_at p (concat ps ++ tail) (length p) refl in
    let next : drop (place + length p) list ≡ concat ps ++ tail = sym (drop-drop (length p) place list) ∙ ap (drop (length p)) first ∙ drop_at p (concat ps ++ tail) (length p) refl in
    ((ap (λ (n : ℕ). take n (drop place list)) size ∙ here, refl), placed_lie list tail ps (place + length p) next)

pub read_lie : (list : List ℕ) → list_faults list ≡ [] → AllByRecursion (LiesIn list) (packages_of list)
read_lie list none =
    let s = spelled_where_sound list none in
    let ps = map bytes_of (packages_of list) in
    subst (AllByRecursion (LiesIn list)) (sym (spelled_read list ps s)) (placed_lie list (end_package ++ s.rest) ps 20 s.whole)
