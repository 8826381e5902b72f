-- Texts that string packages lack are counted, and string packages are read one by one.
use Rattle.std.proofs.Common.{◌≡◌, ℕ, zero, suc, ◌+◌, ◌-◌, ◌≤◌, ◌<◌, ◌^◌, Bool, true, false, cond, not, Option, None, Some, List, [], ◌∷◌, ◌++◌, length, take, drop, filter, map, refl, sym, ap, subst, ◌∙◌, append_assoc, append-nil, arith, inl, inr}
use Rattle.std.specs.Prelude.{◌&&◌, slice_get, unwrap_or}
use Rattle.std.specs.List.{count_by}
use Rattle.std.proofs.lemmas.List.{length-drop, length-map, length-take, map-append}
use Rattle.std.proofs.lemmas.List.Elements.{filter-append}
use Rattle.std.proofs.lemmas.List.Sums.{count_by-le-length, length-filter, sum_by-cons}
use Rattle.browser_rules.specs.Faults.{each_package, string_package_faults}
use Rattle.browser_rules.specs.Packages.{Package, list_length, packages_from}
use Rattle.browser_rules.specs.Strings.{Spoken, spoken_by}
use Rattle.sibt_strings.specs.Shared.{every_id, has_text, texts_in_both}
use Rattle.hii_bytes.specs.Faults.{RefusesAmong}
use Rattle.hii_bytes.specs.declared.cause.Fault.{Fault}
use Rattle.hii_packages.proofs.LeftLemmas.{four_each}
use Rattle.hii_languages.proofs.SpokenLemmas.{IsRead, is_strings, read_fault, read_more}
use Rattle.check_audit.specs.Lacks.{Lack, is_lacking, lacks_among, lacks_in, lacks_some, numbered_lacks, shortage_of}
use Rattle.check_audit.specs.code.Lacking.{lack_seen, lacks_behind}
use Rattle.check_audit.specs.declared.lacks.Lack.{Lack as Kept}
use Rattle.check_audit.specs.declared.warning.Oddity.TheVariants.{Language}
use Rattle.check_audit.specs.declared.warning.Warning.{Warning}

-- ---- what is counted

count_first : {X : Type 0} (p : X → Bool) (x : X) (passes : Bool) (xs : List X) → p x ≡ passes → count_by p (x ∷ xs) ≡ cond passes 1 0 + count_by p xs
count_first p x passes xs is = sum_by-cons (λ y. cond (p y) 1 0) x xs ∙ ap (λ (b : Bool). cond b 1 0 + count_by p xs) is

-- what passes a test passes another one as well, or does not
in_two : (a b : Bool) → cond a 1 0 ≡ cond (b && a) 1 0 + cond (a && not b) 1 0
in_two true true = refl
in_two true false = refl
in_two false true = refl
in_two false false = refl

both_counted : {X : Type 0} (p q : X → Bool) (xs : List X) → count_by p xs ≡ count_by (λ x. q x && p x) xs + count_by (λ x. p x && not (q x)) xs
both_counted p q [] = refl
both_counted p q (x ∷ xs) =
    let later = both_counted p q xs in
    let all = count_first p x (p x) xs refl in
    let with_other = count_first (λ y. q y && p y) x (q x && p x) xs refl in
    let without = count_first (λ y. p y && not (q y)) x (p x && not (q x)) xs refl in
    omega (arith, later, all, with_other, without, in_two (p x) (q x))

-- what a string package lacks, by how many texts it and the first one have in common
pub shortage_counted : (first other : Spoken) (language one : List ℕ) (texts both : ℕ) → language ≡ other.language → one ≡ first.language → texts ≡ count_by (has_text first) every_id → both ≡ texts_in_both other first
    → (both ≤ texts) × (record { language = language; first = one; lacks = texts - both; texts = texts } ≡ shortage_of first other)
shortage_counted first other language one texts both said of_first all shared =
    let split = both_counted (has_text first) (has_text other) every_id in
    let within : count_by (λ id. has_text other id && has_text first id) every_id ≡ both = sym shared in
    let less : texts - both ≡ count_by (is_lacking first other) every_id = omega (arith, split, within, all) in
    (omega (arith, split, within, all), rw (less, said, of_first, all) refl)

-- ---- string packages that are read one by one

-- Some string packages are read, of which this is the first, and these lack texts of it.
pub record Gathers (all left : List Package) (first : Option Spoken) (lacks : List Lack) : Type 0 where
  pub said : List Spoken
  pub read : IsRead all said left
  pub first_kept : first ≡ slice_get said 0
  pub lacks_kept : lacks ≡ lacks_among said

pub gathers_begun : (all left : List Package) → left ≡ all → Gathers all left None []
gathers_begun all left same = record {
  said = [];
  read = record { done = []; parts = ap (filter is_strings) (sym same); read = record { said = refl; sound = refl } };
  first_kept = refl;
  lacks_kept = refl;
}

pub gathers_passed : {all left later : List Package} {first : Option Spoken} {lacks : List Lack} (e : Package) → Gathers all left first lacks → left ≡ e ∷ later → is_strings e ≡ false → Gathers all later first lacks
gathers_passed {all} {left} {later} e g steps other =
    let r = subst (IsRead all g.said) steps g.read in
    record {
      said = g.said;
      read = record { done = r.done; parts = r.parts ∙ ap (λ es. r.done ++ es) (rw other refl); read = r.read };
      first_kept = g.first_kept;
      lacks_kept = g.lacks_kept;
    }

first_stays : (said : List Spoken) (s : Spoken) → Some (unwrap_or (slice_get said 0) s) ≡ slice_get (said ++ s ∷ []) 0
first_stays [] s = refl
first_stays (t ∷ ts) s = refl

lacks_more : (said : List Spoken) (s : Spoken) → lacks_among said ++ lacks_behind (slice_get said 0) s ≡ lacks_among (said ++ s ∷ [])
lacks_more [] s = refl
lacks_more (t ∷ ts) s = sym (ap (filter lacks_some) (map-append (shortage_of t) ts (s ∷ [])) ∙ filter-append lacks_some (map (shortage_of t) ts) (shortage_of t s ∷ []))

pub gathers_more : {all left later : List Package} {first : Option Spoken} {lacks : List Lack} (e : Package) (s : Spoken) → Gathers all left first lacks → left ≡ e ∷ later → is_strings e ≡ true → s ≡ spoken_by e → string_package_faults e ≡ []
    → Gathers all later (Some (unwrap_or first s)) (lacks ++ lacks_behind first s)
gathers_more {all} {left} {later} {first} {lacks} e s g steps strings says none = record {
  said = g.said ++ s ∷ [];
  read = read_more all g.said e later s (subst (IsRead all g.said) steps g.read) strings says none;
  first_kept = ap (λ (o : Option Spoken). Some (unwrap_or o s)) g.first_kept ∙ first_stays g.said s;
  lacks_kept = ap (λ (o : Option Spoken). lacks ++ lacks_behind o s) g.first_kept ∙ ap (λ (l : List Lack). l ++ lacks_behind (slice_get g.said 0) s) g.lacks_kept ∙ lacks_more g.said s;
}

-- the least fault of a string package is that of all, where those before it say something
pub gathers_fault : {all left later : List Package} {first : Option Spoken} {lacks : List Lack} (e : Package) (fault : Fault) → Gathers all left first lacks → left ≡ e ∷ later → is_strings e ≡ true
    → RefusesAmong (string_package_faults e) fault → RefusesAmong (each_package (filter is_strings all)) fault
gathers_fault {all} {left} {later} e fault g steps strings refuses = elim refuses [
  | inl memory ↦ inl memory
  | inr least ↦ inr (read_fault all g.said e later fault (subst (IsRead all g.said) steps g.read) strings least)
]

-- at the end all are
pub record IsGathered (all : List Package) (lacks : List Lack) : Type 0 where
  pub told : lacks ≡ lacks_among (map spoken_by (filter is_strings all))
  pub sound : each_package (filter is_strings all) ≡ []

done_all : (strings done left : List Package) → strings ≡ done ++ filter is_strings left → left ≡ [] → done ≡ strings
done_all strings done left parts none = sym (append-nil done) ∙ ap (λ (es : List Package). done ++ filter is_strings es) (sym none) ∙ sym parts

pub gathers_all : {all left : List Package} {first : Option Spoken} {lacks : List Lack} → Gathers all left first lacks → left ≡ [] → IsGathered all lacks
gathers_all {all} {left} {first} {lacks} g none =
    let same = done_all (filter is_strings all) g.read.done left g.read.parts none in
    record {
      told = g.lacks_kept ∙ ap lacks_among (g.read.read.said ∙ ap (map spoken_by) same);
      sound = subst (λ (es : List Package). each_package es ≡ []) same g.read.read.sound;
    }

-- ---- one more of them is added

one_left : (items : List Kept) (i n : ℕ) → i < length items → numbered_lacks n (map lack_seen (drop i items)) ≡ record { place = 4; oddity = Language n } ∷ numbered_lacks (suc n) (map lack_seen (drop (suc i) items))
one_left [] i n lt = absurd (omega (arith, lt))
one_left (x ∷ xs) zero n lt = refl
one_left (x ∷ xs) (suc i) n lt = one_left xs i n (omega (arith, lt))

pub lack_added : (items : List Kept) (i n : ℕ) (before after all : List Warning) → i < length items → after ≡ before ++ record { place = 4; oddity = Language n } ∷ []
    → before ++ numbered_lacks n (map lack_seen (drop i items)) ≡ all → after ++ numbered_lacks (n + 1) (map lack_seen (drop (i + 1) items)) ≡ all
lack_added items i n before after all lt pushed so =
    let next : n + 1 ≡ suc n = omega arith in
    let behind : i + 1 ≡ suc i = omega arith in
    let later = numbered_lacks (suc n) (map lack_seen (drop (suc i) items)) in
    rw (next, behind) (ap (λ (ws : List Warning). ws ++ later) pushed ∙ append_assoc before (record { place = 4; oddity = Language n } ∷ []) later
    ∙ ap (λ (ws : List Warning). before ++ ws) (sym (one_left items i n lt)) ∙ so)

-- ---- how many they are

few_among : (said : List Spoken) → length (lacks_among said) ≤ length said
few_among [] = omega arith
few_among (t ∷ ts) =
    let lacks = map (shortage_of t) ts in
    let passed = length-filter lacks_some lacks in
    let most = count_by-le-length lacks_some lacks in
    let each = length-map ts (shortage_of t) in
    omega (arith, passed, most, each)

pub few_lacks : (list : List ℕ) → list_length list < 2 ^ 32 → length (lacks_in list) < 2 ^ 32
few_lacks list small =
    let bytes = take (list_length list) list in
    let all = packages_from (length list) 20 (drop 20 bytes) in
    let strings = filter is_strings all in
    let said = few_among (map spoken_by strings) in
    let each = length-map strings spoken_by in
    let passed = length-filter is_strings all in
    let most = count_by-le-length is_strings all in
    let four = four_each (length list) 20 (drop 20 bytes) in
    let size = length-drop 20 bytes in
    let cut = length-take (list_length list) list in
    omega (arith, small, said, each, passed, most, four, size, cut)
