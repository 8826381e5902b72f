-- Forms packages are told one behind the other.
use Rattle.std.proofs.Common.{◌≡◌, ℕ, suc, ◌+◌, ◌-◌, ◌≤◌, ◌<◌, ◌^◌, Bool, true, false, ◌==◌, Some, List, [], ◌∷◌, ◌++◌, length, take, drop, filter, map, refl, sym, ap, ◌∙◌, subst, arith, append_assoc, append-nil, length-append, slice_get}
use Rattle.std.specs.List.{AllByRecursion}
use Rattle.std.proofs.lemmas.Bool.{cond-true, cond-false}
use Rattle.std.proofs.lemmas.List.{map-append, length-drop, length-take}
use Rattle.browser_rules.specs.Faults.{list_faults}
use Rattle.browser_rules.specs.Packages.{FORMS, Package, forms_package, packages_with}
use Rattle.hii_bytes.specs.Faults.{HasNone}
use Rattle.hii_bytes.specs.Watching.{Pen, Writes}
use Rattle.hii_bytes.proofs.WritingLemmas.{writes_nil, writes_trans}
use Rattle.hii_packages.specs.Packages.{packages_of}
use Rattle.hii_packages.specs.laws.Places.{LiesIn}
use Rattle.hii_packages.proofs.SpellLemmas.{read_lie}
use Rattle.check_audit.specs.Verdicts.{IsListFault}
use Rattle.browser_rules.specs.Strings.{Spoken}
use Rattle.hii_packages.specs.code.Package.{package_of}
use Rattle.session_steps.specs.Opening.{HasTexts}
use Rattle.survey_audit.specs.declared.heading.Heading.{Heading}
use Rattle.survey_commands.specs.code.Views.{StandsIn}
use Rattle.survey_commands.specs.Surveying.{AreFirst, AreFound, Asked, BeginsList, BeginsSet, Finding, Found, IsFound, Numbered, all_told, found_told, heading_for}

abbrev pub is_forms : Package → Bool
is_forms p = p.kind == FORMS

found_more : (asked : Asked) (list : List ℕ) (number : ℕ) (fs : List Found) (f : Found) → AreFound asked list number fs → IsFound asked list (number + length fs) f.source f.finding → AreFound asked list number (fs ++ f ∷ [])
found_more asked list number [] f each is =
    let same : number + 0 ≡ number = omega arith in
    (subst (λ n. IsFound asked list n f.source f.finding) same is, tt)
found_more asked list number (g ∷ fs) f each is =
    let same : number + suc (length fs) ≡ suc number + length fs = omega arith in
    (each.0, found_more asked list (suc number) fs f each.1 (subst (λ n. IsFound asked list n f.source f.finding) same is))

told_more : (asked : Asked) (list : Numbered) (number : ℕ) (fs : List Found) (f : Found) → all_told asked list number (fs ++ f ∷ []) ≡ all_told asked list number fs ++ found_told asked list (number + length fs) f
told_more asked list number [] f = append-nil (found_told asked list number f) ∙ ap (λ n. found_told asked list n f) (omega arith)
told_more asked list number (g ∷ fs) f =
    let same : suc number + length fs ≡ number + suc (length fs) = omega arith in
    ap (λ (l : List ℕ). found_told asked list number g ++ l) (told_more asked list (suc number) fs f ∙ ap (λ n. all_told asked list (suc number) fs ++ found_told asked list n f) same)
    ∙ sym (append_assoc (found_told asked list number g) (all_told asked list (suc number) fs) (found_told asked list (number + suc (length fs)) f))

-- Of the packages of a list some are left, and what is found of the forms packages before them is told, of as many as the number.
pub record Goes (asked : Asked) (list : Numbered) (left : List Package) (number : ℕ) (old new : Pen) : Type 0 where
  pub found : List Found
  pub each : AreFound asked list.entry.bytes 1 found
  pub in_order : map (λ f. f.source) found ++ filter is_forms left ≡ packages_with FORMS list.entry.bytes
  pub next : number ≡ length found
  pub written : Writes old new (all_told asked list 1 found)
  pub lie : AllByRecursion (LiesIn list.entry.bytes) left
  pub few : number + length left < 2 ^ 62

pub goes_begun : (asked : Asked) (list : Numbered) (left : List Package) (pen : Pen) → list_faults list.entry.bytes ≡ [] → left ≡ packages_of list.entry.bytes → length left < 2 ^ 62 → Goes asked list left 0 pen pen
goes_begun asked list left pen sound all few = record {
  found = [];
  each = tt;
  in_order = ap (filter is_forms) all;
  next = refl;
  written = writes_nil pen;
  lie = subst (λ (ps : List Package). AllByRecursion (LiesIn list.entry.bytes) ps) (sym all) (read_lie list.entry.bytes sound);
  few = omega (arith, few);
}

pub goes_passed : {asked : Asked} {list : Numbered} {left later : List Package} {number : ℕ} {old new : Pen} (p : Package) → Goes asked list left number old new → left ≡ p ∷ later → is_forms p ≡ false → Goes asked list later number old new
goes_passed {asked} {list} {left} {later} {number} {old} {new} p g steps other =
    let same : filter is_forms left ≡ filter is_forms later = ap (filter is_forms) steps ∙ cond-false (is_forms p) _ _ other in
    let shorter : length left ≡ suc (length later) = ap (λ (ps : List Package). length ps) steps in
    record {
      found = g.found;
      each = g.each;
      in_order = ap (λ (ps : List Package). map (λ (f : Found). f.source) g.found ++ ps) (sym same) ∙ g.in_order;
      next = g.next;
      written = g.written;
      lie = (subst (λ (ps : List Package). AllByRecursion (LiesIn list.entry.bytes) ps) steps g.lie).1;
      few = omega (arith, shorter, g.few);
    }

pub goes_more : {asked : Asked} {list : Numbered} {left later : List Package} {number : ℕ} {old new newer : Pen} (p : Package) (finding : Finding) → Goes asked list left number old new → left ≡ p ∷ later → is_forms p ≡ true
    → IsFound asked list.entry.bytes (number + 1) p finding → Writes new newer (found_told asked list (number + 1) record { source = p; finding = finding }) → Goes asked list later (number + 1) old newer
goes_more {asked} {list} {left} {later} {number} {old} {new} {newer} p finding g steps forms is wrote =
    let f : Found = record { source = p; finding = finding } in
    let source : Found → Package = λ h. h.source in
    let first : filter is_forms left ≡ p ∷ filter is_forms later = ap (filter is_forms) steps ∙ cond-true (is_forms p) _ _ forms in
    let shorter : length left ≡ suc (length later) = ap (λ (ps : List Package). length ps) steps in
    let size = length-append g.found (f ∷ []) in
    let place : number + 1 ≡ 1 + length g.found = omega (arith, g.next) in
    record {
      found = g.found ++ f ∷ [];
      each = found_more asked list.entry.bytes 1 g.found f g.each (subst (λ n. IsFound asked list.entry.bytes n p finding) place is);
      in_order = ap (λ (ps : List Package). ps ++ filter is_forms later) (map-append source g.found (f ∷ [])) ∙ append_assoc (map source g.found) (p ∷ []) (filter is_forms later)
          ∙ ap (λ (ps : List Package). map source g.found ++ ps) (sym first) ∙ g.in_order;
      next = omega (arith, g.next, size);
      written = subst (Writes old newer) (ap (λ n. all_told asked list 1 g.found ++ found_told asked list n f) place ∙ sym (told_more asked list 1 g.found f)) (writes_trans g.written wrote);
      lie = (subst (λ (ps : List Package). AllByRecursion (LiesIn list.entry.bytes) ps) steps g.lie).1;
      few = omega (arith, shorter, g.few);
    }

-- a package that is next lies in the list
pub next_inside : {asked : Asked} {list : Numbered} {left later : List Package} {number : ℕ} {old new : Pen} (p : Package) → Goes asked list left number old new → left ≡ p ∷ later → 4 ≤ length p.bytes → p.place + length p.bytes ≤ length list.entry.bytes
next_inside {asked} {list} {left} p g steps header =
    let lies = (subst (λ (ps : List Package). AllByRecursion (LiesIn list.entry.bytes) ps) steps g.lie).0 in
    let size = p.place + length p.bytes - p.place in
    let long : length p.bytes ≡ length (take size (drop p.place list.entry.bytes)) = ap length (sym lies.0) in
    omega (arith, header, long, length-take size (drop p.place list.entry.bytes), length-drop p.place list.entry.bytes)

-- it has the next number
nth_behind : (ps later : List Package) (p : Package) → slice_get (ps ++ p ∷ later) (length ps) ≡ Some p
nth_behind [] later p = refl
nth_behind (q ∷ ps) later p = nth_behind ps later p

length-sources : (fs : List Found) → length (map (λ f. f.source) fs) ≡ length fs
length-sources [] = refl
length-sources (f ∷ fs) = ap (λ n. suc n) (length-sources fs)

next_in_order : {asked : Asked} {list : Numbered} {left later : List Package} {number : ℕ} {old new : Pen} (p : Package) (g : Goes asked list left number old new) → left ≡ p ∷ later → is_forms p ≡ true
    → map (λ f. f.source) g.found ++ p ∷ filter is_forms later ≡ packages_with FORMS list.entry.bytes
next_in_order {asked} {list} {left} {later} p g steps forms =
    let first : filter is_forms left ≡ p ∷ filter is_forms later = ap (filter is_forms) steps ∙ cond-true (is_forms p) _ _ forms in
    ap (λ (ps : List Package). map (λ (f : Found). f.source) g.found ++ ps) (sym first) ∙ g.in_order

pub next_found : {asked : Asked} {list : Numbered} {left later : List Package} {number : ℕ} {old new : Pen} (p : Package) → Goes asked list left number old new → left ≡ p ∷ later → is_forms p ≡ true
    → forms_package list.entry.bytes (number + 1) ≡ Some p
next_found {asked} {list} {left} {later} {number} p g steps forms =
    let sources = map (λ (f : Found). f.source) g.found in
    let place : number + 1 ≡ suc (length sources) = omega (arith, g.next, length-sources g.found) in
    ap (λ n. forms_package list.entry.bytes n) place ∙ ap (λ (ps : List Package). slice_get ps (length sources)) (sym (next_in_order p g steps forms)) ∙ nth_behind sources (filter is_forms later) p

-- at the end all are told
pub told_all : {asked : Asked} {list : Numbered} {left : List Package} {number : ℕ} {old new : Pen} → HasNone (IsListFault list.entry.bytes) → Goes asked list left number old new → left ≡ []
    → (found : List Found) × AreFirst asked list.entry.bytes found [] × Writes old new (all_told asked list 1 found)
told_all {asked} {list} {left} sound g none =
    let all = ap (λ (ps : List Package). map (λ (f : Found). f.source) g.found ++ filter is_forms ps) (sym none) ∙ g.in_order in
    (g.found, record { sound = sound; each = g.each; in_order = all }, g.written)

-- where it breaks off the next is begun
pub told_some : {asked : Asked} {list : Numbered} {left later : List Package} {number : ℕ} {old new newer : Pen} (p : Package) (begun : List ℕ) → HasNone (IsListFault list.entry.bytes) → Goes asked list left number old new → left ≡ p ∷ later → is_forms p ≡ true
    → BeginsSet asked list.entry.bytes (heading_for asked list (number + 1) p) begun → Writes new newer begun → (text : List ℕ) × BeginsList asked list text × Writes old newer text
told_some {asked} {list} {left} {later} {number} {old} {new} {newer} p begun sound g steps forms begins wrote =
    let place : number + 1 ≡ suc (length g.found) = omega (arith, g.next) in (
      all_told asked list 1 g.found ++ begun,
      record {
        before = g.found;
        next = p;
        left = filter is_forms later;
        first = record { sound = sound; each = g.each; in_order = next_in_order p g steps forms };
        begun = begun;
        begins = subst (λ n. BeginsSet asked list.entry.bytes (heading_for asked list n p) begun) place begins;
        written = refl;
      },
      writes_trans g.written wrote,
    )

pub stands_in : (list : List ℕ) (h : Heading) (spoken : List Spoken) → list_faults list ≡ [] → forms_package list h.number ≡ Some (package_of h.source) → HasTexts list spoken → StandsIn list h spoken
stands_in list h spoken whole found texts = record { found = (whole, found); texts = texts }
