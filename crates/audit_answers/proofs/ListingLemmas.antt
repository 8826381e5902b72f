-- What is said of the list that options name.
use Rattle.std.proofs.Common.{◌≡◌, ◌+◌, ◌-◌, ◌==◌, ◌≤◌, ℕ, zero, suc, List, [], ◌∷◌, ◌++◌, Option, None, Some, ◌∙◌, ap, arith, inl, inr, drop, filter, length, length-append, length-drop, refl, slice_get, subst, sym, take}
use Rattle.std.specs.List.{AllByRecursion, concat}
use Rattle.std.proofs.lemmas.Bool.{cases_Bool}
use Rattle.std.proofs.lemmas.List.{length-take}
use Rattle.browser_rules.specs.Packages.{FORMS, Package}
use Rattle.std.specs.declared.io.BufWriter.{BufWriter}
use Rattle.hii_bytes.specs.declared.watched.Watched.{Watched}
use Rattle.hii_dumps.specs.Dumps.{Entry, nth_list, placed}
use Rattle.hii_packages.specs.Packages.{packages_of}
use Rattle.hii_packages.specs.laws.Places.{LiesIn}
use Rattle.hii_packages.proofs.SpellLemmas.{read_lie}
use Rattle.session_steps.specs.Opening.{HasSource}
use Rattle.dump_audit.specs.Lines.{no_list_told}
use Rattle.dump_audit.specs.Taking.{IsNth}
use Rattle.audit_json.specs.declared.telling.Telling.{Telling}
use Rattle.audit_answers.specs.Endings.{Tells, TellsAndWrites}
use Rattle.audit_answers.specs.Listing.{IsListed, IsUnlisted, Listed, SaysOfList}
use Rattle.audit_answers.specs.code.Endings.{RefusesBehind}
use Rattle.audit_answers.specs.declared.ended.Ended.{Ended}
use Rattle.audit_answers.specs.declared.ended.Ended.TheVariants.{Refused}
use Rattle.audit_answers.proofs.EndingLemmas.{tells, tells_and_writes_as, tells_as, tells_refused}

-- ---- a list lies in its dump

placed_inside : (place : ℕ) (lists : List (List ℕ)) (n : ℕ) (entry : Entry) → slice_get (placed place lists) n ≡ Some entry → entry.place + length entry.bytes ≤ place + length (concat lists)
placed_inside place [] n entry is = let bad : ◌≡◌ {A = Option Entry} None (Some entry) = is in cc
placed_inside place (list ∷ lists) zero entry is = go entry is
  where
    go : (entry : Entry) → Some record { place = place; bytes = list } ≡ Some entry → entry.place + length entry.bytes ≤ place + length (concat (list ∷ lists))
    go entry same =
        let e : record { place = place; bytes = list } ≡ entry = cc in
        rw (← e) (omega (arith, length-append list (concat lists)))
placed_inside place (list ∷ lists) (suc n) entry is =
    omega (arith, placed_inside (place + length list) lists n entry is, length-append list (concat lists))

pub nth_inside : (dump : List ℕ) (number : ℕ) (entry : Entry) → IsNth dump number (Some entry) → entry.place + length entry.bytes ≤ length dump
nth_inside dump zero entry (lists, rest, spells, nth) = let bad : ◌≡◌ {A = Option Entry} None (Some entry) = nth in cc
nth_inside dump (suc n) entry (lists, rest, spells, nth) =
    let whole = ap length spells.whole ∙ length-append (concat lists) rest in
    omega (arith, placed_inside 0 lists n entry nth, whole)

-- ---- a forms package lies in its list

found_lies : (list : List ℕ) (ps : List Package) (n : ℕ) (source : Package) → AllByRecursion (LiesIn list) ps → slice_get (filter (λ (p : Package). p.kind == FORMS) ps) n ≡ Some source → LiesIn list source
found_lies list [] n source lie is = let bad : ◌≡◌ {A = Option Package} None (Some source) = is in cc
found_lies list (p ∷ ps) n source lie is = elim (cases_Bool (p.kind == FORMS)) [
  | inl kept ↦ first (λ n is. found_lies list ps n source lie.1 is) n (rw kept at is)
  | inr other ↦ found_lies list ps n source lie.1 (rw other at is)
]
  where
    first : ((n : ℕ) → slice_get (filter (λ (p : Package). p.kind == FORMS) ps) n ≡ Some source → LiesIn list source) → (n : ℕ) → slice_get (p ∷ filter (λ (p : Package). p.kind == FORMS) ps) n ≡ Some source → LiesIn list source
    first later zero same = let e : p ≡ source = cc in subst (LiesIn list) e lie.0
    first later (suc n) same = later n same

pub source_inside : (list : List ℕ) (n : ℕ) (source : Package) → HasSource list n source → 4 ≤ length source.bytes → source.place + length source.bytes ≤ length list
source_inside list zero source (sound, found) header = let bad : ◌≡◌ {A = Option Package} None (Some source) = found in cc
source_inside list (suc n) source (sound, found) header =
    let lies = found_lies list (packages_of list) n source (read_lie list sound) found in
    let size = source.place + length source.bytes - source.place in
    let long : length source.bytes ≡ length (take size (drop source.place list)) = ap length (sym lies.0) in
    omega (arith, header, long, length-take size (drop source.place list), length-drop source.place list)

-- ---- what is said

module _ {A Z : Type 0} (telling : Telling) (says : Listed → Ended → List ℕ → Type 0) (contents : A → Option (List ℕ)) (take : Option ℕ) (file : List ℕ) (start new : Watched (BufWriter A Z)) (ended : Ended) where
  -- of the list
  pub tells_listed : (list : Listed) → IsListed take file list → Tells (says list) contents start ended new → Tells (SaysOfList telling take file says) contents start ended new
  tells_listed list is told = tells_as (says list) (SaysOfList telling take file says) contents start new ended (λ ended text said. inl (list, is, said)) told

  -- that there is none
  pub tells_unlisted : (number : ℕ) → IsUnlisted take file number → RefusesBehind (no_list_told telling number) contents start ended new → Tells (SaysOfList telling take file says) contents start ended new
  tells_unlisted number none (mid, written, passed) =
      tells (SaysOfList telling take file says) contents start new mid Refused ended (no_list_told telling number) (inr (number, none, refl, refl)) written passed

module _ {A Z O : Type 0} (telling : Telling) (says : Listed → List ℕ → Ended → List ℕ → Type 0) (contents : A → Option (List ℕ)) (to : O → Option (List ℕ)) (take : Option ℕ) (file : List ℕ)
    (start new : Watched (BufWriter A Z)) (old last : Watched O) (ended : Ended) where
  -- what is said, and what is written behind it
  abbrev says_writing : List ℕ → Ended → List ℕ → Type 0
  says_writing bytes = SaysOfList telling take file (λ list. says list bytes)

  pub writes_listed : (list : Listed) → IsListed take file list → TellsAndWrites (says list) contents to start old ended new last → TellsAndWrites says_writing contents to start old ended new last
  writes_listed list is told = tells_and_writes_as (says list) says_writing contents to start new old last ended (λ bytes ended text said. inl (list, is, said)) told

  pub writes_unlisted : (number : ℕ) → IsUnlisted take file number → RefusesBehind (no_list_told telling number) contents start ended new → last ≡ old → TellsAndWrites says_writing contents to start old ended new last
  writes_unlisted number none (mid, written, passed) same =
      tells_refused says_writing contents to start new old last mid ended (no_list_told telling number) (inr (number, none, refl, refl)) written passed same
