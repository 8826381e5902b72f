-- The least fault of what a session is opened over, and that there is none.
use Rattle.std.proofs.Common.{◌≡◌, ◌↔◌, ℕ, zero, suc, ◌+◌, ◌≤◌, ◌<◌, ◌==◌, ◌^◌, List, [], ◌∷◌, ◌++◌, length, map, drop, Option, Some, None, option_map, unwrap_or, refl, sym, ap, subst, ◌∙◌, arith, inl, inr, append_assoc}
use Rattle.std.specs.Prelude.{filter, slice_get, slice_index}
use Rattle.std.specs.List.{AllByRecursion, concat}
use Rattle.std.proofs.Math.Seq.{get_or-drop}
use Rattle.std.proofs.lemmas.Bool.{cases_Bool}
use Rattle.hii_bytes.specs.Causes.{fault_for}
use Rattle.hii_bytes.specs.Faults.{AreFaults, HasNone, IsAmong, IsLeast as IsLeastOf, Then}
use Rattle.hii_bytes.specs.Numbers.{AreBytes}
use Rattle.hii_bytes.specs.declared.cause.Cause.{Cause}
use Rattle.hii_bytes.specs.declared.cause.Fault.{Fault as CodeFault}
use Rattle.hii_bytes.proofs.FaultLemmas.{then_first, then_second, then_none}
use Rattle.hii_bytes.proofs.NumberLemmas.{number_in-lt}
use Rattle.hii_packages.specs.Packages.{packages_of}
use Rattle.hii_packages.specs.laws.Spelling.{IsPackage, SpellsPackages, end_package, placed}
use Rattle.hii_packages.proofs.ListLemmas.{missing_faults}
use Rattle.hii_packages.proofs.SpellLemmas.{spelled_of_type, spelled_where_sound}
use Rattle.ifr_nodes.specs.Accepted.{IsPackageFault}
use Rattle.ifr_nodes.specs.Checked.{IsChecked}
use Rattle.ifr_nodes.specs.Framing.{IsFramingFault}
use Rattle.ifr_nodes.specs.Nodes.{nodes_of}
use Rattle.ifr_nodes.specs.ReferenceFaults.{IsReferenceFault}
use Rattle.ifr_nodes.specs.Structure.{IsStructureFault}
use Rattle.hii_questions.specs.Faults.{IsQuestionFault}
use Rattle.hii_varstore.specs.Faults.{IsImageFault}
use Rattle.hii_varstore.specs.StoreNodes.{IsStoreFault}
use Rattle.session_steps.specs.Opening as session
use Rattle.session_steps.specs.Opening.{layout_in, IsSourceFault, IsTextFault, IsFormSetFault, IsBrowsingFault, IsOpenFault}
use Rattle.session_steps.proofs.SourceLemmas.{source_bytes}
use Rattle.browser_rules.specs.Faults.{Fault, IsLeast, then_faults, list_faults, number_faults, string_faults, framing_faults, structure_faults, reference_faults, store_faults, question_faults, image_faults, open_faults}
use Rattle.browser_rules.specs.Packages.{FORMS, Package, forms_bytes, forms_package}
use Rattle.browser_rules.specs.Stores.{shape_of}
use Rattle.rules_laws.proofs.FramingLemmas.{same_framing_faults, spelled_where_framed}
use Rattle.hii_bytes.proofs.ChapterFaultLemmas.{are_among, same_least, same_none, same_parts, some_faults, then_faults-then_faults, then_faults_none}
use Rattle.rules_laws.proofs.PolicyConditionLemmas.{front_bytes}
use Rattle.rules_laws.proofs.QuestionFaultLemmas.{same_question_faults}
use Rattle.rules_laws.proofs.ReferenceFaultLemmas.{same_checked_faults}
use Rattle.rules_laws.proofs.StoreFaultLemmas.{same_image_faults, same_store_faults}
use Rattle.rules_laws.proofs.StoreLemmas.{shape_same}
use Rattle.rules_laws.proofs.StructureLeastLemmas.{same_least_structure, same_sound}

-- ---- parts that have the same least fault, and none where the other has none

pub record AreAlike (faults : List Fault) (IsFault : Cause → ℕ → Type 0) : Type 0 where
  pub least : (fault : CodeFault) → (IsLeast faults (fault_for fault.cause fault.place) ↔ IsLeastOf IsFault fault)
  pub none : (faults ≡ []) ↔ HasNone IsFault

alike : (faults : List Fault) (IsFault : Cause → ℕ → Type 0) → AreFaults faults IsFault → AreAlike faults IsFault
alike faults IsFault are = record { least = λ fault. same_least faults IsFault fault are; none = same_none faults IsFault are }

alike_as : (IsFault : Cause → ℕ → Type 0) {faults others : List Fault} → faults ≡ others → AreAlike others IsFault → AreAlike faults IsFault
alike_as IsFault same are = subst (λ (l : List Fault). AreAlike l IsFault) (sym same) are

-- one part behind another
alike_parts : (first second : List Fault) (First Second : Cause → ℕ → Type 0) → AreAlike first First → (first ≡ [] → AreAlike second Second) → AreAlike (then_faults first second) (Then First Second)
alike_parts [] second First Second are behind =
    let none = are.none.0 refl in
    let later = behind refl in record {
      least = λ fault. (
        λ is. then_second First Second fault none ((later.least fault).0 is),
        λ is. (later.least fault).1 (record {
          told = elim is.told [ inl a ↦ absurd (none fault.cause fault.place a) | inr b ↦ b.1 ];
          least = λ c p other. is.least c p (inr (none, other));
        }),
      );
      none = (λ e. then_none First Second none (later.none.0 e), λ has. later.none.1 (λ c p other. has c p (inr (none, other))));
    }
alike_parts (f ∷ fs) second First Second are behind = record {
  least = λ fault. (
    λ is. then_first First Second fault ((are.least fault).0 is),
    λ is. (are.least fault).1 (record {
      told = elim is.told [ inl a ↦ a | inr b ↦ absurd (some_faults f fs (are.none.1 b.0)) ];
      least = λ c p other. is.least c p (inl other);
    }),
  );
  none = (λ e. absurd (some_faults f fs e), λ has. are.none.1 (λ c p other. has c p (inl other)));
}

-- ---- a forms package, its stores and questions, and the image

package_alike : (ifr : List ℕ) → 4 ≤ length ifr → length ifr < 2 ^ 32
    → AreAlike (then_faults (framing_faults ifr) (then_faults (structure_faults (nodes_of ifr)) (reference_faults (nodes_of ifr)))) (IsPackageFault ifr)
package_alike ifr header small =
    let ns = nodes_of ifr in
    alike_parts (framing_faults ifr) (then_faults (structure_faults ns) (reference_faults ns)) (IsFramingFault ifr) (Then (IsStructureFault ns) (IsReferenceFault ns)) (alike _ _ (same_framing_faults ifr)) λ framed.
    let spells = (spelled_where_framed ifr).0 framed in
    alike_parts (structure_faults ns) (reference_faults ns) (IsStructureFault ns) (IsReferenceFault ns) (record { least = λ fault. same_least_structure ifr fault spells; none = same_sound ifr spells }) λ sound.
    let checked : IsChecked ifr = record { header = header; small = small; spelled = spells; sound = (same_sound ifr spells).0 sound } in
    alike _ _ (same_checked_faults ifr checked)

-- the parts behind the list and its string packages
abbrev browsing_faults : List ℕ → List ℕ → List Fault
browsing_faults ifr image =
    let ns = nodes_of ifr in
    then_faults (framing_faults ifr)
    (then_faults (structure_faults ns)
    (then_faults (reference_faults ns)
    (then_faults (store_faults ns)
    (then_faults (question_faults ns)
    (image_faults (shape_of ns) image)))))

-- parts in a row, taken together as the contracts take them
grouped : (a b c d e f : List Fault)
    → then_faults a (then_faults b (then_faults c (then_faults d (then_faults e f)))) ≡ then_faults (then_faults (then_faults a (then_faults b c)) (then_faults d e)) f
grouped [] [] [] [] e f = refl
grouped [] [] [] (d ∷ ds) e f = refl
grouped [] [] (c ∷ cs) d e f = refl
grouped [] (b ∷ bs) c d e f = refl
grouped (a ∷ as_) b c d e f = refl

image_alike : (ifr image : List ℕ) → AreAlike (image_faults (shape_of (nodes_of ifr)) image) (IsImageFault (layout_in ifr) image)
image_alike ifr image =
    alike_as (IsImageFault (layout_in ifr) image) (ap (λ s. image_faults s image) (shape_same (nodes_of ifr))) (alike _ _ (same_image_faults (layout_in ifr) image))

browsing_alike : (ifr image : List ℕ) → 4 ≤ length ifr → length ifr < 2 ^ 32 → AreAlike (browsing_faults ifr image) (IsBrowsingFault ifr image)
browsing_alike ifr image header small =
    let ns = nodes_of ifr in
    let own = then_faults (framing_faults ifr) (then_faults (structure_faults ns) (reference_faults ns)) in
    let asked = then_faults (store_faults ns) (question_faults ns) in
    alike_as (IsBrowsingFault ifr image) (grouped (framing_faults ifr) (structure_faults ns) (reference_faults ns) (store_faults ns) (question_faults ns) (image_faults (shape_of ns) image))
    (alike_parts (then_faults own asked) (image_faults (shape_of ns) image) (IsFormSetFault ifr) (IsImageFault (layout_in ifr) image)
    (alike_parts own asked (IsPackageFault ifr) (Then (IsStoreFault ns) (IsQuestionFault ns)) (package_alike ifr header small)
    (λ whole. alike_parts (store_faults ns) (question_faults ns) (IsStoreFault ns) (IsQuestionFault ns) (alike _ _ (same_store_faults ns)) (λ stored. alike _ _ (same_question_faults ns))))
    (λ asked. image_alike ifr image))

-- ---- the forms package of a list

-- a package of a list of bytes
abbrev IsBytePackage : List ℕ → Type 0
IsBytePackage p = IsPackage p × AreBytes p

behind_bytes : (xs ys : List ℕ) → AreBytes (xs ++ ys) → AreBytes ys
behind_bytes [] ys are = are
behind_bytes (x ∷ xs) ys are = behind_bytes xs ys (λ k. are (suc k))

each_bytes : (ps : List (List ℕ)) (rest : List ℕ) → AreBytes (concat ps ++ rest) → AllByRecursion IsPackage ps → AllByRecursion IsBytePackage ps
each_bytes [] rest are all = tt
each_bytes (p ∷ ps) rest are all =
    let there : AreBytes (p ++ (concat ps ++ rest)) = subst AreBytes (append_assoc p (concat ps) rest) are in
    ((all.0, front_bytes p (concat ps ++ rest) there), each_bytes ps rest (behind_bytes p (concat ps ++ rest) there) all.1)

found_among : (P : List ℕ → Type 0) (place : ℕ) (ps : List (List ℕ)) (n : ℕ) (e : Package) → AllByRecursion P ps → slice_get (filter (λ (p : Package). p.kind == FORMS) (placed place ps)) n ≡ Some e → P e.bytes
found_among P place [] n e all found = absurd cc
found_among P place (p ∷ ps) zero e all found = elim (cases_Bool (slice_index p 3 == FORMS)) [
  | inl is ↦ (let first = rw is at found in let same : p ≡ e.bytes = cc in subst P same all.0)
  | inr is ↦ found_among P (place + length p) ps zero e all.1 (rw is at found)
]
found_among P place (p ∷ ps) (suc n) e all found = elim (cases_Bool (slice_index p 3 == FORMS)) [
  | inl is ↦ found_among P (place + length p) ps n e all.1 (rw is at found)
  | inr is ↦ found_among P (place + length p) ps (suc n) e all.1 (rw is at found)
]

fits : (p : List ℕ) → IsBytePackage p → (4 ≤ length p) × (length p < 2 ^ 32)
fits p (is, are) = (is.header, (let few = number_in-lt p 0 3 are in let told = is.sized in omega (arith, few, told)))

-- ---- all parts

-- the forms package of a number is one of the list's
package_found : (list : List ℕ) (packages : List (List ℕ)) (n : ℕ) (e : Package) → SpellsPackages list packages → AllByRecursion IsBytePackage packages → forms_package list n ≡ Some e → IsBytePackage e.bytes
package_found list packages zero e s all found = absurd cc
package_found list packages (suc n) e s all found =
    found_among IsBytePackage 20 packages n e all (sym (ap (λ (ps : List Package). slice_get ps n) (spelled_of_type list packages FORMS s)) ∙ found)

-- where the list and the number of the forms package have no fault
behind_texts : (list : List ℕ) (n : ℕ) (image : List ℕ) → AreBytes list → list_faults list ≡ [] → number_faults list n ≡ []
    → AreAlike (browsing_faults (forms_bytes list n) image) (IsBrowsingFault (session.forms_bytes list n) image)
behind_texts list n image are sound numbered = by (forms_package list n) refl
  where
    packages : List (List ℕ)
    packages = map (λ (p : Package). p.bytes) (packages_of list)

    spelled : SpellsPackages list packages
    spelled = spelled_where_sound list sound

    behind_header : AreBytes (drop 20 list)
    behind_header = λ k. rw (get_or-drop 20 list k 0) (are (20 + k))

    by : (o : Option Package) → forms_package list n ≡ o → AreAlike (browsing_faults (forms_bytes list n) image) (IsBrowsingFault (session.forms_bytes list n) image)
    by None missing = absurd (some_faults _ _ (sym (missing_faults list n missing) ∙ numbered))
    by (Some e) found =
        let each = each_bytes packages (end_package ++ spelled.rest) (subst AreBytes spelled.whole behind_header) spelled.each in
        let its = fits e.bytes (package_found list packages n e spelled each found) in
        let read : forms_bytes list n ≡ e.bytes = ap (λ (o : Option Package). unwrap_or (option_map (λ (p : Package). p.bytes) o) []) found in
        subst (λ (ifr : List ℕ). AreAlike (browsing_faults (forms_bytes list n) image) (IsBrowsingFault ifr image)) (sym (source_bytes list n e (sound, found)))
        (alike_as (IsBrowsingFault e.bytes image) (ap (λ (ifr : List ℕ). browsing_faults ifr image) read) (browsing_alike e.bytes image its.0 its.1))

source_faults : (list : List ℕ) (n : ℕ) → AreFaults (then_faults (list_faults list) (number_faults list n)) (IsSourceFault list n)
source_faults list n =
    same_parts (list_faults list) (number_faults list n) (IsAmong (list_faults list)) (IsAmong (number_faults list n)) (are_among (list_faults list)) (λ none. are_among (number_faults list n))

open_alike : (list : List ℕ) (n : ℕ) (image : List ℕ) → AreBytes list → AreAlike (open_faults list n image) (IsOpenFault list n image)
open_alike list n image are =
    let later = then_faults (string_faults list) (browsing_faults (forms_bytes list n) image) in
    let Later = Then (IsTextFault list) (IsBrowsingFault (session.forms_bytes list n) image) in
    alike_as (IsOpenFault list n image) (sym (then_faults-then_faults (list_faults list) (number_faults list n) later))
    (alike_parts (then_faults (list_faults list) (number_faults list n)) later (IsSourceFault list n) Later (alike _ _ (source_faults list n)) λ none.
    let both = then_faults_none (list_faults list) (number_faults list n) none in
    alike_parts (string_faults list) (browsing_faults (forms_bytes list n) image) (IsTextFault list) (IsBrowsingFault (session.forms_bytes list n) image) (alike _ _ (are_among (string_faults list)))
    (λ texts. behind_texts list n image are both.0 both.1))

pub same_least_opening : (list : List ℕ) (n : ℕ) (image : List ℕ) (fault : CodeFault) → AreBytes list
    → (IsLeast (open_faults list n image) (fault_for fault.cause fault.place) ↔ IsLeastOf (IsOpenFault list n image) fault)
same_least_opening list n image fault are = (open_alike list n image are).least fault

pub same_sound_opening : (list : List ℕ) (n : ℕ) (image : List ℕ) → AreBytes list → ((open_faults list n image ≡ []) ↔ HasNone (IsOpenFault list n image))
same_sound_opening list n image are = (open_alike list n image are).none
