-- A session stands that bytes open.
use Rattle.std.proofs.Common.{◌==◌, ℕ, zero, suc, ◌+◌, Bool, List, [], ◌∷◌, ◌++◌, length, take, drop, sym, subst, lit<, inl, inr}
use Rattle.std.specs.Prelude.{◌||◌, codes, filter, option_map, slice_get, unwrap_or}
use Rattle.std.specs.Int.{to_le_bytes, w16}
use Rattle.std.specs.List.{AllByRecursion, flat_map}
use Rattle.browser_rules.specs.Packages.{END_PACKAGE, FORMS, Package, forms_bytes, is_bad, list_length, package_length, package_type, packages_from, packages_with}
use Rattle.hii_bytes.specs.Numbers.{AreBytes}
use Rattle.hii_varstore.specs.Image.{SpellsImage, image_of, older_image_of, store_image, stores_image}
use Rattle.hii_varstore.specs.Layout.{Shape}
use Rattle.hii_varstore.specs.Stores.{Store, StoreMap}
use Rattle.session_steps.specs.Opening.{Opens, layout_in}
use Rattle.session_steps.specs.State.{State}
use Rattle.session_laws.specs.laws.Session.{AreStored, Stands}
use Rattle.session_laws.proofs.BeginLemmas.{opened_bytes}
use Rattle.rules_laws.proofs.PolicyConditionLemmas.{front_bytes}
use Rattle.session_laws.proofs.StoredLemmas.{HoldBytes, behind, either, front_of}

-- ---- the stores of an image hold bytes

back_bytes : (xs ys : List ℕ) → AreBytes (xs ++ ys) → AreBytes ys
back_bytes [] ys are k = are k
back_bytes (x ∷ xs) ys are k = back_bytes xs ys (λ i. are (suc i)) k

stores_bytes : (ss : List Store) → AreBytes (flat_map store_image ss) → HoldBytes ss
stores_bytes [] are = tt
stores_bytes (s ∷ ss) are =
    let first = front_bytes (store_image s) (flat_map store_image ss) are in (
      back_bytes (to_le_bytes w16 (length s.bytes)) s.bytes (back_bytes (to_le_bytes w16 s.id) (to_le_bytes w16 (length s.bytes) ++ s.bytes) first),
      stores_bytes ss (back_bytes (store_image s) (flat_map store_image ss) are),
    )

counted_bytes : (ss : List Store) → AreBytes (stores_image ss) → HoldBytes ss
counted_bytes ss are = stores_bytes ss (back_bytes (to_le_bytes w16 (length ss)) (flat_map store_image ss) are)

image_bytes : (m : StoreMap) → AreBytes (image_of m) → HoldBytes m.stores
unfolding image_of
image_bytes m are = counted_bytes m.stores (back_bytes m.guid (stores_image m.stores) (back_bytes (codes "HVS2") (m.guid ++ stores_image m.stores) are))

older_bytes : (m : StoreMap) → AreBytes (older_image_of m) → HoldBytes m.stores
unfolding older_image_of
older_bytes m are = counted_bytes m.stores (back_bytes (codes "HVS1") (stores_image m.stores) are)

spelled_bytes : (shape : Shape) (image : List ℕ) (m : StoreMap) → SpellsImage shape image m → AreBytes image → HoldBytes m.stores
spelled_bytes shape image m spelled are = elim spelled.form [
  | inl is ↦ image_bytes m (subst AreBytes is are)
  | inr is ↦ older_bytes m (subst AreBytes is are)
]

-- ---- a forms package is bytes

abbrev AllBytes : List Package → Type 0
AllBytes ps = AllByRecursion (λ (p : Package). AreBytes p.bytes) ps

cut_bytes : (n at : ℕ) (bytes : List ℕ) → AreBytes bytes → AllBytes (packages_from n at bytes)
unfolding packages_from
cut_bytes zero at bytes are = tt
cut_bytes (suc n) at bytes are =
    either AllBytes (is_bad bytes || package_type bytes == END_PACKAGE) []
    (record { place = at; kind = package_type bytes; bytes = take (package_length bytes) bytes } ∷ packages_from n (at + package_length bytes) (drop (package_length bytes) bytes)) tt
    (front_of (package_length bytes) bytes are, cut_bytes n (at + package_length bytes) (drop (package_length bytes) bytes) (behind (package_length bytes) bytes are))

kept_bytes : (test : Package → Bool) (ps : List Package) → AllBytes ps → AllBytes (filter test ps)
kept_bytes test [] are = tt
kept_bytes test (p ∷ ps) are = either AllBytes (test p) (p ∷ filter test ps) (filter test ps) (are.0, kept_bytes test ps are.1) (kept_bytes test ps are.1)

got_bytes : (ps : List Package) (k : ℕ) → AllBytes ps → AreBytes (unwrap_or (option_map (λ (p : Package). p.bytes) (slice_get ps k)) [])
got_bytes [] k are i = lit< tt
got_bytes (p ∷ ps) zero are i = are.0 i
got_bytes (p ∷ ps) (suc k) are i = got_bytes ps k are.1 i

package_bytes : (list : List ℕ) (n : ℕ) → AreBytes list → AreBytes (forms_bytes list n)
package_bytes list zero are k = lit< tt
package_bytes list (suc n) are k =
    let inside : List ℕ = drop 20 (take (list_length list) list) in
    let cut = cut_bytes (length list) 20 inside (behind 20 (take (list_length list) list) (front_of (list_length list) list are)) in
    got_bytes (packages_with FORMS list) n (kept_bytes (λ (p : Package). p.kind == FORMS) (packages_from (length list) 20 inside) cut) k

-- ---- a session stands

pub stands_opened : (list : List ℕ) (n : ℕ) (image language : List ℕ) (start : State) → Opens list n image language start → AreBytes list → AreBytes image → Stands start
stands_opened list n image language start opens are images = record {
  browsable = opens.browsable;
  are_bytes = subst AreBytes (opened_bytes list n image language start opens) (package_bytes list n are);
  committed = subst (AreStored start.ifr) (sym opens.submitted) its;
  working = its;
}
  where
    its : AreStored start.ifr start.working
    its = record { laid = opens.stores.laid; are_bytes = spelled_bytes (layout_in start.ifr) image start.working opens.stores images }
