-- Forms that are met, each of another id.
use Rattle.std.proofs.Common.{◌≡◌, ℕ, ◌<◌, ◌≤◌, ◌^◌, zero, suc, eqb, Bool, true, false, List, [], ◌∷◌, ◌++◌, length, map, append_assoc, refl, sym, ap, subst, ◌∙◌, arith, inl, inr}
use Rattle.std.specs.Prelude.{Contains, ◌==◌, ◌||◌, nat_eq}
use Rattle.std.specs.List.{AllByRecursion, IsDistinct, list_any}
use Rattle.std.proofs.lemmas.Bool.{cases_Bool, cond-true, cond-false, eqb-true, ne_eqb, eq-eqb}
use Rattle.std.proofs.lemmas.Cmp.{nat_eq_equiv}
use Rattle.std.proofs.lemmas.List.{append-nil, length-map, map_push}
use Rattle.std.proofs.lemmas.List.Folds.{list_any-append}
use Rattle.std.proofs.lemmas.Map.Keys.{IsDistinct-push}
use Rattle.std.proofs.lemmas.Map.Steps.{length-le_from_distinct_below}
use Rattle.hii_bytes.specs.code.NumberSets.{has_number}
use Rattle.ifr_opcodes.specs.Fields.{form_id}
use Rattle.ifr_opcodes.specs.Forest.{Node}
use Rattle.question_audit.specs.code.Meeting.{AreOfIds, has_id, with_form, with_forms}

abbrev pub id_of : Node → ℕ
id_of form = form_id form.op

-- ---- the ids of a set

turned : (a b : ℕ) → eqb a b ≡ eqb b a
turned a b = elim (cases_Bool (eqb a b)) [
  | inl same ↦ let e = eqb-true a b same in rw e refl
  | inr other ↦ other ∙ sym (ne_eqb b a (λ e. let same = eq-eqb a b (sym e) in cc))
]

any_id : (forms : List Node) (id : ℕ) → list_any (eqb id) (map id_of forms) ≡ has_id forms id
any_id [] id = refl
any_id (f ∷ forms) id = rw (turned id (id_of f), any_id forms id) refl

id_below : (forms : List Node) (id : ℕ) → AllByRecursion (λ f. id_of f < 2 ^ 16) forms → has_id forms id ≡ true → id < 65536
id_below [] id small h = cc
id_below (f ∷ forms) id small h = elim (cases_Bool (eqb (id_of f) id)) [
  | inl same ↦ let e = eqb-true (id_of f) id same in let its = small.0 in omega (arith, e, its)
  | inr other ↦ id_below forms id small.1 (rw other at h)
]

-- so there are at most 65,536 of them
pub few_forms : (ids : List Bool) (forms : List Node) → AreOfIds ids forms → length forms ≤ 65536
few_forms ids forms sound =
    let few = length-le_from_distinct_below (map id_of forms) 65536 sound.apart (λ q h. id_below forms q sound.small (sym (any_id forms q) ∙ h)) in
    omega (arith, few, length-map forms id_of)

small_push : (forms : List Node) (form : Node) → AllByRecursion (λ f. id_of f < 2 ^ 16) forms → id_of form < 2 ^ 16 → AllByRecursion (λ f. id_of f < 2 ^ 16) (forms ++ form ∷ [])
small_push [] form small its = (its, tt)
small_push (f ∷ forms) form small its = (small.0, small_push forms form small.1 its)

either_way : (a b c : Bool) → a ≡ b || c → a ≡ c || (b || false)
either_way a true true e = e
either_way a true false e = e
either_way a false true e = e
either_way a false false e = e

-- one more form, of an id that the set had not
pub more_ids : (ids new : List Bool) (forms : List Node) (form : Node) (id : ℕ) → AreOfIds ids forms → id ≡ id_of form → has_number ids id ≡ false → id < 2 ^ 16
    → ((other : ℕ) → has_number new other ≡ (id == other || has_number ids other)) → AreOfIds new (forms ++ form ∷ [])
more_ids ids new forms form id sound is fresh small e =
    let none : list_any (eqb (id_of form)) (map id_of forms) ≡ false = any_id forms (id_of form) ∙ sym (sound.told (id_of form)) ∙ ap (has_number ids) (sym is) ∙ fresh in
    record {
      told = λ other.
          either_way (has_number new other) (eqb (id_of form) other) (has_id forms other) (e other ∙ ap (λ (i : ℕ). eqb i other || has_number ids other) is ∙ ap (λ (b : Bool). eqb (id_of form) other || b) (sound.told other))
          ∙ sym (list_any-append (λ (f : Node). id_of f == other) forms (form ∷ []));
      apart = subst (IsDistinct nat_eq) (sym (map_push id_of forms form)) (IsDistinct-push nat_eq_equiv (map id_of forms) (id_of form) sound.apart none);
      small = small_push forms form sound.small (omega (arith, small, is));
    }

-- a set without numbers is that of no forms
pub no_ids : (ids : List Bool) → ((id : ℕ) → has_number ids id ≡ false) → AreOfIds ids []
unfolding IsDistinct
no_ids ids none = record { told = none; apart = tt; small = tt }

-- ---- forms with more of them

-- those that were met stay where they are
pub form_behind : (met : List Node) (form : Node) → (more : List Node) × (with_form met form ≡ met ++ more)
form_behind met form = elim (cases_Bool (has_id met (id_of form))) [
  | inl there ↦ ([], cond-true _ met (met ++ form ∷ []) there ∙ sym (append-nil met))
  | inr other ↦ (form ∷ [], cond-false _ met (met ++ form ∷ []) other)
]

pub forms_behind : (met forms : List Node) → (more : List Node) × (with_forms met forms ≡ met ++ more)
forms_behind met [] = ([], sym (append-nil met))
forms_behind met (f ∷ forms) =
    let one = form_behind met f in
    let others = forms_behind (with_form met f) forms in
    (one.0 ++ others.0, others.1 ∙ ap (λ (l : List Node). l ++ others.0) one.1 ∙ append_assoc met one.0 others.0)

pub id_stays : (met forms : List Node) (id : ℕ) → has_id met id ≡ true → has_id (with_forms met forms) id ≡ true
id_stays met forms id there =
    let behind = forms_behind met forms in
    ap (λ (l : List Node). has_id l id) behind.1 ∙ list_any-append (λ (f : Node). id_of f == id) met behind.0 ∙ ap (λ (b : Bool). b || has_id behind.0 id) there

form_met : (met : List Node) (form : Node) → has_id (with_form met form) (id_of form) ≡ true
form_met met form = elim (cases_Bool (has_id met (id_of form))) [
  | inl there ↦ ap (λ (l : List Node). has_id l (id_of form)) (cond-true _ met (met ++ form ∷ []) there) ∙ there
  | inr other ↦
      ap (λ (l : List Node). has_id l (id_of form)) (cond-false _ met (met ++ form ∷ []) other)
      ∙ list_any-append (λ (f : Node). id_of f == id_of form) met (form ∷ [])
      ∙ rw (other, eq-eqb (id_of form) (id_of form) refl) refl
]

-- and each of the new ones is met
pub forms_met : (met forms : List Node) (form : Node) → Contains forms form → has_id (with_forms met forms) (id_of form) ≡ true
forms_met met [] form (k, lt, e) = absurd (omega arith)
forms_met met (f ∷ forms) form (zero, lt, e) =
    let same : f ≡ form = e in
    id_stays (with_form met f) forms (id_of form) (subst (λ (g : Node). has_id (with_form met f) (id_of g) ≡ true) same (form_met met f))
forms_met met (f ∷ forms) form (suc k, lt, e) = forms_met (with_form met f) forms form (k, omega arith, e)

-- what holds of all of them holds of those that are met
module _ (P : Node → Type 0) where
  all_push : (met : List Node) (form : Node) → AllByRecursion P met → P form → AllByRecursion P (met ++ form ∷ [])
  all_push [] form all its = (its, tt)
  all_push (f ∷ met) form all its = (all.0, all_push met form all.1 its)

  all_with : (met : List Node) (form : Node) → AllByRecursion P met → P form → AllByRecursion P (with_form met form)
  all_with met form all its = elim (cases_Bool (has_id met (id_of form))) [
    | inl there ↦ rw there all
    | inr other ↦ rw other (all_push met form all its)
  ]

  pub all_met : (met forms : List Node) → AllByRecursion P met → AllByRecursion P forms → AllByRecursion P (with_forms met forms)
  all_met met [] all its = all
  all_met met (f ∷ forms) all its = all_met (with_form met f) forms (all_with met f all its.0) its.1
