-- Forms that are met, each of another id.
use Rattle.std.specs.Prelude.{◌≡◌, ℕ, ◌<◌, ◌^◌, ◌==◌, Bool, if◌then◌else◌, List, [], ◌∷◌, ◌++◌, map, nat_eq}
use Rattle.std.specs.List.{AllByRecursion, AllByRecursion-prop, IsDistinct, IsDistinct-prop, filter_map, list_any}
use Rattle.std.proofs.Props.{props}
use Rattle.hii_bytes.specs.code.NumberSets.{has_number}
use Rattle.ifr_opcodes.specs.Fields.{form_id}
use Rattle.ifr_opcodes.specs.Forest.{Node}
use Rattle.guard_policy.specs.World.{World}
use Rattle.question_audit.specs.Reach.{led_to}

-- whether one of some forms has an id
abbrev pub has_id : List Node → ℕ → Bool
has_id forms id = list_any (λ form. form_id form.op == id) forms

-- forms that are met, and one more, unless one of them has its id
abbrev pub with_form : List Node → Node → List Node
with_form met form = if has_id met (form_id form.op) then met else met ++ form ∷ []

-- and several more
abbrev pub with_forms : List Node → List Node → List Node
with_forms met [] = met
with_forms met (form ∷ forms) = with_forms (with_form met form) forms

-- the forms to which statements lead
abbrev pub led_by : World → List Node → List Node
led_by w ns = filter_map (led_to w) ns

-- The set has the ids of these forms, of which no two have one id.
pub record AreOfIds (ids : List Bool) (forms : List Node) : Type 0 where
  pub told : (id : ℕ) → has_number ids id ≡ has_id forms id
  pub apart : IsDistinct nat_eq (map (λ form. form_id form.op) forms)
  pub small : AllByRecursion (λ form. form_id form.op < 2 ^ 16) forms

pub AreOfIds-prop : (ids : List Bool) (forms : List Node) → IsProp (AreOfIds ids forms)
AreOfIds-prop ids forms =
    hlevel (
      props,
      IsDistinct-prop nat_eq (map (λ (form : Node). form_id form.op) forms),
      AllByRecursion-prop (λ (form : Node). form_id form.op < 2 ^ 16) (λ form. hlevel props) forms,
    )
