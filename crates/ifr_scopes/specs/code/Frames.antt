-- What is left of expressions of which each stands on the one that names its rule.
use Rattle.std.specs.Prelude.{ℕ, ◌+◌, ◌≤◌, List, [], ◌∷◌, length, map, ⊤}
use Rattle.std.specs.Coded.{×_prop, Unit-prop}
use Rattle.std.specs.List.{flat_map}
use Rattle.std.proofs.Props.{props}
use Rattle.ifr_expr.specs.Dependence.{own, rule_ids}
use Rattle.ifr_expr.specs.Meaning.{Rule}
use Rattle.ifr_expr.specs.code.NamesLeft.{names_left}
use Rattle.ifr_expr.specs.declared.names.Name.{Name}
use Rattle.ifr_expr.specs.declared.names.Name.TheVariants as name
use Rattle.ifr_nodes.specs.Rules.{rule_sizes, greatest}
use Rattle.ifr_scopes.specs.declared.dependence.Frame.{Frame}

-- the questions behind a name that stands in the scope of this one
abbrev pub ids_by : List Rule → ℕ → Name → List ℕ
ids_by rules this (name.Question id) = id ∷ []
ids_by rules this name.This = own this
ids_by rules this (name.Rule r) = rule_ids rules r.id r.place

-- the ids behind what is left of an expression
abbrev pub frame_ids : List Rule → Frame → List ℕ
frame_ids rules frame = flat_map (ids_by rules frame.this) (names_left frame.names)

-- how deep the rule is that is named, if one is
abbrev pub depth_by : List Rule → Name → ℕ
depth_by rules (name.Question id) = 0
depth_by rules name.This = 0
depth_by rules (name.Rule r) = (rule_sizes rules r.id r.place).depth

abbrev pub frame_depth : List Rule → Frame → ℕ
frame_depth rules frame = greatest (map (depth_by rules) (names_left frame.names))

-- Frames, the one on top first: on each there is room for its rules, in 17 frames.
abbrev pub HaveRoom : List Rule → List Frame → Type 0
HaveRoom rules [] = ⊤
HaveRoom rules (frame ∷ below) =
    (frame_depth rules frame + length below ≤ 16) × HaveRoom rules below

pub HaveRoom-prop : (rules : List Rule) (frames : List Frame) → IsProp (HaveRoom rules frames)
HaveRoom-prop rules [] = Unit-prop
HaveRoom-prop rules (frame ∷ below) = ×_prop (hlevel props) (HaveRoom-prop rules below)
