-- To which forms references lead, and how each form is reached (own rule; references are those of UEFI 2.8, 33.3.8.3, EFI_IFR_REF).
use Rattle.std.specs.Prelude.{◌≡◌, ℕ, Bool, true, false, ◌==◌, ◌&&◌, if◌then◌else◌, is_none, Contains, Option, Some, None, option_and_then, List, [], ◌∷◌, filter}
use Rattle.std.specs.List.{find, flat_map, list_any}
use Rattle.ifr_opcodes.specs.Fields.{form_id, ref_target}
use Rattle.ifr_opcodes.specs.Forest.{Node}
use Rattle.ifr_nodes.specs.Nodes.{is_form, is_reference, is_statement, statements}
use Rattle.ifr_nodes.specs.ReferenceFaults.{form_with}
use Rattle.guard_policy.specs.Policy.{fixed, hidden}
use Rattle.guard_policy.specs.World.{World}
use Rattle.guard_policy.specs.declared.denial.Denial.{Denial}
use Rattle.question_audit.specs.declared.ways.Reach.{Reach}
use Rattle.question_audit.specs.declared.ways.Reach.TheVariants.{Open, Hidden, Closed, Below, Unnamed}

-- the form to which a statement leads: that of a reference that is open
abbrev pub led_to : World → Node → Option Node
led_to w n =
    if is_reference n && is_none (fixed w n)
    then option_and_then (form_with w.nodes) (ref_target n.op) else None

-- A statement of the one form leads to the other.
pub record Leads (w : World) (from to : Node) : Type 0 where
  pub statement : Node
  pub within : Contains (statements from) statement
  pub leads : led_to w statement ≡ Some to

-- Each form of the chain leads to the next, and the last to this form.
abbrev pub IsChain : World → Node → List Node → Node → Type 0
IsChain w from [] to = from ≡ to
IsChain w from (next ∷ chain) to = Leads w from next × IsChain w next chain to

-- A chain of references leads from the first form by place to this one, which may be the first itself.
pub record IsReached (w : World) (form : Node) : Type 0 where
  pub first : Node
  pub others : List Node
  pub forms : filter is_form w.nodes ≡ first ∷ others
  pub chain : List Node
  pub leads : IsChain w first chain form

-- A test of ids tells which of the forms are reached.
pub record TellsReached (w : World) (is_reached : ℕ → Bool) : Type 0 where
  pub told : (form : Node) → Contains (filter is_form w.nodes) form
      → is_reached (form_id form.op) ≡ true → IsReached w form
  pub all : (form : Node) → IsReached w form → is_reached (form_id form.op) ≡ true

-- ---- how a form is reached, by a test of ids that tells which forms are

-- the id of the form that a statement names, if it is a reference
abbrev pub named_form : Node → Option ℕ
named_form n = if is_reference n then ref_target n.op else None

abbrev pub is_of_id : Option ℕ → ℕ → Bool
is_of_id None id = false
is_of_id (Some named) id = named == id

abbrev pub names_form : ℕ → Node → Bool
names_form id n = is_of_id (named_form n) id

-- whether a reference of the form set does, wherever it stands
abbrev pub is_named : List Node → ℕ → Bool
is_named ns id = list_any (names_form id) (filter is_statement ns)

-- the statements of the forms that are reached, by place
abbrev pub statements_reached : World → (ℕ → Bool) → List Node
statements_reached w is_reached =
    flat_map statements (filter (λ form. is_reached (form_id form.op)) (filter is_form w.nodes))

-- what forbids to follow the first reference on a form that is reached
abbrev pub closing : World → (ℕ → Bool) → ℕ → Option Denial
closing w is_reached id =
    option_and_then (fixed w) (find (names_form id) (statements_reached w is_reached))

-- A form that is hidden, and else one that is reached; of the others one that such a reference names, and else one that any names.
abbrev pub reach_by : Option Denial → Bool → Option Denial → Bool → Reach
reach_by (Some denial) is_reached closed named = Hidden denial
reach_by None true closed named = Open
reach_by None false (Some denial) named = Closed denial
reach_by None false None true = Below
reach_by None false None false = Unnamed

abbrev pub reach_of : World → (ℕ → Bool) → Node → Reach
reach_of w is_reached form =
    reach_by (hidden w form) (is_reached (form_id form.op)) (closing w is_reached (form_id form.op))
    (is_named w.nodes (form_id form.op))
