-- Forms and questions by their ids: which are named twice, and which forms are not there; and rules that are too large
-- (own rule).
use Rattle.std.specs.Prelude.{◌≡◌, ◌⊎◌, ℕ, Bool, false, ◌==◌, ◌&&◌, not, Option, Some, None, List, [], ◌∷◌, ◌++◌, filter}
use Rattle.std.specs.List.{list_any, find}
use Rattle.hii_bytes.specs.Faults.{IsFaultOf}
use Rattle.hii_bytes.specs.declared.cause.Cause.{Cause}
use Rattle.hii_bytes.specs.declared.cause.Cause.TheVariants.{DuplicateForm, DuplicateQuestion, NoForm, RuleTooLarge}
use Rattle.ifr_opcodes.specs.Fields.{form_id, question_id, ref_target}
use Rattle.ifr_opcodes.specs.Forest.{Node}
use Rattle.ifr_nodes.specs.Nodes.{is_form, is_question, is_reference}
use Rattle.ifr_nodes.specs.Rules.{is_rule, as_rule, rules_among, size, is_rule_too_large}

-- a node, with the nodes before it
pub record Ranked : Type 0 where
  pub before : List Node
  pub node : Node

-- each of some nodes with those before it
abbrev pub ranked : List Node → List Node → List Ranked
ranked before [] = []
ranked before (n ∷ ns) = record { before = before; node = n } ∷ ranked (before ++ n ∷ []) ns

abbrev pub has_form_id : ℕ → Node → Bool
has_form_id id n = is_form n && (form_id n.op == id)

-- the form of an id (UEFI 2.8, 33.2.5.2 Forms)
abbrev pub form_with : List Node → ℕ → Option Node
form_with ns id = find (has_form_id id) ns

abbrev pub has_question_id : ℕ → Node → Bool
has_question_id id n = is_question n && (question_id n.op == id)

-- no form has the id to which a reference leads
abbrev pub is_lost : List Node → Option ℕ → Bool
is_lost ns None = false
is_lost ns (Some id) = not (list_any (has_form_id id) ns)

-- A form has the id of a form before it; a question has the id, other than 0, of a question before it; a reference leads to
-- a form that is not among all nodes; a rule is too large over the rules before it.
abbrev pub has_reference_fault : List Node → Ranked → Cause → Bool
has_reference_fault ns r DuplicateForm =
    is_form r.node && list_any (has_form_id (form_id r.node.op)) r.before
has_reference_fault ns r DuplicateQuestion =
    is_question r.node && (not (question_id r.node.op == 0)
    && list_any (has_question_id (question_id r.node.op)) r.before)
has_reference_fault ns r NoForm = is_reference r.node && is_lost ns (ref_target r.node.op)
has_reference_fault ns r RuleTooLarge =
    is_rule r.node && is_rule_too_large (size (rules_among r.before) (as_rule r.node))
has_reference_fault ns r _ = false

abbrev pub IsRankedFault : List Node → Cause → ℕ → Type 0
IsRankedFault ns = IsFaultOf (λ (r : Ranked). r.node.place) (has_reference_fault ns) (ranked [] ns)

-- There is no form, or a node has a fault beside those before it, or beside the forms.
abbrev pub IsReferenceFault : List Node → Cause → ℕ → Type 0
IsReferenceFault ns cause place =
    ((filter is_form ns ≡ []) × (cause ≡ NoForm) × (place ≡ 4)) ⊎ IsRankedFault ns cause place
