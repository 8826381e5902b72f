-- What is known of ids and references in the walk that makes an index.
use Rattle.std.specs.Prelude.{◌≡◌, ◌⊎◌, ℕ, Bool, true, false, not, ◌==◌, ◌&&◌, ◌||◌, if◌then◌else◌, Option, Some, None, List, [], ◌∷◌, ◌++◌, Contains, filter}
use Rattle.std.specs.List.{list_any}
use Rattle.hii_bytes.specs.Faults.{HasNone}
use Rattle.hii_bytes.specs.code.NumberSets.{has_number}
use Rattle.hii_bytes.specs.declared.cause.Cause.TheVariants.{DuplicateForm, DuplicateQuestion}
use Rattle.ifr_opcodes.specs.Fields.{form_id, question_id, ref_target}
use Rattle.ifr_opcodes.specs.Forest.{Node}
use Rattle.ifr_nodes.specs.Nodes.{is_form, is_question, is_reference}
use Rattle.ifr_nodes.specs.ReferenceFaults.{Ranked, ranked, has_form_id, has_question_id, has_reference_fault, IsReferenceFault}
use Rattle.ifr_nodes.specs.Rules.{is_rule}
use Rattle.ifr_index.specs.declared.references.References.{References}

-- the id of the form of this form set to which a node leads
abbrev pub leads_to : Node → Option ℕ
leads_to n = if is_reference n then ref_target n.op else None

-- ---- one node after the other

-- whether a node has an id that was met
abbrev pub repeats : References → Node → Bool
repeats met n =
    (is_form n && has_number met.forms (form_id n.op))
    || (is_question n && (not (question_id n.op == 0) && has_number met.questions (question_id n.op)))

-- the id to which something leads, if no form of it was met
abbrev pub unmet : List Bool → Option ℕ → List ℕ
unmet forms None = []
unmet forms (Some id) = if has_number forms id then [] else id ∷ []

-- A node is met.
pub record Refers (n : Node) (old new : References) : Type 0 where
  pub forms : (id : ℕ) → has_number new.forms id ≡ (has_form_id id n || has_number old.forms id)
  pub questions : (id : ℕ)
      → has_number new.questions id ≡ (has_question_id id n || has_number old.questions id)
  pub awaited : new.awaited.items ≡ old.awaited.items ++ unmet old.forms (leads_to n)
  pub repeated : new.repeated ≡ (repeats old n || old.repeated)

-- ---- several nodes

-- whether a node has the id of one before it
abbrev pub repeats_one : Ranked → Bool
repeats_one r =
    has_reference_fault [] r DuplicateForm || has_reference_fault [] r DuplicateQuestion

-- These nodes were met.
pub record AreReferencesOf (ns : List Node) (met : References) : Type 0 where
  pub forms : (id : ℕ) → has_number met.forms id ≡ list_any (has_form_id id) ns
  pub questions : (id : ℕ) → has_number met.questions id ≡ list_any (has_question_id id) ns
  pub awaited : (n : Node) (id : ℕ) → Contains ns n → leads_to n ≡ Some id
      → (list_any (has_form_id id) ns ≡ true) ⊎ Contains met.awaited.items id
  pub repeated : met.repeated ≡ list_any repeats_one (ranked [] ns)

-- No id is there twice, and references lead to forms.
pub record AreDistinct (ns : List Node) : Type 0 where
  pub once : list_any repeats_one (ranked [] ns) ≡ false
  pub led : (n : Node) (id : ℕ) → Contains ns n → leads_to n ≡ Some id
      → list_any (has_form_id id) ns ≡ true

-- Nodes have no fault among each other, and there is no rule.
pub record AreReferred (ns : List Node) : Type 0 where
  pub sound : HasNone (IsReferenceFault ns)
  pub no_rule : filter is_rule ns ≡ []
