-- The ids of a good form set: of its forms, its questions and its stores (UEFI 2.8, 33.2.5.2 Forms, 33.2.5.4 Questions and
-- 33.2.5.6 Storage; which may come twice is an own rule).
use Rattle.std.specs.Prelude.{◌≡◌, ◌≢◌, ℕ, Bool, ◌==◌, not, nat_eq, Some, List, map, filter, Contains}
use Rattle.std.specs.List.{IsDistinct}
use Rattle.ifr_opcodes.specs.Fields.{form_id, question_id, ref_target}
use Rattle.ifr_opcodes.specs.Forest.{Node}
use Rattle.ifr_nodes.specs.Nodes.{is_form, is_question, is_reference, is_store}
use Rattle.ifr_nodes.specs.Rules.{is_rule}
use Rattle.ifr_scopes.specs.Stores.{store_id}
use Rattle.rules_laws.specs.laws.Naming.{IsSmallRule}

-- Ids differ from one another.
abbrev pub AreDistinct : List ℕ → Type 0
AreDistinct ids = IsDistinct nat_eq ids

abbrev pub form_ids : List Node → List ℕ
form_ids ns = map (λ (n : Node). form_id n.op) (filter is_form ns)

-- those of the questions that have one; 0 is none
abbrev pub is_id : ℕ → Bool
is_id id = not (id == 0)

abbrev pub question_ids : List Node → List ℕ
question_ids ns = filter is_id (map (λ (n : Node). question_id n.op) (filter is_question ns))

abbrev pub store_ids : List Node → List ℕ
store_ids ns = map (λ (n : Node). store_id n.op) (filter is_store ns)

-- There is a form. The ids of forms differ, and those of questions; a reference that leads to a form of this form set leads to
-- one that is there; the rules are small.
pub record AreReferred (ns : List Node) : Type 0 where
  pub first : Node
  pub is_there : Contains (filter is_form ns) first
  pub forms : AreDistinct (form_ids ns)
  pub questions : AreDistinct (question_ids ns)
  pub targets : (n : Node) (id : ℕ) → Contains (filter is_reference ns) n
      → ref_target n.op ≡ Some id → Contains (form_ids ns) id
  pub rules : (r : Node) → Contains (filter is_rule ns) r → IsSmallRule ns r

-- The ids of stores differ, and none is 0.
pub record AreStores (ns : List Node) : Type 0 where
  pub differ : AreDistinct (store_ids ns)
  pub ids : (id : ℕ) → Contains (store_ids ns) id → id ≢ 0
