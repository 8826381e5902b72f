-- A default that a question has taken.
use Rattle.std.specs.Prelude.{◌≡◌, ℕ, Option, Some, None, List, length}
use Rattle.hii_varstore.specs.Stores.{StoreMap, shape_of, with_bytes}
use Rattle.hii_varstore.specs.code.Ranges.{HasRange}
use Rattle.hii_questions.specs.Answers.{value_of_field}
use Rattle.hii_questions.specs.Fields.{Asked}
use Rattle.hii_questions.specs.code.Checks.{range_of}
use Rattle.hii_questions.specs.declared.field.Field.{Field}
use Rattle.question_audit.specs.Audited.{Audited}
use Rattle.question_audit.specs.ScriptValues.{default_taken}

-- The stores hold new bytes in this field, which lies in them, and else what the others hold.
pub record DifferIn (others stores : StoreMap) (field : Field) : Type 0 where
  pub there : HasRange (shape_of others) field.store field.offset field.width
  pub bytes : List ℕ
  pub whole : length bytes ≡ field.width
  pub put : stores ≡ with_bytes others field.store field.offset bytes

-- The stores hold new bytes in this field of the question, which are its default's.
pub record Taken (a : Audited) (q : Asked) (class : ℕ) (stores : StoreMap) (field : Field) : Type 0 where
  pub lies : q.field ≡ Some (range_of field)
  pub value : default_taken a q class ≡ Some (value_of_field stores q.node q.field)
  pub new : DifferIn a.stores stores field

-- The question has taken its default for a class in the stores, or takes none, and the stores are as they were.
abbrev pub HasTaken : Audited → Asked → ℕ → StoreMap → Option Field → Type 0
HasTaken a q class stores None = (default_taken a q class ≡ None) × (stores ≡ a.stores)
HasTaken a q class stores (Some field) = Taken a q class stores field
