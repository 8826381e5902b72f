-- Values that are told.
use Rattle.std.proofs.Common.{◌≡◌, ℕ, true, false, Option, Some, None, List, [], ◌++◌, codes, refl, sym, append_assoc}
use Rattle.std.specs.Prelude.{is_some}
use Rattle.ifr_expr.specs.code.Views.{value_of}
use Rattle.ifr_expr.specs.declared.value.Value.{Value}
use Rattle.ifr_expr.specs.declared.value.Value.TheVariants.{Undefined, Boolean, Number, Text, Buffer}
use Rattle.question_audit.specs.QuestionLines.{is_undefined}
use Rattle.question_audit.specs.ScriptValues.{behind}
use Rattle.question_audit.specs.ConditionFacts.{column}
use Rattle.question_audit.specs.QuestionFacts.{told_default}

-- a value of the code that is defined
pub defined : (v : Value) → (v ≡ Undefined → ⊥) → is_undefined (value_of v) ≡ false
defined Undefined n = absurd (n refl)
defined (Boolean b) n = refl
defined (Number k) n = refl
defined (Text units) n = refl
defined (Buffer bytes) n = refl

-- a default that scripts take, and one that they do not
pub told : (name choice : List ℕ) (s : Option (List ℕ)) → is_some s ≡ true → column (codes "default") ++ (behind [] s ++ choice) ++ codes " (" ++ name ++ codes ")\n" ≡ told_default name choice s
told name choice None e = absurd cc
told name choice (Some its) e = sym (append_assoc (column (codes "default") ++ (its ++ choice) ++ codes " (" ++ name) (codes ")") (codes "\n"))

pub not_told : (name choice : List ℕ) (s : Option (List ℕ)) → is_some s ≡ false → [] ≡ told_default name choice s
not_told name choice None e = refl
not_told name choice (Some its) e = absurd cc
