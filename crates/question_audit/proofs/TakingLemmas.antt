-- Defaults that questions have taken.
use Rattle.std.proofs.Common.{◌≡◌, ℕ, List, [], Option, None, sym, ap, ◌∙◌, subst}
use Rattle.std.specs.Prelude.{option_and_then}
use Rattle.ifr_expr.specs.Values.{Value}
use Rattle.hii_varstore.specs.Layout.{Shape}
use Rattle.hii_varstore.specs.Stores.{StoreMap, shape_of}
use Rattle.hii_varstore.specs.code.Ranges.{HasRange}
use Rattle.hii_varstore.proofs.WriteLemmas.{shape_after}
use Rattle.hii_questions.specs.Fields.{Asked}
use Rattle.hii_questions.specs.declared.field.Field.{Field}
use Rattle.question_audit.specs.Audited.{Audited}
use Rattle.question_audit.specs.ScriptValues.{behind, default_taken, default_value, script_value}
use Rattle.question_audit.specs.code.Taking.{DifferIn}

-- stores that differ in a field are of the same layout
pub same_shape : (others stores : StoreMap) (field : Field) → DifferIn others stores field → shape_of stores ≡ shape_of others
same_shape others stores field differ = ap shape_of differ.put ∙ shape_after others field.store field.offset differ.bytes

-- and the field lies in both
pub range_there : (others stores : StoreMap) (field : Field) → DifferIn others stores field → HasRange (shape_of stores) field.store field.offset field.width
range_there others stores field differ =
    subst (λ (shape : Shape). HasRange shape field.store field.offset field.width) (sym (same_shape others stores field differ)) differ.there

-- a default that is not taken has no text
pub no_default : (a : Audited) (q : Asked) (class : ℕ) (before : List ℕ) → default_taken a q class ≡ None → [] ≡ behind before (default_value a q class)
no_default a q class before none = ap (λ (o : Option Value). behind before (option_and_then (script_value q.node) o)) (sym none)
