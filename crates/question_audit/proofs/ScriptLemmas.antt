-- Values as scripts take them.
use Rattle.std.proofs.Common.{◌≡◌, ℕ, Bool, true, false, List, [], refl, sym, ap, ◌∙◌}
use Rattle.std.specs.Prelude.{codes, decimal, if◌then◌else◌}
use Rattle.std.specs.Fmt.{digits}
use Rattle.ifr_opcodes.specs.Forest.{Node}
use Rattle.ifr_opcodes.specs.Opcode.{number}
use Rattle.ifr_opcodes.specs.code.Ops.{bytes_of}
use Rattle.ifr_opcodes.specs.declared.questions.CheckboxOp.{CheckboxOp}
use Rattle.ifr_opcodes.specs.declared.numeric.NumericOp.{NumericOp}
use Rattle.ifr_opcodes.specs.declared.one_of.OneOfOp.{OneOfOp}
use Rattle.ifr_opcodes.specs.declared.ordered_list.OrderedListOp.{OrderedListOp}
use Rattle.ifr_opcodes.specs.declared.string.StringOp.{StringOp}
use Rattle.ifr_expr.specs.Values as answers
use Rattle.ifr_expr.specs.code.Views.{value_of}
use Rattle.ifr_expr.specs.declared.value.Value.{Value}
use Rattle.ifr_expr.specs.declared.value.Value.TheVariants.{Undefined, Boolean, Number, Text, Buffer}
use Rattle.ifr_scopes.specs.code.Lists.{kind_op}
use Rattle.ifr_scopes.specs.declared.statement.StatementKind.{StatementKind}
use Rattle.ifr_scopes.specs.declared.statement.StatementKind.TheVariants as kinds
use Rattle.question_audit.specs.ScriptValues.{behind, numeric_script, script_value}

digit_of : (b : Bool) → decimal (mir.Val.bool_byte b) ≡ (if b then codes "1" else codes "0")
unfolding digits
digit_of true = refl
digit_of false = refl

-- the digit of a checkbox
pub digit_is : (b : Bool) (n : ℕ) → n ≡ mir.Val.bool_byte b → decimal n ≡ (if b then codes "1" else codes "0")
digit_is b n e = ap decimal e ∙ digit_of b

-- a value that is no number has no text of one
pub no_number : (value : Value) (before op : List ℕ) → ((n : ℕ) → value ≡ Number n → ⊥) → [] ≡ behind before (numeric_script (value_of value) op)
no_number Undefined before op other = refl
no_number (Boolean b) before op other = refl
no_number (Number n) before op other = absurd (other n refl)
no_number (Text units) before op other = refl
no_number (Buffer bytes) before op other = refl

-- a statement of another kind has no text of a value
pub no_script : (kind : StatementKind) (n : Node) (value : answers.Value) (before : List ℕ) → bytes_of (kind_op kind) ≡ n.op
    → ((op : CheckboxOp) → kind ≡ kinds.Checkbox op → ⊥) → ((op : NumericOp) → kind ≡ kinds.Numeric op → ⊥) → ((op : OneOfOp) → kind ≡ kinds.OneOf op → ⊥)
    → ((op : StringOp) → kind ≡ kinds.String op → ⊥) → ((op : OrderedListOp) → kind ≡ kinds.OrderedList op → ⊥) → [] ≡ behind before (script_value n value)
no_script (kinds.Subtitle view) n value before e checkbox numeric one_of string list = rw (ap number (sym e) ∙ view.coded) refl
no_script (kinds.Text view) n value before e checkbox numeric one_of string list = rw (ap number (sym e) ∙ view.coded) refl
no_script (kinds.ResetButton view) n value before e checkbox numeric one_of string list = rw (ap number (sym e) ∙ view.coded) refl
no_script (kinds.Checkbox view) n value before e checkbox numeric one_of string list = absurd (checkbox view refl)
no_script (kinds.Numeric view) n value before e checkbox numeric one_of string list = absurd (numeric view refl)
no_script (kinds.OneOf view) n value before e checkbox numeric one_of string list = absurd (one_of view refl)
no_script (kinds.String view) n value before e checkbox numeric one_of string list = absurd (string view refl)
no_script (kinds.Password view) n value before e checkbox numeric one_of string list = rw (ap number (sym e) ∙ view.coded) refl
no_script (kinds.OrderedList view) n value before e checkbox numeric one_of string list = absurd (list view refl)
no_script (kinds.Date view) n value before e checkbox numeric one_of string list = rw (ap number (sym e) ∙ view.coded) refl
no_script (kinds.Time view) n value before e checkbox numeric one_of string list = rw (ap number (sym e) ∙ view.coded) refl
no_script (kinds.Action view) n value before e checkbox numeric one_of string list = rw (ap number (sym e) ∙ view.coded) refl
no_script (kinds.Ref view) n value before e checkbox numeric one_of string list = rw (ap number (sym e) ∙ view.coded) refl
