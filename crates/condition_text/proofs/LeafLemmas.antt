-- What operators that take no operands say.
use Rattle.std.proofs.Common.{◌≡◌, ℕ, ◌*◌, Bool, true, List, refl, sym, ap, subst, ◌∙◌}
use Rattle.ifr_opcodes.specs.declared.codes.TheConstants.{EQ_ID_VAL, EQ_ID_ID, EQ_ID_VAL_LIST, QUESTION_REF1, RULE_REF, THIS}
use Rattle.ifr_opcodes.specs.declared.expressions.LeafOp.{LeafOp}
use Rattle.ifr_opcodes.specs.declared.expressions.LeafOp.TheVariants as leaf
use Rattle.ifr_opcodes.specs.declared.references.RuleRefOp.{RuleRefOp}
use Rattle.ifr_opcodes.specs.declared.operators.Constant.{Constant}
use Rattle.ifr_opcodes.specs.declared.operators.Constant.TheVariants as constants
use Rattle.ifr_opcodes.specs.code.Codes.{constant_code}
use Rattle.ifr_opcodes.specs.code.Ops.{bytes_of}
use Rattle.ifr_opcodes.specs.code.Views.{leaf_operator}
use Rattle.ifr_opcodes.specs.Fields.{eq_id_val_question, eq_id_val_value, eq_id_id_first, eq_id_id_second, eq_id_val_list_question, eq_id_val_list_values, question_ref_question, rule_ref_rule, uint_width, uint_value, uints}
use Rattle.ifr_opcodes.specs.Opcode.{number}
use Rattle.ifr_opcodes.specs.Rows.{is_among}
use Rattle.condition_text.specs.Senses.{Sense, eq_id_val, eq_id_id, eq_id_val_list, question_ref, rule_ref, uint, constant, leaf_sense, alone}
use Rattle.condition_text.specs.Texts.{is_short}
use Rattle.condition_text.proofs.WordLemmas.{of_each}

pub says_eq_id_val : (op : List ℕ) → number op ≡ EQ_ID_VAL → leaf_sense op ≡ eq_id_val (eq_id_val_question op) (eq_id_val_value op)
unfolding leaf_sense
says_eq_id_val op e = rw e refl

pub says_eq_id_id : (op : List ℕ) → number op ≡ EQ_ID_ID → leaf_sense op ≡ eq_id_id (eq_id_id_first op) (eq_id_id_second op)
unfolding leaf_sense
says_eq_id_id op e = rw e refl

pub says_eq_id_val_list : (op : List ℕ) → number op ≡ EQ_ID_VAL_LIST → leaf_sense op ≡ eq_id_val_list (eq_id_val_list_question op) (eq_id_val_list_values op)
unfolding leaf_sense
says_eq_id_val_list op e = rw e refl

pub says_question_ref : (op : List ℕ) → number op ≡ QUESTION_REF1 → leaf_sense op ≡ question_ref (question_ref_question op)
unfolding leaf_sense
says_question_ref op e = rw e refl

pub says_rule_ref : (op : List ℕ) → number op ≡ RULE_REF → leaf_sense op ≡ rule_ref (rule_ref_rule op)
unfolding leaf_sense
says_rule_ref op e = rw e refl

pub says_uint : (op : List ℕ) → is_among (number op) uints ≡ true → leaf_sense op ≡ uint (8 * uint_width (number op)) (uint_value op)
unfolding leaf_sense
says_uint op among =
    of_each (λ code. number op ≡ code → leaf_sense op ≡ uint (8 * uint_width (number op)) (uint_value op)) uints (number op)
    (λ e. rw e refl, (λ e. rw e refl, (λ e. rw e refl, (λ e. rw e refl, tt)))) among refl

pub says_constant : (op : List ℕ) → is_among (number op) alone ≡ true → leaf_sense op ≡ constant (number op)
unfolding leaf_sense
says_constant op among =
    of_each (λ code. number op ≡ code → leaf_sense op ≡ constant (number op)) alone (number op)
    (λ e. rw e refl, (λ e. rw e refl, (λ e. rw e refl, (λ e. rw e refl, (λ e. rw e refl, (λ e. rw e refl, (λ e. rw e refl, tt))))))) among refl

constant_alone : (c : Constant) → is_among (constant_code c) alone ≡ true
constant_alone constants.True = refl
constant_alone constants.False = refl
constant_alone constants.Zero = refl
constant_alone constants.One = refl
constant_alone constants.Ones = refl
constant_alone constants.Undefined = refl

-- what an operator says that takes no operands and is no reference to a rule
abbrev pub leaf_said : LeafOp → Sense
leaf_said (leaf.EqIdVal op) = eq_id_val (eq_id_val_question (bytes_of op.op)) (eq_id_val_value (bytes_of op.op))
leaf_said (leaf.EqIdId op) = eq_id_id (eq_id_id_first (bytes_of op.op)) (eq_id_id_second (bytes_of op.op))
leaf_said (leaf.EqIdValList op) = eq_id_val_list (eq_id_val_list_question (bytes_of op.op)) (eq_id_val_list_values (bytes_of op.op))
leaf_said (leaf.QuestionRef op) = question_ref (question_ref_question (bytes_of op.op))
leaf_said (leaf.Uint op) = uint (8 * uint_width op.op.code) (uint_value (bytes_of op.op))
leaf_said (leaf.Constant op) = constant (constant_code op.constant)
leaf_said (leaf.This op) = constant THIS

pub leaf_says : (op : LeafOp) → leaf_sense (bytes_of (leaf_operator op)) ≡ leaf_said op
leaf_says (leaf.EqIdVal op) = says_eq_id_val (bytes_of op.op) op.coded
leaf_says (leaf.EqIdId op) = says_eq_id_id (bytes_of op.op) op.coded
leaf_says (leaf.EqIdValList op) = says_eq_id_val_list (bytes_of op.op) op.coded
leaf_says (leaf.QuestionRef op) = says_question_ref (bytes_of op.op) op.coded
leaf_says (leaf.Uint op) = says_uint (bytes_of op.op) op.coded
leaf_says (leaf.Constant op) = says_constant (bytes_of op.op) (subst (λ code. is_among code alone ≡ true) op.coded (constant_alone op.constant)) ∙ ap constant (sym op.coded)
leaf_says (leaf.This op) = says_constant (bytes_of op.op) (rw op.coded refl) ∙ ap constant op.coded

pub rule_ref_says : (op : RuleRefOp) → leaf_sense (bytes_of op.op) ≡ rule_ref (rule_ref_rule (bytes_of op.op))
rule_ref_says op = says_rule_ref (bytes_of op.op) op.coded

-- whether an operator stands as an operand without parentheses, by which one it is
pub short_leaf : (op is : LeafOp) (short : Bool) → op ≡ is → is_short (leaf_said is) ≡ short → short ≡ is_short (leaf_sense (bytes_of (leaf_operator op)))
short_leaf op is short e s = sym (ap is_short (leaf_says op) ∙ ap (λ (o : LeafOp). is_short (leaf_said o)) e ∙ s)

pub rule_ref_short : (op : RuleRefOp) → is_short (leaf_sense (bytes_of op.op)) ≡ true
rule_ref_short op = ap is_short (rule_ref_says op)
