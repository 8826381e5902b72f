-- What is written of operators that take no operands is their text.
use Rattle.std.proofs.Common.{◌≡◌, ℕ, ◌*◌, List, ◌++◌, refl, sym, ap, ap₂, subst, ◌∙◌}
use Rattle.std.specs.Prelude.{codes, decimal}
use Rattle.std.specs.List.{flat_map}
use Rattle.hii_bytes.specs.Watching.{Pen, Writes}
use Rattle.ifr_opcodes.specs.declared.codes.TheConstants.{THIS}
use Rattle.ifr_opcodes.specs.declared.expressions.LeafOp.{LeafOp}
use Rattle.ifr_opcodes.specs.declared.expressions.LeafOp.TheVariants as leaf
use Rattle.ifr_opcodes.specs.declared.expressions.UintOp.{UintOp}
use Rattle.ifr_opcodes.specs.declared.expressions.ConstantOp.{ConstantOp}
use Rattle.ifr_opcodes.specs.declared.eq_id_val.EqIdValOp.{EqIdValOp}
use Rattle.ifr_opcodes.specs.declared.eq_id_id.EqIdIdOp.{EqIdIdOp}
use Rattle.ifr_opcodes.specs.declared.eq_id_val_list.EqIdValListOp.{EqIdValListOp}
use Rattle.ifr_opcodes.specs.declared.references.QuestionRefOp.{QuestionRefOp}
use Rattle.ifr_opcodes.specs.declared.references.RuleRefOp.{RuleRefOp}
use Rattle.ifr_opcodes.specs.code.Codes.{constant_code}
use Rattle.ifr_opcodes.specs.code.Ops.{bytes_of}
use Rattle.ifr_opcodes.specs.code.Views.{leaf_operator}
use Rattle.ifr_opcodes.specs.Fields.{eq_id_val_question, eq_id_val_value, eq_id_id_first, eq_id_id_second, eq_id_val_list_question, eq_id_val_list_values, question_ref_question, rule_ref_rule, uint_width, uint_value}
use Rattle.condition_text.specs.Senses.{eq_id_val, eq_id_id, eq_id_val_list, question_ref, rule_ref, uint, constant, leaf_sense}
use Rattle.condition_text.specs.Texts.{text, word_in, constant_words}
use Rattle.condition_text.proofs.LeafLemmas.{leaf_said, leaf_says, rule_ref_says}

-- what was written is this text
pub written_as : {a b : Pen} {s t : List ℕ} → Writes a b s → s ≡ t → Writes a b t
written_as {a} {b} w e = subst (Writes a b) e w

-- the text of an operator, by which one it is
abbrev pub LeafText : LeafOp → List ℕ → Type 0
LeafText op written = written ≡ text (leaf_sense (bytes_of (leaf_operator op)))

pub leaf_text : (op is : LeafOp) (written : List ℕ) → op ≡ is → written ≡ text (leaf_said is) → LeafText op written
leaf_text op is written e w = w ∙ ap (λ (o : LeafOp). text (leaf_said o)) (sym e) ∙ ap text (sym (leaf_says op))

pub eq_id_val_text : (op : EqIdValOp) (q v : ℕ) → q ≡ eq_id_val_question (bytes_of op.op) → v ≡ eq_id_val_value (bytes_of op.op) → codes "ideqval q" ++ decimal q ++ codes " == " ++ decimal v ≡ text (leaf_said (leaf.EqIdVal op))
unfolding text
eq_id_val_text op q v e f = ap₂ (λ (a b : ℕ). text (eq_id_val a b)) e f

pub eq_id_id_text : (op : EqIdIdOp) (q v : ℕ) → q ≡ eq_id_id_first (bytes_of op.op) → v ≡ eq_id_id_second (bytes_of op.op) → codes "ideqid q" ++ decimal q ++ codes " == q" ++ decimal v ≡ text (leaf_said (leaf.EqIdId op))
unfolding text
eq_id_id_text op q v e f = ap₂ (λ (a b : ℕ). text (eq_id_id a b)) e f

pub eq_id_val_list_text : (op : EqIdValListOp) (q : ℕ) (vs : List ℕ) → q ≡ eq_id_val_list_question (bytes_of op.op) → vs ≡ eq_id_val_list_values (bytes_of op.op)
    → codes "ideqvallist q" ++ decimal q ++ codes " ==" ++ flat_map (λ value. codes " " ++ decimal value) vs ≡ text (leaf_said (leaf.EqIdValList op))
unfolding text
eq_id_val_list_text op q vs e f = ap₂ (λ (a : ℕ) (b : List ℕ). text (eq_id_val_list a b)) e f

pub question_ref_text : (op : QuestionRefOp) (q : ℕ) → q ≡ question_ref_question (bytes_of op.op) → codes "questionref(" ++ decimal q ++ codes ")" ≡ text (leaf_said (leaf.QuestionRef op))
unfolding text
question_ref_text op q e = ap (λ (a : ℕ). text (question_ref a)) e

pub uint_text : (op : UintOp) (v b : ℕ) → v ≡ uint_value (bytes_of op.op) → b ≡ 8 * uint_width op.op.code → decimal v ++ codes "u" ++ decimal b ≡ text (leaf_said (leaf.Uint op))
unfolding text
uint_text op v b e f = ap₂ (λ (a b : ℕ). text (uint b a)) e f

pub constant_text : (op : ConstantOp) (w : List ℕ) → w ≡ word_in constant_words (constant_code op.constant) → w ≡ text (leaf_said (leaf.Constant op))
unfolding text
constant_text op w e = e

pub this_text : codes "THIS" ≡ text (constant THIS)
unfolding text
this_text = refl

pub rule_ref_text : (op : RuleRefOp) (r : ℕ) → r ≡ rule_ref_rule (bytes_of op.op) → codes "ruleref(" ++ decimal r ++ codes ")" ≡ text (leaf_sense (bytes_of op.op))
unfolding text
rule_ref_text op r e = ap (λ (a : ℕ). text (rule_ref a)) e ∙ ap text (sym (rule_ref_says op))
