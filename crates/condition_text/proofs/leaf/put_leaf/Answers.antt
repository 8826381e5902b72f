use Rattle.std.proofs.Common.{◌∙◌}
use Rattle.hii_bytes.proofs.WritingLemmas.{◌⨾◌}
use Rattle.condition_text.proofs.WriteLemmas.{written_as, leaf_text, eq_id_val_text, eq_id_id_text, eq_id_val_list_text, question_ref_text, uint_text, constant_text, this_text}
use Rattle.condition_text.proofs.leaf.put_leaf.Goals as goal

pub returns-in-EqIdVal : goal.returns-in-EqIdVal
returns-in-EqIdVal g c =
    written_as (c.put.ensures ⨾ c.put_decimal.ensures ⨾ c.put-in-EqIdVal.ensures ⨾ c.put_decimal-in-EqIdVal.ensures)
    (leaf_text c.args.op _ _ c.in-EqIdVal.is (eq_id_val_text c.in-EqIdVal.op c.from.result c.from-in-EqIdVal.result (c.from.ensures ∙ c.question.ensures) (c.from-in-EqIdVal.ensures ∙ c.value.ensures)))

pub returns-in-EqIdId : goal.returns-in-EqIdId
returns-in-EqIdId g c =
    written_as (c.put-in-EqIdId.ensures ⨾ c.put_decimal-in-EqIdId.ensures ⨾ c.put-in-EqIdId-2.ensures ⨾ c.put_decimal-in-EqIdId-2.ensures)
    (leaf_text c.args.op _ _ c.in-EqIdId.is (eq_id_id_text c.in-EqIdId.op c.from-in-EqIdId.result c.from-in-EqIdId-2.result (c.from-in-EqIdId.ensures ∙ c.first.ensures) (c.from-in-EqIdId-2.ensures ∙ c.second.ensures)))

pub returns-in-EqIdValList : goal.returns-in-EqIdValList
returns-in-EqIdValList g c =
    written_as (c.put-in-EqIdValList.ensures ⨾ c.put_decimal-in-EqIdValList.ensures ⨾ c.put-in-EqIdValList-2.ensures ⨾ c.put_values.ensures)
    (leaf_text c.args.op _ _ c.in-EqIdValList.is (eq_id_val_list_text c.in-EqIdValList.op c.from-in-EqIdValList.result _ (c.from-in-EqIdValList.ensures ∙ c.question-in-EqIdValList.ensures) c.values.ensures))

pub returns-in-QuestionRef : goal.returns-in-QuestionRef
returns-in-QuestionRef g c =
    written_as (c.put-in-QuestionRef.ensures ⨾ c.put_decimal-in-QuestionRef.ensures ⨾ c.put-in-QuestionRef-2.ensures)
    (leaf_text c.args.op _ _ c.in-QuestionRef.is (question_ref_text c.in-QuestionRef.op c.from-in-QuestionRef.result (c.from-in-QuestionRef.ensures ∙ c.question-in-QuestionRef.ensures)))

pub returns-in-Uint : goal.returns-in-Uint
returns-in-Uint g c =
    written_as (c.put_decimal-in-Uint.ensures ⨾ c.put-in-Uint.ensures ⨾ c.put_decimal-in-Uint-2.ensures)
    (leaf_text c.args.op _ _ c.in-Uint.is (uint_text c.in-Uint.op c.value-in-Uint.result c.bits_of.result c.value-in-Uint.ensures c.bits_of.ensures))

pub returns-in-Constant : goal.returns-in-Constant
returns-in-Constant g c =
    written_as (c.put-in-Constant.ensures)
    (leaf_text c.args.op _ _ c.in-Constant.is (constant_text c.in-Constant.op _ c.constant_word.ensures))

pub returns-in-This : goal.returns-in-This
returns-in-This g c =
    written_as (c.put-in-This.ensures)
    (leaf_text c.args.op _ _ c.in-This.is this_text)
