use Rattle.std.proofs.Common.{◌∙◌, ap, rules, sym}
use Rattle.std.specs.Prelude.{filter}
use Rattle.hii_bytes.proofs.WritingLemmas.{◌⨾◌}
use Rattle.hii_questions.specs.Changes.{holds_others}
use Rattle.hii_questions.specs.code.Views.{question_view}
use Rattle.image_audit.proofs.TellingLemmas.{all_left, past_failing, past_passing}
use Rattle.script_audit.specs.Apply.{id_told}
use Rattle.script_audit.proofs.unsubmitted.put_ids.Goals as goal

pub loop-question-init : goal.loop-question-init
loop-question-init g c = record {
  can = search rules;
  ends = search rules;
  text = all_left id_told _ _ _ (ap (filter (holds_others c.args.one.now c.args.other.now)) c.all-left.ensures);
}

pub loop-question-preserved-then-differs : goal.loop-question-preserved-then-differs
loop-question-preserved-then-differs g c =
    let q = question_view c.in-Some.question in
    record {
      can = search rules;
      ends = search rules;
      text = past_passing id_told (holds_others c.args.one.now c.args.other.now) _ _ _ _ _ _ q c.in-Some.ensures.steps (sym c.differs.ensures ∙ c.if-differs.true) c.loop-question.invariant.text
          (rw (c.from.ensures, c.id.ensures) at (c.put.ensures ⨾ c.put_decimal.ensures));
    }

pub loop-question-preserved : goal.loop-question-preserved
loop-question-preserved g c =
    let q = question_view c.in-Some.question in
    record {
      can = search rules;
      ends = search rules;
      text = past_failing id_told (holds_others c.args.one.now c.args.other.now) _ _ _ _ _ q c.in-Some.ensures.steps (sym c.differs.ensures ∙ c.if-differs.false) c.loop-question.invariant.text;
    }
