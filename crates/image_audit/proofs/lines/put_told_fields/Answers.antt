use Rattle.std.proofs.Common.{◌∙◌, List, ap, rules, subst, sym}
use Rattle.std.specs.Prelude.{filter}
use Rattle.std.specs.Option.{option_copied}
use Rattle.hii_bytes.specs.Watching.{Writes, pen_of}
use Rattle.ifr_nodes.specs.Nodes.{nodes_of}
use Rattle.hii_varstore.specs.Stores.{shape_of}
use Rattle.hii_values.specs.Types.{is_password}
use Rattle.hii_questions.specs.Fields.{Asked}
use Rattle.hii_questions.specs.code.LyingIn.{LieIn}
use Rattle.hii_questions.specs.code.Views.{question_view}
use Rattle.image_audit.specs.Lines.{differs_from, question_told, is_told}
use Rattle.image_audit.proofs.PieceLemmas.{told_is_none}
use Rattle.image_audit.proofs.TellingLemmas.{all_left, past_failing, past_passing}
use Rattle.image_audit.proofs.lines.put_told_fields.Goals as goal

pub loop-question-init : goal.loop-question-init
loop-question-init g c =
    let ns = nodes_of c.args.questions.now.ifr in
    let told = is_told c.args.stores.now (option_copied c.args.others) in
    record {
      can = search rules;
      ends = search rules;
      lie = subst (LieIn (shape_of c.args.stores.now)) (sym c.all-left.ensures) c.requires.lie;
      text = all_left (question_told c.args.telling ns c.args.stores.now) _ _ _ (ap (filter told) c.all-left.ensures);
    }

pub is_told-requires-clause-lies : goal.is_told-requires-clause-lies
is_told-requires-clause-lies g c = (subst (LieIn (shape_of c.args.stores.now)) c.in-Some.ensures.steps c.loop-question.invariant.lie).0

pub put_field-requires-clause-lies : goal.put_field-requires-clause-lies
put_field-requires-clause-lies g c = (subst (LieIn (shape_of c.args.stores.now)) c.in-Some.ensures.steps c.loop-question.invariant.lie).0

pub put_field-requires-clause-narrow : goal.put_field-requires-clause-narrow
put_field-requires-clause-narrow g c =
    let q = question_view c.in-Some.question in
    told_is_none (is_password q.node) (differs_from c.args.stores.now (option_copied c.args.others) q) (sym c.is_told.ensures ∙ c.if-is_told.true)

pub loop-question-preserved-then-is_told : goal.loop-question-preserved-then-is_told
loop-question-preserved-then-is_told g c =
    let stores = c.args.stores.now in
    let line = question_told c.args.telling (nodes_of c.args.questions.now.ifr) stores in
    let q = question_view c.in-Some.question in
    let written = subst (λ (ifr : List _). Writes (pen_of g.W.Write.contents c.loop-question.out) (pen_of g.W.Write.contents c.put_field.new.out) (question_told c.args.telling (nodes_of ifr) stores q)) c.requires.names c.put_field.ensures in
    record {
      can = search rules;
      ends = search rules;
      lie = (subst (LieIn (shape_of stores)) c.in-Some.ensures.steps c.loop-question.invariant.lie).1;
      text = past_passing line (is_told stores (option_copied c.args.others)) _ _ _ _ _ _ q c.in-Some.ensures.steps (sym c.is_told.ensures ∙ c.if-is_told.true) c.loop-question.invariant.text written;
    }

pub loop-question-preserved : goal.loop-question-preserved
loop-question-preserved g c =
    let stores = c.args.stores.now in
    let line = question_told c.args.telling (nodes_of c.args.questions.now.ifr) stores in
    let q = question_view c.in-Some.question in
    record {
      can = search rules;
      ends = search rules;
      lie = (subst (LieIn (shape_of stores)) c.in-Some.ensures.steps c.loop-question.invariant.lie).1;
      text = past_failing line (is_told stores (option_copied c.args.others)) _ _ _ _ _ q c.in-Some.ensures.steps (sym c.is_told.ensures ∙ c.if-is_told.false) c.loop-question.invariant.text;
    }
