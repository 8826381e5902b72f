use Rattle.std.proofs.Common.{sym, ◌∙◌}
use Rattle.hii_bytes.specs.Watching.{pen_of}
use Rattle.hii_bytes.proofs.WritingLemmas.{◌⨾◌, writes_nil}
use Rattle.ifr_expr.specs.code.Views.{value_of}
use Rattle.ifr_scopes.specs.code.Lists.{statement_node}
use Rattle.condition_text.proofs.WriteLemmas.{written_as}
use Rattle.question_audit.specs.ScriptValues.{script_value}
use Rattle.question_audit.specs.code.Pages.{audited}
use Rattle.question_rows.proofs.DefaultLemmas.{no_script, other_words, same_words}
use Rattle.question_rows.proofs.defaults.put_taken.Goals as goal

pub returns-then-not-has_script-clause-told : goal.returns-then-not-has_script-clause-told
returns-then-not-has_script-clause-told g c =
    let n = statement_node c.args.statement in
    let v = value_of c.args.value in
    written_as (writes_nil (pen_of g.W.Write.contents c.args.out.now)) (no_script (audited c.args.page) n c.args.stored.now v (script_value n v) (sym c.has_script.ensures ∙ c.if-not-has_script.true))

pub returns-then-eq-clause-told : goal.returns-then-eq-clause-told
returns-then-eq-clause-told g c =
    let n = statement_node c.args.statement in
    let v = value_of c.args.value in
    written_as (writes_nil (pen_of g.W.Write.contents c.args.out.now))
    (same_words (audited c.args.page) n c.args.stored.now c.deref.result.now v (script_value n v) (sym c.has_script.ensures ∙ c.if-not-has_script.false) (c.deref.ensures.value ∙ c.in_ok-script.ensures) (sym c.eq.ensures ∙ c.if-eq.true))

pub returns-clause-told : goal.returns-clause-told
returns-clause-told g c =
    let n = statement_node c.args.statement in
    let v = value_of c.args.value in
    let script = c.deref-2.ensures.value ∙ sym c.deref.ensures.value in
    written_as (c.put.ensures ⨾ (c.put-2.ensures ⨾ (rw script at c.put_default_words.ensures)) ⨾ c.put-3.ensures)
    (other_words (audited c.args.page) n c.args.stored.now c.deref.result.now v (script_value n v) (sym c.has_script.ensures ∙ c.if-not-has_script.false) (c.deref.ensures.value ∙ c.in_ok-script.ensures) (sym c.eq.ensures ∙ c.if-eq.false))
