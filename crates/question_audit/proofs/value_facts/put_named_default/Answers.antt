use Rattle.std.proofs.Common.{sym, ◌∙◌}
use Rattle.hii_bytes.specs.Watching.{pen_of}
use Rattle.hii_bytes.proofs.WritingLemmas.{◌⨾◌, writes_nil}
use Rattle.ifr_expr.specs.code.Views.{value_of}
use Rattle.ifr_scopes.specs.code.Lists.{statement_node}
use Rattle.condition_text.proofs.WriteLemmas.{written_as}
use Rattle.question_audit.specs.ScriptValues.{script_value}
use Rattle.question_audit.specs.code.Pages.{audited}
use Rattle.question_audit.specs.QuestionFacts.{option_behind}
use Rattle.question_audit.proofs.ValueLemmas.{told, not_told}
use Rattle.question_audit.proofs.value_facts.put_named_default.Goals as goal

pub returns-then-not-has_script : goal.returns-then-not-has_script
returns-then-not-has_script g c =
    let n = statement_node c.args.statement in
    let v = value_of c.args.value in
    written_as (writes_nil (pen_of g.W.Write.contents c.args.out.now)) (not_told c.args.name.now (option_behind (audited c.args.page) n v) (script_value n v) (sym c.has_script.ensures ∙ c.if-not-has_script.true))

pub returns : goal.returns
returns g c =
    let n = statement_node c.args.statement in
    let v = value_of c.args.value in
    written_as (c.put_column.ensures ⨾ c.put_value_text.ensures ⨾ c.put.ensures ⨾ c.put-2.ensures ⨾ c.put-3.ensures)
    (told c.args.name.now (option_behind (audited c.args.page) n v) (script_value n v) (sym c.has_script.ensures ∙ c.if-not-has_script.false))
