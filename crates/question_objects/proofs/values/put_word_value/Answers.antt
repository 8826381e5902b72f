use Rattle.std.proofs.Common.{sym, ◌∙◌}
use Rattle.hii_bytes.specs.Watching.{pen_of}
use Rattle.hii_bytes.proofs.WritingLemmas.{◌⨾◌, writes_nil}
use Rattle.ifr_expr.specs.code.Views.{value_of}
use Rattle.ifr_scopes.specs.code.Lists.{statement_node}
use Rattle.condition_text.proofs.WriteLemmas.{written_as}
use Rattle.question_audit.specs.ScriptValues.{script_value}
use Rattle.question_objects.proofs.MemberLemmas.{told_word, untold_word}
use Rattle.question_objects.proofs.values.put_word_value.Goals as goal

pub returns-then-has_script : goal.returns-then-has_script
returns-then-has_script g c =
    written_as (c.put_member.ensures ⨾ (c.put_script_value.ensures ⨾ c.put.ensures)) (told_word c.args.key.now (script_value (statement_node c.args.statement) (value_of c.args.value)) (sym c.has_script.ensures ∙ c.if-has_script.true))

pub returns-else-has_script : goal.returns-else-has_script
returns-else-has_script g c = written_as (writes_nil (pen_of g.W.Write.contents c.args.out.now)) (untold_word c.args.key.now (script_value (statement_node c.args.statement) (value_of c.args.value)) (sym c.has_script.ensures ∙ c.if-has_script.false))
