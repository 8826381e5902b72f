use Rattle.std.proofs.Common.{subst}
use Rattle.hii_bytes.proofs.WritingLemmas.{writes_nil}
use Rattle.hii_bytes.specs.Watching.{Writes}
use Rattle.ifr_expr.specs.code.Views.{value_of}
use Rattle.ifr_scopes.specs.code.Lists.{statement_node}
use Rattle.question_audit.proofs.ScriptLemmas.{no_script}
use Rattle.question_audit.proofs.script_values.put_script_value.Goals as goal

pub returns-in_default : goal.returns-in_default
returns-in_default g c =
    let other = c.in_default in
    subst (Writes _ _)
    (no_script c.kind.result (statement_node c.args.statement) (value_of c.args.value) c.args.before.now c.kind.ensures.bytes other.not-Checkbox other.not-Numeric other.not-OneOf other.not-String other.not-OrderedList)
    (writes_nil _)
