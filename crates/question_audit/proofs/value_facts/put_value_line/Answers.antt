use Rattle.std.proofs.Common.{sym}
use Rattle.std.proofs.lemmas.Bool.{cond-false}
use Rattle.hii_bytes.proofs.WritingLemmas.{◌⨾◌}
use Rattle.condition_text.proofs.WriteLemmas.{written_as}
use Rattle.question_audit.proofs.ValueLemmas.{defined}
use Rattle.question_audit.proofs.value_facts.put_value_line.Goals as goal

pub returns : goal.returns
returns g c =
    written_as (c.put_column.ensures ⨾ c.put_value_text.ensures ⨾ c.put.ensures) (sym (cond-false _ _ _ (defined c.args.value c.in_default.not-Undefined)))
