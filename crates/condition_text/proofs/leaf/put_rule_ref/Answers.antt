use Rattle.std.proofs.Common.{◌∙◌}
use Rattle.hii_bytes.proofs.WritingLemmas.{◌⨾◌}
use Rattle.condition_text.proofs.WriteLemmas.{written_as, rule_ref_text}
use Rattle.condition_text.proofs.leaf.put_rule_ref.Goals as goal

pub returns : goal.returns
returns g c = written_as (c.put.ensures ⨾ c.put_decimal.ensures ⨾ c.put-2.ensures) (rule_ref_text c.args.op c.from.result (c.from.ensures ∙ c.rule.ensures))
