use Rattle.hii_bytes.proofs.WritingLemmas.{◌⨾◌}
use Rattle.question_audit.proofs.value_facts.put_value_text.Goals as goal

pub returns : goal.returns
returns g c = c.put_script_value.ensures ⨾ c.put_option_behind.ensures
