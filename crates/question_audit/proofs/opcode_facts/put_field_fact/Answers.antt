use Rattle.std.proofs.Common.{Option, sym, ap}
use Rattle.std.specs.Prelude.{option_map}
use Rattle.hii_bytes.proofs.WritingLemmas.{◌⨾◌}
use Rattle.ifr_nodes.specs.Nodes.{nodes_of}
use Rattle.hii_questions.specs.code.Ranges.{range_in}
use Rattle.hii_questions.specs.declared.field_range.FieldRange.{FieldRange}
use Rattle.condition_text.proofs.WriteLemmas.{written_as}
use Rattle.question_audit.specs.QuestionFacts.{field_fact}
use Rattle.question_audit.proofs.opcode_facts.put_field_fact.Goals as goal

pub returns-in-Some : goal.returns-in-Some
returns-in-Some g c =
    written_as (rw c.from.ensures at (c.put_column.ensures ⨾ c.put_field_text.ensures.text ⨾ c.put.ensures ⨾ c.put_decimal.ensures ⨾ c.put_store_guid.ensures ⨾ c.put-in-Some.ensures))
    (ap (λ (f : Option FieldRange). field_fact (nodes_of c.args.names.now) (option_map range_in f)) (sym c.in-Some.is))
