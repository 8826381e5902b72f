use Rattle.std.proofs.Common.{Option, sym, ap}
use Rattle.std.specs.Prelude.{option_map}
use Rattle.hii_bytes.proofs.WritingLemmas.{◌⨾◌}
use Rattle.ifr_nodes.specs.Nodes.{nodes_of}
use Rattle.hii_questions.specs.code.Ranges.{range_in}
use Rattle.hii_questions.specs.declared.field_range.FieldRange.{FieldRange}
use Rattle.condition_text.proofs.WriteLemmas.{written_as}
use Rattle.question_rows.specs.Values.{field_part}
use Rattle.question_rows.proofs.values.put_field.Goals as goal

pub returns-clause-told : goal.returns-clause-told
returns-clause-told g c =
    written_as (rw (c.deref.ensures.value, c.in_ok-place.ensures) at (c.put.ensures ⨾ (c.put-2.ensures ⨾ c.put_html_line.ensures ⨾ c.put-3.ensures) ⨾ c.put-4.ensures))
    (ap (λ (f : Option FieldRange). field_part (nodes_of c.args.names.now) (option_map range_in f)) (sym c.in-Some.is))
