use Rattle.std.proofs.Common.{Option, sym, ap}
use Rattle.std.specs.Prelude.{option_map}
use Rattle.hii_bytes.proofs.WritingLemmas.{◌⨾◌}
use Rattle.ifr_nodes.specs.Nodes.{nodes_of}
use Rattle.hii_questions.specs.code.Ranges.{range_in}
use Rattle.hii_questions.specs.declared.field_range.FieldRange.{FieldRange}
use Rattle.condition_text.proofs.WriteLemmas.{written_as}
use Rattle.question_objects.specs.Heads.{field_members}
use Rattle.question_objects.proofs.heads.put_field.Goals as goal

pub returns-in-Some : goal.returns-in-Some
returns-in-Some g c =
    written_as (rw c.from.ensures at (c.put_store.ensures ⨾ c.put_number.ensures ⨾ c.put_number-in-Some.ensures))
    (ap (λ (f : Option FieldRange). field_members (nodes_of c.args.names.now) (option_map range_in f)) (sym c.in-Some.is))
