use Rattle.std.proofs.Common.{[], ap, Option, option_map}
use Rattle.hii_questions.specs.code.Entries.{entry_range}
use Rattle.hii_questions.specs.code.Ranges.{range_in}
use Rattle.hii_questions.specs.declared.entry.FieldEntry.{FieldEntry}
use Rattle.hii_questions.proofs.differing.differs.Goals as goal

pub differs-requires-clause-range : goal.differs-requires-clause-range
differs-requires-clause-range c =
    rw c.from.ensures (c.requires.lies [] (range_in (entry_range c.in-Some.field)) (ap (λ (f : Option FieldEntry). option_map range_in (option_map entry_range f)) c.in-Some.is))
