use Rattle.std.proofs.Common.{◌∙◌, ap, option_map, sym}
use Rattle.hii_questions.specs.code.Ranges.{range_in}
use Rattle.image_audit.proofs.fields.differs.Goals as goal

pub differs-requires-clause-range : goal.differs-requires-clause-range
differs-requires-clause-range c =
    rw c.from.ensures (c.requires.lies (range_in c.in-Some.field) (sym c.field.ensures.found ∙ ap (option_map range_in) c.in-Some.is))
