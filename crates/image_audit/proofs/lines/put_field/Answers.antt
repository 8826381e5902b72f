use Rattle.std.proofs.Common.{◌∙◌, ap, option_map, sym}
use Rattle.hii_questions.specs.code.Ranges.{range_in}
use Rattle.image_audit.proofs.FieldLemmas.{whole_range}
use Rattle.image_audit.proofs.lines.put_field.Goals as goal

pub returns-in_default-field : goal.returns-in_default-field
returns-in_default-field g c =
    let field = c.in-Some.field in
    let lies = c.requires.lies (range_in field) (sym c.field.ensures.found ∙ ap (option_map range_in) c.in-Some.is) in
    absurd (whole_range c.args.stores.now field.store field.offset field.width lies (rw c.from-offset.ensures at c.in_default-field.ensures))
