use Rattle.std.proofs.Common.{◌∙◌, ap, option_map, subst, sym}
use Rattle.hii_varstore.specs.Layout.{Shape}
use Rattle.hii_varstore.specs.code.Ranges.{HasRange}
use Rattle.hii_questions.specs.code.Ranges.{range_in}
use Rattle.image_audit.proofs.fields.give_field.Goals as goal

pub copy_range-requires-clause-range : goal.copy_range-requires-clause-range
copy_range-requires-clause-range c =
    let field = c.in-Some.field in
    let lies = c.requires.lies (range_in field) (sym c.field.ensures.found ∙ ap (option_map range_in) c.in-Some.is) in
    rw c.from.ensures (subst (λ (shape : Shape). HasRange shape field.store field.offset field.width) (sym c.requires.same) lies)
