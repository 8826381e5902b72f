use Rattle.std.proofs.Common.{ℕ, ap, subst, sym, ◌∙◌}
use Rattle.hii_varstore.specs.Stores.{shape_of}
use Rattle.hii_varstore.specs.code.Ranges.{HasRange}
use Rattle.question_audit.proofs.TakingLemmas.{range_there, same_shape}
use Rattle.question_audit.proofs.defaults.give_back.Goals as goal

pub copy_range-requires-clause-same : goal.copy_range-requires-clause-same
copy_range-requires-clause-same g c = same_shape c.args.page.stores.now c.args.spare.now c.args.field c.requires ∙ ap shape_of (sym c.stores.ensures)

pub copy_range-requires-clause-range : goal.copy_range-requires-clause-range
copy_range-requires-clause-range g c =
    let stores = c.args.spare.now in
    let field = c.args.field in
    subst (λ (offset : ℕ). HasRange (shape_of stores) field.store offset field.width) (sym c.from.ensures) (range_there c.args.page.stores.now stores field c.requires)
