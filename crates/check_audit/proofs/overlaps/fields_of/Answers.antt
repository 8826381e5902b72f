use Rattle.std.proofs.Common.{List, ◌++◌, append-nil, ap, sym, ◌∙◌}
use Rattle.std.specs.List.{filter_map}
use Rattle.hii_questions.specs.Fields.{Asked}
use Rattle.check_audit.specs.Overlaps.{laid_of}
use Rattle.check_audit.proofs.overlaps.fields_of.Goals as goal

pub returns : goal.returns
returns c =
    let kept = c.loop-question.laid.items in
    sym (append-nil kept) ∙ ap (λ (l : List Asked). kept ++ filter_map laid_of l) (sym c.in_default.ensures.steps.0) ∙ c.loop-question.invariant
