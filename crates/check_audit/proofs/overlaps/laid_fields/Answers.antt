use Rattle.std.proofs.Common.{List, subst, rules}
use Rattle.std.specs.List.Sorted.{IsStableByKey}
use Rattle.std.specs.Ordering.{nat_cmp}
use Rattle.std.proofs.lemmas.List.Sorted.{answers_always}
use Rattle.check_audit.specs.Overlaps.{laid_order}
use Rattle.check_audit.specs.declared.overlaps.Laid.{Laid}
use Rattle.check_audit.proofs.overlaps.laid_fields.Goals as goal

pub returns : goal.returns
returns c = (
  c.in_ok-sort_by_key.ensures.sorted laid_order (answers_always _ _ _ (λ e a r g called. search rules)),
  subst (λ (l : List Laid). IsStableByKey laid_order nat_cmp l c.sort_by_key.new.self.items) c.in_ok-laid.ensures (c.in_ok-sort_by_key.ensures.stable laid_order (answers_always _ _ _ (λ e a r g called. search rules))),
)
