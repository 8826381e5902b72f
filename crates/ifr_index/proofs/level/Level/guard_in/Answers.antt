use Rattle.std.proofs.Common.{Some, ap, sym, ◌∙◌}
use Rattle.ifr_nodes.specs.Guards.{is_guard}
use Rattle.ifr_index.proofs.NumberLemmas.{inner_guard-push, inner_guard-other}
use Rattle.ifr_index.proofs.level.Level.guard_in.Goals as goal

pub returns-then-is_guard : goal.returns-then-is_guard
returns-then-is_guard c = λ ns path a same code so_many.
    ap (λ k. Some k) so_many ∙ sym (inner_guard-push ns path a (ap is_guard code ∙ sym c.is_guard.ensures ∙ c.if-is_guard.true))

pub returns-else-is_guard : goal.returns-else-is_guard
returns-else-is_guard c = λ ns path a same code so_many.
    same ∙ sym (inner_guard-other ns path a (ap is_guard code ∙ sym c.is_guard.ensures ∙ c.if-is_guard.false))
