use Rattle.std.proofs.Common.{ap, sym, ◌∙◌}
use Rattle.ifr_nodes.specs.Guards.{is_guard}
use Rattle.ifr_nodes.specs.Table.{guarded, row, class_of}
use Rattle.ifr_nodes.proofs.ClassLemmas.{class-guard, class-other}
use Rattle.ifr_index.proofs.level.Level.class_in.Goals as goal

pub returns-then-is_guard : goal.returns-then-is_guard
returns-then-is_guard c = λ path a same code.
    c.guarded.ensures ∙ ap guarded same ∙ sym (class-guard path a (ap is_guard code ∙ sym c.is_guard.ensures ∙ c.if-is_guard.true))

pub returns-else-is_guard : goal.returns-else-is_guard
returns-else-is_guard c = λ path a same code.
    c.class_of.ensures ∙ ap (λ k. class_of (row k)) (sym code) ∙ sym (class-other path a (ap is_guard code ∙ sym c.is_guard.ensures ∙ c.if-is_guard.false))
