use Rattle.std.proofs.Common.{◌≡◌, length}
use Rattle.std.specs.Prelude.{◌==◌}
use Rattle.std.specs.List.{find}
use Rattle.ifr_nodes.specs.Guards.{guards}
use Rattle.ifr_scopes.specs.code.Lists.{guards_left}
use Rattle.hii_questions.specs.code.Views.{question_node}
use Rattle.unlock_audit.proofs.words.guard_around.Given as goal

-- it is found among the guards that are left
abbrev pub invariant-loop-guard : goal.invariant-loop-guard
invariant-loop-guard l = find (λ g. g.place == l.place) (guards_left l.guards) ≡ find (λ g. g.place == l.place) (guards (question_node l.question))

abbrev pub decreases-loop-guard : goal.decreases-loop-guard
decreases-loop-guard l = length (guards_left l.guards)
