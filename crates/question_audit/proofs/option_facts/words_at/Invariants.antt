use Rattle.std.proofs.Common.{◌≡◌, length}
use Rattle.std.specs.Prelude.{◌==◌}
use Rattle.std.specs.List.{find}
use Rattle.ifr_opcodes.specs.Forest.{Node}
use Rattle.ifr_scopes.specs.code.Lists.{guards_left}
use Rattle.ifr_scopes.specs.code.Parts.{option_node}
use Rattle.question_audit.specs.OptionFacts.{guard_at}
use Rattle.question_audit.proofs.option_facts.words_at.Given as goal

-- it is found among the guards that are left
abbrev pub invariant-loop-guard : goal.invariant-loop-guard
invariant-loop-guard g l = find (λ (n : Node). n.place == l.place) (guards_left l.guards) ≡ guard_at l.place (option_node l.option)

abbrev pub decreases-loop-guard : goal.decreases-loop-guard
decreases-loop-guard g l = length (guards_left l.guards)
