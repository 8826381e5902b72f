use Rattle.std.proofs.Common.{◌≡◌, ◌++◌, length, map}
use Rattle.std.specs.Prelude.{filter}
use Rattle.ifr_scopes.specs.code.Lists.{guard_node, guards_left}
use Rattle.ifr_scopes.specs.code.Parts.{option_node}
use Rattle.question_audit.specs.OptionFacts.{own_guards}
use Rattle.question_audit.proofs.OwnLemmas.{is_inside}
use Rattle.unlock_audit.proofs.asking.add_own.Given as goal

-- those among the guards that are left are left to be added
abbrev pub invariant-loop-guard : goal.invariant-loop-guard
invariant-loop-guard l = map guard_node l.conditions.items ++ filter (is_inside l.place) (guards_left l.guards) ≡ map guard_node l.fn.conditions.items ++ own_guards l.place (option_node l.option)

abbrev pub decreases-loop-guard : goal.decreases-loop-guard
decreases-loop-guard l = length (guards_left l.guards)
