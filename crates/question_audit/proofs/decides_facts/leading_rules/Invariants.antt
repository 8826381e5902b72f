use Rattle.std.proofs.Common.{length}
use Rattle.ifr_scopes.specs.code.Lists.{rules_left}
use Rattle.question_audit.specs.code.Places.{has_place}
use Rattle.question_audit.proofs.LeadingLemmas.{IsKnown}
use Rattle.question_audit.proofs.decides_facts.leading_rules.Given as goal

-- what the rules lead to that are left is to be found out
abbrev pub invariant-loop-rule : goal.invariant-loop-rule
invariant-loop-rule l = IsKnown l.forms l.id (has_place l.places) (rules_left l.rules)

abbrev pub decreases-loop-rule : goal.decreases-loop-rule
decreases-loop-rule l = length (rules_left l.rules)
