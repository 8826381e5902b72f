use Rattle.std.proofs.Common.{◌≡◌, length}
use Rattle.std.specs.Prelude.{filter}
use Rattle.ifr_nodes.specs.Nodes.{nodes_of}
use Rattle.ifr_scopes.specs.code.Lists.{guards_left}
use Rattle.ifr_scopes.specs.code.Parts.{option_node}
use Rattle.hii_values.specs.declared.denial.DenialKind.TheVariants.{Locked}
use Rattle.guard_policy.specs.code.Views.{bytes_of}
use Rattle.question_audit.specs.OptionFacts.{own_guards}
use Rattle.question_audit.proofs.OwnLemmas.{is_inside, locked_by}
use Rattle.question_audit.proofs.own_denials.own_lock.Given as goal

-- it is found in the guards that are left
abbrev pub invariant-loop-guard : goal.invariant-loop-guard
invariant-loop-guard g l =
    let ns = nodes_of (bytes_of l.fn.page.policy) in
    locked_by ns Locked (filter (is_inside l.place) (guards_left l.guards)) ≡ locked_by ns Locked (own_guards l.place (option_node l.option))

abbrev pub decreases-loop-guard : goal.decreases-loop-guard
decreases-loop-guard g l = length (guards_left l.guards)
