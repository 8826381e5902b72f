use Rattle.std.proofs.Common.{◌≡◌}
use Rattle.std.specs.List.{find}
use Rattle.ifr_nodes.specs.Nodes.{options}
use Rattle.ifr_scopes.specs.code.Lists.{statement_node}
use Rattle.ifr_scopes.specs.code.Parts.{options_left}
use Rattle.ifr_defaults.specs.Defaults.{is_chosen_for}
use Rattle.ifr_defaults.proofs.flags.flagged_option.Given as goal

-- the first that is chosen for the class is among those that are left
abbrev pub invariant-loop-option : goal.invariant-loop-option
invariant-loop-option l = record {
  can : goal.iterator-loop-option.can_next l.option-iterator;
  ends : goal.iterator-loop-option.is_finite l.option-iterator;
  same : find (λ o. is_chosen_for l.class o.op) (options_left l.option-iterator) ≡ find (λ o. is_chosen_for l.class o.op) (options (statement_node l.statement));
}
