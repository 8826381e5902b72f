use Rattle.std.proofs.Common.{◌≡◌, ◌++◌, map}
use Rattle.ifr_opcodes.specs.Forest.{Node}
use Rattle.ifr_nodes.specs.Nodes.{options}
use Rattle.ifr_scopes.specs.code.Lists.{statement_node}
use Rattle.ifr_scopes.specs.code.OptionsLeft.{options_of_left}
use Rattle.hii_values.proofs.option_table.add_places.Given as goal

-- the places so far, and those of the options that are left, are all
abbrev pub invariant-loop-option : goal.invariant-loop-option
invariant-loop-option l = record {
  can : goal.iterator-loop-option.can_next l.option-iterator;
  ends : goal.iterator-loop-option.is_finite l.option-iterator;
  all : l.places.items ++ map (λ (o : Node). o.place) (options_of_left l.option-iterator) ≡ l.fn.places.items ++ map (λ (o : Node). o.place) (options (statement_node l.question));
}
