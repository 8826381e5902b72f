use Rattle.std.proofs.Common.{◌≡◌, ◌++◌, ℕ, true, List, length}
use Rattle.std.specs.List.{AllByRecursion, flat_map}
use Rattle.ifr_expr.specs.code.NamesLeft.{names_left}
use Rattle.ifr_nodes.specs.Nodes.{end_of, nodes_of}
use Rattle.ifr_nodes.specs.Rules.{is_rule, rules_among}
use Rattle.ifr_scopes.specs.code.Frames.{ids_by}
use Rattle.kept_conditions.specs.code.Collection.{Adds, IsBefore, dependency_ids, dependent_node}
use Rattle.kept_conditions.proofs.collection.Collected.add_names.Given as goal

-- the questions behind the names so far, and behind those that are left
abbrev pub invariant-loop-name : goal.invariant-loop-name
invariant-loop-name l = record {
  behind : List ℕ;
  adds : Adds (nodes_of l.source.forms.now) l.number behind l.fn.self l.self;
  all : behind ++ flat_map (ids_by (rules_among (nodes_of l.source.forms.now)) l.dependent.this) (names_left l.names) ≡ dependency_ids (nodes_of l.source.forms.now) (dependent_node (nodes_of l.source.forms.now) l.number);
  before : is_rule (dependent_node (nodes_of l.source.forms.now) l.number) ≡ true → AllByRecursion (IsBefore (end_of (dependent_node (nodes_of l.source.forms.now) l.number))) (names_left l.names);
}

abbrev pub decreases-loop-name : goal.decreases-loop-name
decreases-loop-name l = length (names_left l.names)
