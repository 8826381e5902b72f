use Rattle.std.proofs.Common.{◌≡◌, ◌==◌}
use Rattle.std.specs.List.{find}
use Rattle.ifr_opcodes.specs.Fields.{default_id}
use Rattle.ifr_scopes.specs.code.Lists.{statement_node}
use Rattle.ifr_scopes.specs.code.Parts.{defaults_left}
use Rattle.ifr_defaults.specs.Defaults.{default_with}
use Rattle.ifr_defaults.proofs.defaults.default_with.Given as goal

-- the first of the class is among those that are left
abbrev pub invariant-loop-default : goal.invariant-loop-default
invariant-loop-default l = record {
  can : goal.iterator-loop-default.can_next l.default-iterator;
  ends : goal.iterator-loop-default.is_finite l.default-iterator;
  same : find (λ d. default_id d.op == l.class) (defaults_left l.default-iterator) ≡ default_with (statement_node l.statement) l.class;
}
