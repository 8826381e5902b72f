use Rattle.std.proofs.Common.{◌≡◌, ◌+◌, ◌<◌, ◌^◌, length}
use Rattle.ifr_nodes.specs.code.Checked.{AreNodesOf}
use Rattle.ifr_scopes.specs.code.GivingLeft.{giving_left}
use Rattle.guard_policy.specs.code.Views.{bytes_of}
use Rattle.browser_commands.specs.code.Defaulting.{TakeDefaults}
use Rattle.browser_commands.proofs.sources.Sources.take_each.Given as goal

-- the statements that are left take their defaults over what those before them have left
abbrev pub invariant-loop-statement : goal.invariant-loop-statement
invariant-loop-statement l =
    record {
      can : goal.iterator-loop-statement.can_next l.left;
      ends : goal.iterator-loop-statement.is_finite l.left;
      nodes : AreNodesOf (bytes_of l.self.policy) (giving_left l.left);
      few : l.count + length (giving_left l.left) < 2 ^ 32;
      same : l.spare ≡ l.working.stores;
      take : TakeDefaults l.self l.class (giving_left l.statements) (giving_left l.left) l.fn.working l.working l.count;
    }
