-- What stands around nodes, as it is handed on.
use Rattle.std.specs.Prelude.{◌≡◌, ℕ, List, Result, Ok, Err}
use Rattle.ifr_opcodes.specs.Forest.{Node}
use Rattle.ifr_nodes.specs.Guards.{guards}
use Rattle.ifr_nodes.specs.Locks.{first_lock}
use Rattle.ifr_nodes.specs.Nodes.{nodes_of}
use Rattle.ifr_scopes.specs.code.AroundViews.{around_guards, around_lock, around_package}
use Rattle.ifr_scopes.specs.declared.around.Around.{Around}
use Rattle.guard_policy.specs.declared.denial.Denial.{Denial}

-- This stands around a node of a package.
pub record IsAroundNode (bytes : List ℕ) (n : Node) (around : Around) : Type 0 where
  pub of_package : around_package around ≡ bytes
  pub guards : around_guards around ≡ guards n
  pub lock : around_lock around ≡ first_lock (nodes_of bytes) n

-- an answer without what it gives
abbrev pub answer_of : Result Around Denial → Result Unit Denial
answer_of (Ok around) = Ok tt
answer_of (Err denial) = Err denial
