-- What rows look up of a form set.
use Rattle.std.specs.Prelude.{◌≡◌, ℕ, List, IfSome}
use Rattle.std.specs.BTreeMap.{get}
use Rattle.std.specs.Ordering.{nat_cmp}
use Rattle.ifr_nodes.specs.Nodes.{nodes_of}
use Rattle.ifr_index.specs.code.LockIndex.{first_place}
use Rattle.question_rows.specs.code.Deciding.{TellsDecisions}
use Rattle.question_rows.specs.declared.known.Known.{Known}

-- It is that of this package.
pub record IsKnown (bytes : List ℕ) (known : Known) : Type 0 where
  pub names : known.names.now ≡ bytes
  pub locks : (scope : ℕ) → get nat_cmp known.locks.now scope ≡ first_place (nodes_of bytes) scope
  pub decisions : IfSome known.decisions (λ ds. TellsDecisions (nodes_of bytes) ds.now)
