-- What objects look up of a form set.
use Rattle.std.specs.Prelude.{◌≡◌, ℕ, List}
use Rattle.std.specs.BTreeMap.{get}
use Rattle.std.specs.Ordering.{nat_cmp}
use Rattle.ifr_nodes.specs.Nodes.{nodes_of}
use Rattle.ifr_index.specs.code.LockIndex.{first_place}
use Rattle.question_audit.specs.Audited.{Audited}
use Rattle.question_audit.specs.code.GuardTables.{TellsGuards}
use Rattle.question_objects.specs.declared.objects.Known.{Known}

-- It is that of this package.
pub record IsKnown (a : Audited) (bytes : List ℕ) (known : Known) : Type 0 where
  pub names : known.names.now ≡ bytes
  pub guards : TellsGuards a known.guards.now
  pub locks : (scope : ℕ) → get nat_cmp known.locks.now scope ≡ first_place (nodes_of bytes) scope
