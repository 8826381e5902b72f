-- What lines look up of a form set.
use Rattle.std.specs.Prelude.{◌≡◌, ℕ, List}
use Rattle.question_audit.specs.Audited.{Audited}
use Rattle.question_audit.specs.code.Closings.{TellsWays}
use Rattle.question_audit.specs.code.GuardTables.{TellsGuards}
use Rattle.question_audit.specs.declared.tables.Tables.{Tables}

-- It is that of this package.
pub record TellsTables (a : Audited) (bytes : List ℕ) (tables : Tables) : Type 0 where
  pub ways : TellsWays a.world tables.ways
  pub names : tables.names ≡ bytes
  pub guards : TellsGuards a tables.guards
