-- What is kept of a forms package that was read (own rule).
use Rattle.std.specs.Prelude.{ℕ, List}
use Rattle.ifr_nodes.specs.Accepted.{IsAccepted}
use Rattle.ifr_nodes.specs.code.KeptRules.{AreKeptRules}
use Rattle.ifr_index.specs.code.Tables.{IsIndexOf}
use Rattle.ifr_nodes.specs.Nodes.{nodes_of}
use Rattle.ifr_index.specs.declared.index.Index.{Index}
use Rattle.ifr_nodes.specs.declared.rules.RuleTable.{RuleTable}

-- The package is accepted, and these are its rules and its index.
pub record IsReadAs (bytes : List ℕ) (table : RuleTable) (tables : Index) : Type 0 where
  pub accepted : IsAccepted bytes
  pub rules : AreKeptRules (nodes_of bytes) table
  pub index : IsIndexOf (nodes_of bytes) tables
