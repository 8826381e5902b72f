use Rattle.std.proofs.Common.{◌≡◌, ℕ}
use Rattle.std.specs.Prelude.{◌||◌}
use Rattle.std.specs.List.{list_any}
use Rattle.hii_bytes.specs.code.NumberSets.{has_number}
use Rattle.ifr_nodes.specs.Nodes.{nodes_of}
use Rattle.ifr_scopes.specs.code.Lists.{all_statements_left}
use Rattle.question_audit.specs.Reach.{is_named, names_form}
use Rattle.question_audit.proofs.ways.named_forms.Given as goal

-- the ids that statements name that are left are left to be added
abbrev pub invariant-loop-statement : goal.invariant-loop-statement
invariant-loop-statement l = record {
  can : goal.iterator-loop-statement.can_next l.statement-iterator;
  ends : goal.iterator-loop-statement.is_finite l.statement-iterator;
  named : (id : ℕ) → has_number l.ids id || list_any (names_form id) (all_statements_left l.statement-iterator) ≡ is_named (nodes_of l.forms) id;
}
