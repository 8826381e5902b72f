use Rattle.std.proofs.Common.{◌≡◌, ℕ, [], length}
use Rattle.std.specs.Prelude.{◌||◌}
use Rattle.std.specs.List.{flat_map}
use Rattle.ifr_opcodes.specs.Rows.{is_among}
use Rattle.ifr_expr.specs.code.Expressions.{tree_of}
use Rattle.ifr_expr.specs.code.NamesLeft.{names_left}
use Rattle.ifr_scopes.specs.code.Frames.{ids_by}
use Rattle.question_audit.specs.code.Ids.{AreIds, has_id}
use Rattle.question_audit.specs.code.NamedRules.{own_ids}
use Rattle.question_audit.proofs.depends_facts.add_own.Given as goal

-- each id is added or left to be added
abbrev pub invariant-loop-name : goal.invariant-loop-name
invariant-loop-name l = record {
  named : (id : ℕ) → (has_id l.ids id || is_among id (flat_map (ids_by [] l.this) (names_left l.names))) ≡ (has_id l.fn.ids id || is_among id (own_ids l.this (tree_of l.expression)));
  are : AreIds l.fn.ids → AreIds l.ids;
}

abbrev pub decreases-loop-name : goal.decreases-loop-name
decreases-loop-name l = length (names_left l.names)
