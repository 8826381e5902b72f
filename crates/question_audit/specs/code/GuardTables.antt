-- What is known of the guards of a form set.
use Rattle.std.specs.Prelude.{◌≡◌, map}
use Rattle.ifr_nodes.specs.Guards.{guards_among}
use Rattle.question_audit.specs.Audited.{Audited}
use Rattle.question_audit.specs.QuestionLines.{is_constant_guard, is_undefined_guard}
use Rattle.question_audit.specs.declared.guard_table.GuardTable.{GuardTable}

-- It is known of each, by place.
pub record TellsGuards (a : Audited) (table : GuardTable) : Type 0 where
  pub undefined : table.undefined.items ≡ map (is_undefined_guard a) (guards_among a.world.nodes)
  pub constant : table.constant.items ≡ map (is_constant_guard a.world.nodes) (guards_among a.world.nodes)
