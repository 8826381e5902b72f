-- Which guards of a package depend on the answer to a question.
use Rattle.std.specs.Prelude.{ℕ, Bool, ◌&&◌, List, map}
use Rattle.ifr_opcodes.specs.Forest.{Node}
use Rattle.ifr_opcodes.specs.Rows.{is_among}
use Rattle.ifr_nodes.specs.Guards.{guards_among}
use Rattle.guard_policy.specs.Conditions.{condition_ids}
use Rattle.question_audit.specs.Times.{counts_when}
use Rattle.question_audit.specs.declared.when.When.{When}

-- whether the condition of a guard depends on the answer to the question of an id
abbrev pub names : List Node → ℕ → Node → Bool
names ns id g = is_among id (condition_ids ns g)

-- this of each guard, by place
abbrev pub naming : List Node → ℕ → List Bool
naming ns id = map (names ns id) (guards_among ns)

-- whether such a condition of a guard decides then
abbrev pub counts : When → List Node → ℕ → Node → Bool
counts when ns id g = counts_when when g && names ns id g
