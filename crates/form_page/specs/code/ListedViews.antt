-- What the statements of a page have before them.
use Rattle.std.specs.Prelude.{is_none, List, filter}
use Rattle.ifr_opcodes.specs.Forest.{Node}
use Rattle.ifr_scopes.specs.code.StatementsLeft.{statements_of_left}
use Rattle.guard_policy.specs.Policy.{hidden}
use Rattle.guard_policy.specs.declared.conditions.Conditions.{Ghosts}
use Rattle.form_page.specs.code.PageViews.{world_of}
use Rattle.form_page.specs.declared.listed.Listed.{Listed}

-- the statements that are left, hidden or not
abbrev pub all_left : {C : Type 0} {g : Ghosts C} → Listed C g → List Node
all_left it = statements_of_left it.statements

-- the statements that are left and not hidden
abbrev pub listed_left : {C : Type 0} {g : Ghosts C} → Listed C g → List Node
listed_left it =
    filter (λ n. is_none (hidden (world_of it.page) n)) (statements_of_left it.statements)
