-- What the iterators over the questions on which decisions and conditions depend have before them.
use Rattle.std.specs.Prelude.{ℕ, Option, Some, None, List, [], ◌++◌}
use Rattle.ifr_scopes.specs.code.DependenceLeft.{dependence_left}
use Rattle.ifr_nodes.specs.Nodes.{nodes_of}
use Rattle.ifr_scopes.specs.declared.dependence.Dependence.{Dependence}
use Rattle.guard_policy.specs.code.AskedLeft.{asked_left}
use Rattle.guard_policy.specs.laws.Support.{support_over}
use Rattle.guard_policy.specs.declared.support_of.SupportAt.{SupportAt}
use Rattle.guard_policy.specs.declared.support_of.SupportOf.{SupportOf}

-- the ids of the condition at which it stands
abbrev pub ids_left : Option Dependence → List ℕ
ids_left None = []
ids_left (Some it) = dependence_left it

-- the ids of that condition, and of the conditions behind it
abbrev pub support_left : SupportOf → List ℕ
support_left it = ids_left it.ids ++ support_over (nodes_of it.forms.now) (asked_left it.conditions)

-- the ids of one condition
abbrev pub support_at_left : SupportAt → List ℕ
support_at_left it = ids_left it.ids
