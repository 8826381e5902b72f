-- What the conditions of guards come to where no question answers.
use Rattle.std.specs.Prelude.{◌≡◌, if◌then◌else◌, List, [], ◌∷◌, filter, map}
use Rattle.ifr_opcodes.specs.Forest.{Node}
use Rattle.ifr_nodes.specs.Guards.{guards_among}
use Rattle.ifr_nodes.specs.code.Views.{nodes_left}
use Rattle.check_audit.specs.Constants.{holds_always, is_constant}
use Rattle.check_audit.specs.declared.constant_guards.ConstantGuards.{ConstantGuards}
use Rattle.check_audit.specs.declared.guard_states.GuardState.{GuardState}
use Rattle.check_audit.specs.declared.guard_states.GuardState.TheVariants.{Asks, Fails, Holds}

abbrev pub state_at : List Node → Node → GuardState
state_at ns g = if is_constant ns g then (if holds_always ns g then Holds else Fails) else Asks

abbrev pub states_of : List Node → List GuardState
states_of ns = map (state_at ns) (guards_among ns)

-- the first of some states, and those behind it
abbrev pub next_state : List GuardState → GuardState
next_state [] = Asks
next_state (s ∷ left) = s

abbrev pub states_behind : List GuardState → List GuardState
states_behind [] = []
states_behind (s ∷ left) = left

-- the guards that are left of a package, and those of them whose conditions name no question
abbrev pub guards_left : ConstantGuards → List Node
guards_left it = guards_among (nodes_left it.nodes)

abbrev pub constants_left : List Node → ConstantGuards → List Node
constants_left ns it = filter (is_constant ns) (guards_left it)

abbrev pub AreStatesOf : List Node → ConstantGuards → Type 0
AreStatesOf ns it = it.states.now ≡ map (state_at ns) (guards_left it)
