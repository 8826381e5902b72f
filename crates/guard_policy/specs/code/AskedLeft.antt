-- What the iterators over the conditions of a decision have before them.
use Rattle.std.specs.Prelude.{ℕ, ◌==◌, Option, Some, None, List, [], ◌++◌, filter}
use Rattle.std.specs.List.{flat_map}
use Rattle.ifr_opcodes.specs.declared.codes.TheConstants.{SUPPRESS_IF, GRAY_OUT_IF}
use Rattle.ifr_opcodes.specs.Fields.{option_value}
use Rattle.ifr_opcodes.specs.Forest.{Node}
use Rattle.ifr_opcodes.specs.Opcode.{number}
use Rattle.ifr_scopes.specs.code.ConditionsLeft.{conditions_of_left}
use Rattle.ifr_scopes.specs.code.Lists.{guards_left}
use Rattle.ifr_scopes.specs.code.NoSubmitsLeft.{no_submits_left}
use Rattle.ifr_scopes.specs.code.OptionsLeft.{options_of_left}
use Rattle.ifr_scopes.specs.declared.guards_at.GuardsAt.{GuardsAt}
use Rattle.guard_policy.specs.laws.Support.{around, counts}
use Rattle.guard_policy.specs.declared.around.Around.{Around}
use Rattle.guard_policy.specs.declared.decision_conditions.DecisionConditions.{DecisionConditions}
use Rattle.guard_policy.specs.declared.decision_conditions.DecisionConditions.TheVariants as kind
use Rattle.guard_policy.specs.declared.option_conditions.OptionConditions.{OptionConditions}
use Rattle.guard_policy.specs.declared.submission.Submission.{Submission}

-- the guards of a number
abbrev pub numbered_left : ℕ → GuardsAt → List Node
numbered_left code it = filter (λ g. number g.op == code) (guards_left it)

abbrev pub graying_out_left : Option GuardsAt → List Node
graying_out_left None = []
graying_out_left (Some it) = numbered_left GRAY_OUT_IF it

abbrev pub around_left : Around → List Node
around_left it = numbered_left SUPPRESS_IF it.suppressing ++ graying_out_left it.graying_out

-- the conditions around the option at which it stands
abbrev pub around_one_left : Option Around → List Node
around_one_left None = []
around_one_left (Some it) = around_left it

-- the options behind it
abbrev pub options_of_value : OptionConditions → List Node
options_of_value it = filter (λ o. option_value o.op == it.value) (options_of_left it.options)

abbrev pub around_options_left : OptionConditions → List Node
around_options_left it = around_one_left it.around ++ flat_map around (options_of_value it)

-- the NO_SUBMIT_IFs that no removed DISABLE_IF hides
abbrev pub submission_left : Submission → List Node
submission_left it = filter (counts it.policy.removed.now) (no_submits_left it.conditions)

-- the conditions of a decision
abbrev pub asked_left : DecisionConditions → List Node
asked_left (kind.Around it) = around_left it
asked_left (kind.Options it) = around_options_left it
asked_left (kind.Question it) = conditions_of_left it
asked_left (kind.Submission it) = submission_left it
