use Rattle.std.proofs.Common.{◌≡◌, length}
use Rattle.ifr_nodes.specs.code.Checked.{AreNodesOf}
use Rattle.ifr_scopes.specs.code.Lists.{statement_node}
use Rattle.ifr_nodes.specs.Nodes.{options}
use Rattle.ifr_scopes.specs.code.OptionsLeft.{options_of_left}
use Rattle.guard_policy.specs.code.Effects.{AreEffectsBy}
use Rattle.guard_policy.specs.code.Views.{bytes_of, world}
use Rattle.form_page.specs.RowValues.{option_with}
use Rattle.form_page.proofs.option_texts.seen_option.Given as goal

-- the options that were met have another value or are hidden
abbrev pub invariant-loop-option : goal.invariant-loop-option
invariant-loop-option g l =
    let w = world l.page.policy l.page.stores.now in
    (option_with w (options_of_left l.options) l.value ≡ option_with w (options (statement_node l.statement)) l.value)
    × AreNodesOf (bytes_of l.page.policy) (options_of_left l.options)
    × AreEffectsBy l.page.policy (g.C.Conditions.holding l.page.conditions.now) l.last

abbrev pub decreases-loop-option : goal.decreases-loop-option
decreases-loop-option g l = length (options_of_left l.options)
