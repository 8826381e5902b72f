use Rattle.std.proofs.Common.{length}
use Rattle.ifr_nodes.specs.Nodes.{options}
use Rattle.ifr_nodes.specs.code.Checked.{AreNodesOf}
use Rattle.ifr_scopes.specs.code.Lists.{statement_node}
use Rattle.ifr_scopes.specs.code.OptionsLeft.{options_of_left}
use Rattle.guard_policy.specs.code.Effects.{AreEffectsBy}
use Rattle.guard_policy.specs.code.Views.{bytes_of}
use Rattle.form_page.specs.code.PageViews.{world_of}
use Rattle.form_page.specs.code.SeenTexts.{AreFound}
use Rattle.form_page.proofs.seen_texts.SeenTexts.of.Given as goal

-- the texts so far, and those of the options that are left, are those of all
abbrev pub invariant-loop-option : goal.invariant-loop-option
invariant-loop-option g l =
    AreFound (world_of l.page) (options (statement_node l.statement)) (options_of_left l.options) l.seen
    × AreNodesOf (bytes_of l.page.policy) (options_of_left l.options)
    × AreEffectsBy l.page.policy (g.C.Conditions.holding l.page.conditions.now) l.last

abbrev pub decreases-loop-option : goal.decreases-loop-option
decreases-loop-option g l = length (options_of_left l.options)
