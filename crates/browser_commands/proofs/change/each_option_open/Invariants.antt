use Rattle.std.proofs.Common.{◌≡◌, length}
use Rattle.hii_values.specs.code.ItemsLeft.{items_left}
use Rattle.hii_questions.specs.code.Views.{question_node}
use Rattle.guard_policy.specs.Policy.{first_closed}
use Rattle.guard_policy.specs.code.Views.{world}
use Rattle.browser_commands.proofs.change.each_option_open.Given as goal

-- the values that were met have open options
abbrev pub invariant-loop-value : goal.invariant-loop-value
invariant-loop-value l =
    let w = world l.policy l.working.stores in
    let q = question_node l.question in
    first_closed w q (items_left l.values) ≡ first_closed w q (items_left l.fn.values)

abbrev pub decreases-loop-value : goal.decreases-loop-value
decreases-loop-value l = length (items_left l.values)
