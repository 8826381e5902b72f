use Rattle.std.proofs.Common.{length}
use Rattle.hii_questions.specs.code.Lists.{with_field_left}
use Rattle.hii_questions.specs.code.Ranges.{range_in}
use Rattle.browser_commands.proofs.BlockLemmas.{ChoiceLeft}
use Rattle.browser_commands.proofs.blocks.first_choice.Given as goal

-- the questions that were met are fixed, and the first of them is kept
abbrev pub invariant-loop-question : goal.invariant-loop-question
invariant-loop-question l = ChoiceLeft l.policy l.working.stores (range_in l.fn.field) l.first (with_field_left l.sharing)

abbrev pub decreases-loop-question : goal.decreases-loop-question
decreases-loop-question l = length (with_field_left l.sharing)
