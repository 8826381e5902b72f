-- Decisions by what is kept of conditions.
use Rattle.std.proofs.Common.{◌≡◌, ℕ, Bool, Result, ap, ◌∙◌}
use Rattle.ifr_opcodes.specs.Forest.{Node}
use Rattle.guard_policy.specs.code.Answers.{unless}
use Rattle.guard_policy.specs.code.KeptConditions.{DecidesBy}
use Rattle.guard_policy.specs.laws.Support.{denial}
use Rattle.guard_policy.specs.code.Views.{world, world_by}
use Rattle.guard_policy.specs.declared.denial.Denial.{Denial}
use Rattle.guard_policy.specs.declared.policy.Policy.{Policy}
use Rattle.guard_policy.specs.declared.support.Decision.{Decision}
use Rattle.guard_policy.proofs.SupportLemmas.{denial_same}

pub decided : (policy : Policy) (holding : ℕ → Bool) (decision : Decision) (answer : Result Unit Denial)
    → answer ≡ unless (denial (world_by policy (λ (n : Node). holding n.place)) decision) → DecidesBy holding (world policy) decision answer
decided policy holding decision answer e = λ stores told. e ∙ ap unless (denial_same (world policy stores) (λ (n : Node). holding n.place) decision told)
