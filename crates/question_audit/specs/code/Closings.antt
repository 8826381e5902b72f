-- References on forms that are reached, to forms that are not.
use Rattle.std.specs.Prelude.{◌≡◌, ℕ, ◌==◌, Bool, false, if◌then◌else◌, Option, Some, None, option_and_then, List}
use Rattle.std.specs.List.{find}
use Rattle.std.specs.List.Sorted.{IsSortedByKey}
use Rattle.std.specs.Ordering.{nat_cmp}
use Rattle.hii_bytes.specs.code.NumberSets.{has_number}
use Rattle.ifr_opcodes.specs.Forest.{Node}
use Rattle.guard_policy.specs.Policy.{fixed}
use Rattle.guard_policy.specs.World.{World}
use Rattle.guard_policy.specs.declared.denial.Denial.{Denial}
use Rattle.question_audit.specs.Reach.{TellsReached, closing, is_named, named_form}
use Rattle.question_audit.specs.declared.ways.ClosedReference.{ClosedReference}
use Rattle.question_audit.specs.declared.ways.Ways.{Ways}

-- the reference to a form of this id, if it is not reached
abbrev pub closed_to : World → (ℕ → Bool) → Node → ℕ → Option ClosedReference
closed_to w is_reached n id =
    if is_reached id then None else Some (record { form = id; denial = fixed w n })

abbrev pub closed_reference : World → (ℕ → Bool) → Node → Option ClosedReference
closed_reference w is_reached n = option_and_then (closed_to w is_reached n) (named_form n)

-- what forbids to follow the first that names a form
abbrev pub first_closing : List ClosedReference → ℕ → Option Denial
first_closing references id =
    option_and_then (λ (r : ClosedReference). r.denial)
    (find (λ (r : ClosedReference). r.form == id) references)

-- What is kept tells how the forms of a form set are reached.
pub record TellsWays (w : World) (ways : Ways) : Type 0 where
  pub reached : TellsReached w (has_number ways.reached)
  pub named : (id : ℕ) → has_number ways.named id ≡ is_named w.nodes id
  pub sorted : IsSortedByKey (λ (r : ClosedReference). r.form) nat_cmp ways.closed.items
  pub first : (id : ℕ) → has_number ways.reached id ≡ false
      → first_closing ways.closed.items id ≡ closing w (has_number ways.reached) id
