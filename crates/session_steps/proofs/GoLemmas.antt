-- Commands that lead from form to form leave the package and the stores.
use Rattle.std.proofs.Common.{◌≡◌, ℕ, Bool, true, false, cond, Option, Some, None, ◌∷◌, [], ◌++◌, length, refl}
use Rattle.std.specs.Prelude.{option_and_then, nat_lt}
use Rattle.ifr_opcodes.specs.Fields.{ref_target}
use Rattle.ifr_opcodes.specs.Forest.{Node}
use Rattle.ifr_nodes.specs.Nodes.{nodes_of, is_reference}
use Rattle.ifr_nodes.specs.ReferenceFaults.{form_with}
use Rattle.hii_values.specs.declared.denial.DenialKind.TheVariants.{NotRef, DeepHistory}
use Rattle.guard_policy.specs.Policy.{denied_by, hidden, fixed}
use Rattle.guard_policy.specs.declared.denial.Denial.{Denial}
use Rattle.session_steps.specs.State.{State, world_of}
use Rattle.session_steps.specs.Step.{accepted, denied, denied_by_none, show_unless_hidden, go_to, go_unless_fixed, follow, go_back_to}
use Rattle.session_steps.specs.Texts.{ok_text}

-- The second state has the package and the stores of the first.
pub record LeavesStores (s t : State) : Type 0 where
  pub ifr : t.ifr ≡ s.ifr
  pub committed : t.committed ≡ s.committed
  pub working : t.working ≡ s.working

pub leaves_all : (s : State) → LeavesStores s s
leaves_all s = record { ifr = refl; committed = refl; working = refl }

room_leaves : (s : State) (form : Node) (room : Bool)
    → LeavesStores s (cond room (accepted (record s { form = form.place; history = s.history ++ s.form ∷ [] }) ok_text) (denied s (denied_by_none DeepHistory))).state
room_leaves s form true = record { ifr = refl; committed = refl; working = refl }
room_leaves s form false = leaves_all s

hidden_leaves : (s : State) (form : Node) (o : Option Denial) → LeavesStores s (show_unless_hidden s form o).state
hidden_leaves s form (Some d) = leaves_all s
hidden_leaves s form None = room_leaves s form (nat_lt (length s.history) 32)

target_leaves : (s : State) (q : Node) (o : Option Node) → LeavesStores s (go_to s q o).state
target_leaves s q None = leaves_all s
target_leaves s q (Some form) = hidden_leaves s form (hidden (world_of s) form)

fixed_leaves : (s : State) (q : Node) (o : Option Denial) → LeavesStores s (go_unless_fixed s q o).state
fixed_leaves s q (Some d) = leaves_all s
fixed_leaves s q None = target_leaves s q (option_and_then (form_with (nodes_of s.ifr)) (ref_target q.op))

reference_leaves : (s : State) (q : Node) (leads : Bool) → LeavesStores s (cond leads (go_unless_fixed s q (fixed (world_of s) q)) (denied s (denied_by NotRef q))).state
reference_leaves s q true = fixed_leaves s q (fixed (world_of s) q)
reference_leaves s q false = leaves_all s

pub follow_leaves : (s : State) (o : Option Node) → LeavesStores s (follow s o).state
follow_leaves s None = leaves_all s
follow_leaves s (Some q) = reference_leaves s q (is_reference q)

pub back_leaves : (s : State) (o : Option ℕ) → LeavesStores s (go_back_to s o).state
back_leaves s None = leaves_all s
back_leaves s (Some place) = record { ifr = refl; committed = refl; working = refl }
