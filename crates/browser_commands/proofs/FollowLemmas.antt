-- Questions that are asked why, references that are followed, and buttons that are pressed.
use Rattle.std.proofs.Common.{◌≡◌, ℕ, true, Option, Some, None, Result, Ok, Err, List, [], ◌∷◌, ◌++◌, ◌==◌, refl, sym, ap, subst, ◌∙◌}
use Rattle.std.specs.Prelude.{All, is_some, option_and_then}
use Rattle.std.proofs.lemmas.Bool.{cond-true}
use Rattle.std.proofs.lemmas.List.Elements.{All-push}
use Rattle.ifr_opcodes.specs.Fields.{ref_target}
use Rattle.ifr_opcodes.specs.Forest.{Node}
use Rattle.ifr_opcodes.specs.Opcode.{number}
use Rattle.ifr_opcodes.specs.Reading.{tree_of}
use Rattle.ifr_opcodes.specs.declared.codes.TheConstants.{RESET_BUTTON}
use Rattle.ifr_nodes.specs.Accepted.{IsAccepted}
use Rattle.ifr_nodes.specs.Nodes.{nodes_of, is_form, is_reference}
use Rattle.ifr_nodes.specs.ReferenceFaults.{has_form_id, form_with}
use Rattle.ifr_nodes.specs.code.Checked.{IsNodeOf, has_form, node_in, or_empty}
use Rattle.ifr_scopes.proofs.FormPlaceLemmas.{found}
use Rattle.ifr_nodes.proofs.PlaceLemmas.{is_found}
use Rattle.hii_values.specs.declared.denial.DenialKind.TheVariants.{NotRef, Outside}
use Rattle.guard_policy.specs.Policy.{denied_by, hidden, fixed}
use Rattle.guard_policy.specs.code.Answers.{unless}
use Rattle.guard_policy.specs.declared.denial.Denial.{Denial}
use Rattle.guard_policy.proofs.DenialLemmas.{none_of, some_of}
use Rattle.session_steps.specs.Renewed.{pressed_if}
use Rattle.session_steps.specs.State.{State, world_of}
use Rattle.session_steps.specs.Step.{denied, told_why, why_question, form_of, row_of_form, press, show_unless_hidden, go_to, go_unless_fixed, follow}
use Rattle.browser_commands.specs.code.Standing.{answered}
use Rattle.session_steps.specs.declared.reply.Reply.TheVariants.{Denied}

-- ---- why

told_answered : (s : State) (o : Option Denial) → told_why s o ≡ answered s (unless o)
told_answered s None = refl
told_answered s (Some denial) = refl

pub why_answered : (s : State) (q : Option Node) (n : Node) (r : Result (Unit {0}) Denial) → q ≡ Some n → r ≡ unless (fixed (world_of s) n) → why_question s q ≡ answered s r
why_answered s q n r named told = rw (named, told) (told_answered s (fixed (world_of s) n))

-- ---- forms

pub form_is_node : (ifr : List ℕ) (id : ℕ) (form : Node) → IsAccepted ifr → form_with (nodes_of ifr) id ≡ Some form → IsNodeOf ifr form
form_is_node ifr id form accepted is =
    is_found ifr (tree_of ifr) form accepted.checked.spelled (found (has_form_id id) (nodes_of ifr) form is).0

pub has_form_there : (ifr : List ℕ) (form : Node) → IsNodeOf ifr form → is_form form ≡ true → has_form ifr form.place ≡ true
unfolding node_in
has_form_there ifr form node is = rw (ap is_some node, ap or_empty node, is) refl

-- ---- references

led : (s : State) (q : Option Node) (n : Node) → q ≡ Some n → is_reference n ≡ true → follow s q ≡ go_unless_fixed s n (fixed (world_of s) n)
led s q n named leads = ap (follow s) named ∙ cond-true (is_reference n) (go_unless_fixed s n (fixed (world_of s) n)) (denied s (denied_by NotRef n)) leads

pub go_fixed : (s : State) (q : Option Node) (n : Node) (denial : Denial) → q ≡ Some n → is_reference n ≡ true → unless (fixed (world_of s) n) ≡ Err denial → follow s q ≡ denied s denial
go_fixed s q n denial named leads why = led s q n named leads ∙ ap (go_unless_fixed s n) (some_of (fixed (world_of s) n) denial why)

-- a reference that may be selected
free_reference : (s : State) (q : Option Node) (n : Node) (o : Option Node) → q ≡ Some n → is_reference n ≡ true → unless (fixed (world_of s) n) ≡ Ok tt
    → option_and_then (form_with (nodes_of s.ifr)) (ref_target n.op) ≡ o → follow s q ≡ go_to s n o
free_reference s q n o named leads free is = led s q n named leads ∙ ap (go_unless_fixed s n) (none_of (fixed (world_of s) n) free) ∙ ap (go_to s n) is

pub go_nowhere : (s : State) (q : Option Node) (n : Node) → q ≡ Some n → is_reference n ≡ true → unless (fixed (world_of s) n) ≡ Ok tt
    → option_and_then (form_with (nodes_of s.ifr)) (ref_target n.op) ≡ None → follow s q ≡ denied s (denied_by Outside n)
go_nowhere s q n named leads free none = free_reference s q n None named leads free none

pub go_hidden : (s : State) (q : Option Node) (n form : Node) (denial : Denial) → q ≡ Some n → is_reference n ≡ true → unless (fixed (world_of s) n) ≡ Ok tt
    → option_and_then (form_with (nodes_of s.ifr)) (ref_target n.op) ≡ Some form → unless (hidden (world_of s) form) ≡ Err denial → follow s q ≡ denied s denial
go_hidden s q n form denial named leads free is why =
    free_reference s q n (Some form) named leads free is ∙ ap (show_unless_hidden s form) (some_of (hidden (world_of s) form) denial why)

-- one form more in the history
pub all_and_one : (P : ℕ → Type 0) (xs ys : List ℕ) (x : ℕ) → All P xs → P x → ys ≡ xs ++ x ∷ [] → All P ys
all_and_one P xs ys x all h e = subst (All P) (sym e) (All-push P xs x all h)

-- ---- buttons

pub press_fixed : (s : State) (row : ℕ) (n : Node) (denial : Denial) → row_of_form s row (form_of s) ≡ Some n → (number n.op == RESET_BUTTON) ≡ true → unless (fixed (world_of s) n) ≡ Err denial
    → press s row ≡ denied s denial
press_fixed s row n denial found button why = let some = some_of (fixed (world_of s) n) denial why in rw (found, button, some) refl

-- where nothing is pressed, no question takes a default
pub presses_nothing : (s : State) (o : Option Node) (denial : Denial) → pressed_if s o (Denied denial) ≡ []
presses_nothing s None denial = refl
presses_nothing s (Some n) denial = refl
