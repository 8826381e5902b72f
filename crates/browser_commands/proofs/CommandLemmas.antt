-- What commands come to, and how their writes are counted.
use Rattle.std.proofs.Common.{◌≡◌, ℕ, List, Result, Ok, Err, refl, sym, ap, subst, ◌∙◌}
use Rattle.hii_bytes.specs.Watching.{Pen, Writes}
use Rattle.hii_commands.specs.Meaning.{command_meant}
use Rattle.hii_commands.specs.declared.command.Command.{Command}
use Rattle.ifr_nodes.specs.Nodes.{nodes_of}
use Rattle.guard_policy.specs.declared.denial.Denial.{Denial}
use Rattle.session_steps.specs.Renewed.{Shown, Write, writes_of}
use Rattle.session_steps.specs.State.{State}
use Rattle.session_steps.specs.Step.{step}
use Rattle.session_steps.specs.declared.reply.Reply.{Reply}
use Rattle.browser_commands.specs.code.Counting.{counted_all}
use Rattle.browser_commands.specs.code.Standing.{answered}

pub answered_state : (s : State) (r : Result (Unit {0}) Denial) → (answered s r).state ≡ s
answered_state s (Ok done) = refl
answered_state s (Err denial) = refl

-- what is counted by one reply is counted by the same one
pub by_reply : (s : Shown) (writes : Reply → List Write) (now : ℕ) (a b : Reply) → now ≡ counted_all s.renewed (nodes_of s.state.ifr) (writes a) → a ≡ b → now ≡ counted_all s.renewed (nodes_of s.state.ifr) (writes b)
by_reply s writes now a b is same = is ∙ ap (λ (r : Reply). counted_all s.renewed (nodes_of s.state.ifr) (writes r)) same

-- ---- a command of the code, which is known, does what the command does that it means

pub meant_state : (s now : State) (command known : Command) → command ≡ known → now ≡ (step s (command_meant known)).state → now ≡ (step s (command_meant command)).state
meant_state s now command known e is = subst (λ (m : Command). now ≡ (step s (command_meant m)).state) (sym e) is

pub meant_text : {a b : Pen} (s : State) (command known : Command) → command ≡ known → Writes a b (step s (command_meant known)).text → Writes a b (step s (command_meant command)).text
meant_text {a} {b} s command known e wrote = subst (λ (m : Command). Writes a b (step s (command_meant m)).text) (sym e) wrote

pub meant_reply : (s : State) (reply : Reply) (command known : Command) → command ≡ known → reply ≡ (step s (command_meant known)).reply → reply ≡ (step s (command_meant command)).reply
meant_reply s reply command known e is = subst (λ (m : Command). reply ≡ (step s (command_meant m)).reply) (sym e) is

pub meant_count : (s : Shown) (now : ℕ) (command known : Command) → command ≡ known → now ≡ counted_all s.renewed (nodes_of s.state.ifr) (writes_of s.state (command_meant known))
    → now ≡ counted_all s.renewed (nodes_of s.state.ifr) (writes_of s.state (command_meant command))
meant_count s now command known e is = subst (λ (m : Command). now ≡ counted_all s.renewed (nodes_of s.state.ifr) (writes_of s.state (command_meant m))) (sym e) is
