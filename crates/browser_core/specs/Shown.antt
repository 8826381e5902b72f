-- What a session shows: its state, and how many conditions its last command evaluated anew (own rule).
use Rattle.std.specs.Prelude.{ℕ, List}
use Rattle.browser_rules.specs.Renewed.{renewed as renewed_by, renewed_line}
use Rattle.browser_rules.specs.Script.{Command}
use Rattle.browser_rules.specs.Session.{State, step, step_line}

pub record Shown : Type 0 where
  pub state : State
  pub renewed : ℕ

-- what it shows after a command, and after a line
abbrev pub shown_after : Shown → Command → Shown
shown_after shown command =
    record { state = (step shown.state command).state; renewed = renewed_by shown.state command }

abbrev pub shown_line : Shown → List ℕ → Shown
shown_line shown line = record {
  state = (step_line shown.state line).state;
  renewed = renewed_line shown.state shown.renewed line;
}
