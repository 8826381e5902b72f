use Rattle.std.proofs.Common.{◌≡◌, ◌<◌, ℕ, get_or, false}
use Rattle.exported_config.specs.Exported.{is_separator}
use Rattle.exported_config.proofs.reading.split_element.Given as goal

-- no byte so far is a separator
abbrev pub invariant-loop-place : goal.invariant-loop-place
invariant-loop-place l = (k : ℕ) (d : ℕ) → k < l.place → is_separator (get_or l.text k d) ≡ false
