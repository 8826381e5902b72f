use Rattle.std.proofs.Common.{◌≡◌, ◌+◌, ℕ, List, length, Option, Some, None, option_map}
use Rattle.std.specs.List.{slice_split}
use Rattle.exported_config.specs.Exported.{is_separator, nothing_read, read_all}
use Rattle.exported_config.specs.code.Views.{elements_behind, reading_view}
use Rattle.exported_config.proofs.reading.responses_in.Given as goal

-- what is left, read behind what was read, is the whole text
abbrev pub invariant-loop-left : goal.invariant-loop-left
invariant-loop-left l =
    read_all (reading_view l.reading) (elements_behind (option_map (λ rest. rest.now) l.left))
    ≡ read_all nothing_read (slice_split is_separator l.fn.text)

-- how many bytes are left, and one for a text that may be empty
abbrev pub size_of : Option (List ℕ) → ℕ
size_of None = 0
size_of (Some rest) = length rest + 1

abbrev pub decreases-loop-left : goal.decreases-loop-left
decreases-loop-left l = size_of (option_map (λ rest. rest.now) l.left)
