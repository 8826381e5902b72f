-- The options that the elements of a list are.
use Rattle.std.specs.Prelude.{ℕ, Option, List, map}
use Rattle.ifr_opcodes.specs.Forest.{Node}
use Rattle.form_page.specs.RowValues.{choice}
use Rattle.guard_policy.specs.World.{World}

-- the text of the option of each
abbrev pub choices : (ℕ → List ℕ) → World → Node → List ℕ → List (Option (List ℕ))
choices texts w n items = map (choice texts w n) items
