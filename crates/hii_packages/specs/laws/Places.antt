-- Where packages lie in their list.
use Rattle.std.specs.Prelude.{◌≡◌, ℕ, ◌+◌, List, length, slice_index, slice_range}
use Rattle.browser_rules.specs.Packages.{Package}

-- the package's bytes are those of the list at its place, and its Type is the fourth of them
abbrev pub LiesIn : List ℕ → Package → Type 0
LiesIn list p =
    (slice_range list p.place (p.place + length p.bytes) ≡ p.bytes)
    × (slice_index p.bytes 3 ≡ p.kind)
