-- Ranges of bytes inside of a store.
use Rattle.std.specs.Prelude.{ℕ, ◌+◌, ◌≤◌, IsSomeAnd, ◌≡◌, ⊤, ◌==◌, false, List, length, Option, Some, None}
use Rattle.hii_varstore.specs.Layout.{Shape, size_of}

-- the store of an id has this range of bytes
abbrev pub HasRange : Shape → ℕ → ℕ → ℕ → Type 0
HasRange shape id offset width = IsSomeAnd (size_of shape id) (λ size. offset + width ≤ size)

-- the bytes of a range are not there, or not all of them
abbrev pub IsCut : ℕ → Option (List ℕ) → Type 0
IsCut width None = ⊤
IsCut width (Some bytes) = (length bytes == width) ≡ false
