-- What an opcode in the code carries: its bytes are those of a whole opcode.
use Rattle.std.specs.Prelude.{ℕ, ◌+◌, Bool, if◌then◌else◌, List, ◌∷◌, length}
use Rattle.std.proofs.Props.{props}
use Rattle.ifr_opcodes.specs.Opcode.{IsWhole}

pub IsWhole-prop : (op : List ℕ) → IsProp (IsWhole op)
IsWhole-prop op = hlevel props

-- the bytes of an opcode of this number, that opens a scope or not, with these bytes behind its header
abbrev pub spelled : ℕ → Bool → List ℕ → List ℕ
spelled code scope body = code ∷ ((if scope then 128 else 0) + (2 + length body)) ∷ body
