-- The opcode at a place, and what stands around it.
use Rattle.ifr_opcodes.specs.Forest.{Mark, Node, Forest, none, Ancestor}
use Rattle.std.specs.Prelude.{◌≡◌, ℕ, ◌+◌, if◌then◌else◌, List, length, take, drop}
use Rattle.hii_bytes.specs.declared.cause.Cause.{Cause}
use Rattle.hii_bytes.specs.declared.cause.Cause.TheVariants.{OpLength}
use Rattle.ifr_opcodes.specs.Opcode.{stated_length, has_scope, IsWhole}
use Rattle.ifr_opcodes.specs.Reading.{opcodes_in, levels}

abbrev pub mark : Node → Mark
mark n = record { place = n.place; op = n.op }

-- the children of a node with this opcode, if these follow
abbrev pub inside : List ℕ → List (List ℕ) → Forest
inside op ops = if has_scope op then (levels ops).0 else none

-- the bytes at a place, as many as the second one says
abbrev pub mark_at : List ℕ → ℕ → Mark
mark_at bytes place =
    record { place = place; op = take (stated_length (drop place bytes)) (drop place bytes) }

-- the node that stands at a place as what is around its children
abbrev pub ancestor_at : List ℕ → ℕ → Ancestor
ancestor_at bytes place = record {
  place = place;
  op = (mark_at bytes place).op;
  children = inside (mark_at bytes place).op
      (opcodes_in (drop (place + length (mark_at bytes place).op) bytes));
}

-- No whole opcode stands at a place.
abbrev pub IsOpFault : List ℕ → ℕ → Cause → ℕ → Type 0
IsOpFault bytes at OpLength place = (place ≡ at) × (IsWhole (mark_at bytes at).op → ⊥)
IsOpFault bytes at _ place = ⊥
