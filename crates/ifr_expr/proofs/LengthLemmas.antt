-- How many opcodes an expression has, and how many values it needs at once, by its bytes.
use Rattle.std.proofs.Common.{ℕ, ◌+◌, ◌*◌, ◌≤◌, ◌<◌, List, [], ◌∷◌, ◌++◌, length, ap, arith, length-append, inl, inr}
use Rattle.std.specs.List.{AllByRecursion, concat}
use Rattle.std.proofs.lemmas.Bool.{cases_Bool}
use Rattle.ifr_opcodes.specs.Opcode.{is_end, IsWhole}
use Rattle.ifr_opcodes.specs.Forest.{Mark}
use Rattle.ifr_opcodes.specs.Reading.{opcodes_in}
use Rattle.ifr_expr.specs.code.Bytes.{AreOpcodes, to_end}
use Rattle.ifr_expr.specs.code.Checked.{IsChecked, marks, tree}
use Rattle.ifr_expr.specs.Trees.{Tree, leaf, one, two, post, need}
use Rattle.ifr_expr.proofs.TreeLemmas.{some_need}

wide : (at : ℕ) (ops : List (List ℕ)) → AllByRecursion IsWhole ops → 2 * length (to_end at ops) ≤ length (concat ops)
unfolding to_end
wide at [] h = omega arith
wide at (op ∷ ops) h = elim (cases_Bool (is_end op)) [
  | inl e ↦ rw e (omega arith)
  | inr e ↦ rw e (omega (arith, h.0.long, wide (at + length op) ops h.1, length-append op (concat ops)))
]

-- an opcode has two bytes or more
pub few_marks : (at : ℕ) (bytes : List ℕ) → AreOpcodes bytes → 2 * length (marks at bytes) ≤ length bytes
few_marks at bytes a = omega (arith, wide at (opcodes_in bytes) a.whole, ap (λ (l : List ℕ). length l) a.joined)

-- each value but the first that a tree needs at once has an opcode of its own and one that takes it
many_opcodes : (t : Tree) → 2 * need t ≤ length (post t) + 1
many_opcodes (leaf op) = omega arith
many_opcodes (one op operand) = omega (arith, many_opcodes operand, length-append (post operand) (op ∷ []))
many_opcodes (two op left right) =
    omega (arith, many_opcodes left, many_opcodes right, some_need left, length-append (post left) (post right ++ op ∷ []), length-append (post right) (op ∷ []))

pub some_opcode : (t : Tree) → 0 < length (post t)
some_opcode t = omega (arith, many_opcodes t, some_need t)

-- an expression of few bytes needs few values at once
pub few_values : (at : ℕ) (bytes : List ℕ) → IsChecked at bytes → 4 * need (tree at bytes) ≤ length bytes + 2
few_values at bytes c =
    omega (arith, few_marks at bytes c.opcodes, many_opcodes (tree at bytes), ap (λ (l : List Mark). length l) c.means.spelled)
