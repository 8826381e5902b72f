-- The first child of a node, by a look at the next opcode.
use Rattle.std.proofs.Common.{◌≡◌, ℕ, Bool, cond, true, false, Some, None, List, [], ◌∷◌, ◌++◌, drop, refl, sym, ap, ◌∙◌}
use Rattle.std.specs.List.{concat}
use Rattle.ifr_opcodes.specs.Opcode.{number, has_scope, is_end, IsWhole}
use Rattle.ifr_opcodes.specs.Forest.{Forest, none, node}
use Rattle.ifr_opcodes.specs.Reading.{first_forest, opcodes_in, levels}
use Rattle.ifr_opcodes.specs.code.Marks.{inside}
use Rattle.ifr_nodes.specs.code.Walking.{IsWalking}
use Rattle.ifr_nodes.specs.Structure.{first_number}
use Rattle.ifr_opcodes.proofs.OpcodeLemmas.{AllWhole}
use Rattle.ifr_nodes.proofs.WalkLemmas.{stepped}

-- the first node at the front of some opcodes
first_level : (op : List ℕ) (ops : List (List ℕ)) → first_number (levels (op ∷ ops)).0 ≡ cond (is_end op) None (Some (number op))
unfolding levels
first_level op ops = go (is_end op) (has_scope op)
  where
    go : (b s : Bool) → first_number (cond {A = Forest × List Forest} b (none, (levels ops).0 ∷ (levels ops).1) (cond s (node op (levels ops).0 (first_forest (levels ops).1), drop 1 (levels ops).1) (node op none (levels ops).0, (levels ops).1))).0 ≡ cond b None (Some (number op))
    go true s = refl
    go false true = refl
    go false false = refl

pub first_inside : (bytes : List ℕ) (at : ℕ) (around parent op more : List ℕ) → IsWalking bytes at around → has_scope parent ≡ true → IsWhole op → drop at bytes ≡ op ++ more
    → first_number (inside parent (opcodes_in (drop at bytes))) ≡ cond (is_end op) None (Some (number op))
first_inside bytes at around parent op more k scope w e =
    let s = stepped bytes at around op more k w e in
    rw scope (ap (λ (ops : List (List ℕ)). first_number (levels ops).0) s.now ∙ first_level op s.others)

pub first_missing : (bytes : List ℕ) (at : ℕ) (around parent : List ℕ) → IsWalking bytes at around → ((op more : List ℕ) → IsWhole op → drop at bytes ≡ op ++ more → ⊥) → first_number (inside parent (opcodes_in (drop at bytes))) ≡ None
unfolding levels
first_missing bytes at around parent k missing = go (has_scope parent) (opcodes_in (drop at bytes)) k.whole k.joined
  where
    go : (b : Bool) (ops : List (List ℕ)) → AllWhole ops → concat ops ≡ drop at bytes → first_number (cond b (levels ops).0 none) ≡ None
    go b (op ∷ ops) u e = absurd (missing op (concat ops) u.0 (sym e))
    go true [] u e = refl
    go false [] u e = refl
