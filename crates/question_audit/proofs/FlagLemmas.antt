-- What is kept of guards is found by how many stand before each.
use Rattle.std.proofs.Common.{◌≡◌, ℕ, zero, suc, ◌<◌, Bool, true, false, List, [], ◌∷◌, ◌++◌, length, map, get_or, sym, ap, subst, ◌∙◌, arith, length-append}
use Rattle.std.specs.Prelude.{Contains, filter}
use Rattle.std.proofs.Math.Seq.{get_or-append_seam}
use Rattle.std.proofs.lemmas.Bool.{and_parts, cond-true}
use Rattle.std.proofs.lemmas.List.{get_or-map}
use Rattle.std.proofs.lemmas.List.Elements.{filter-append}
use Rattle.hii_bytes.specs.code.FirstFaults.{Rise}
use Rattle.ifr_opcodes.specs.Forest.{Node, SpellsForest, node_at}
use Rattle.ifr_opcodes.specs.Opcode.{number}
use Rattle.ifr_opcodes.specs.Reading.{tree_of}
use Rattle.ifr_nodes.specs.Checked.{IsChecked}
use Rattle.ifr_nodes.specs.Guards.{guards_among, is_guard}
use Rattle.ifr_nodes.specs.Nodes.{nodes_of}
use Rattle.ifr_nodes.specs.code.Checked.{has_guard, node_in, or_empty}
use Rattle.ifr_index.specs.code.Tables.{guards_before}
use Rattle.ifr_index.proofs.IndexLemmas.{nodes_rise}
use Rattle.ifr_index.proofs.NumberLemmas.{so_many_before}
use Rattle.ifr_nodes.proofs.ConditionLemmas.{place_below}
use Rattle.ifr_nodes.proofs.ViewLemmas.{contains_found, some_there}

abbrev guarding : Node → Bool
guarding n = is_guard (number n.op)

abbrev place_of : Node → ℕ
place_of n = n.place

record IsSplit (ns : List Node) (n : Node) : Type 0 where
  pub before : List Node
  pub rest : List Node
  pub parts : ns ≡ before ++ n ∷ rest

split : (ns : List Node) (n : Node) → Contains ns n → IsSplit ns n
split [] n (k, lt, e) = absurd (omega arith)
split (m ∷ ns) n (zero, lt, e) = record { before = []; rest = ns; parts = ap (λ (x : Node). x ∷ ns) e }
split (m ∷ ns) n (suc k, lt, e) =
    let later = split ns n (k, omega arith, e) in
    record { before = m ∷ later.before; rest = later.rest; parts = ap (λ (l : List Node). m ∷ l) later.parts }

-- The flag of a guard lies where so many guards stand before it.
pub record IsFlagged (f : Node → Bool) (ns : List Node) (n : Node) : Type 0 where
  pub within : guards_before ns n.place < length (guards_among ns)
  pub is : get_or (map f (guards_among ns)) (guards_before ns n.place) false ≡ f n

flagged : (f : Node → Bool) (bytes : List ℕ) (n : Node) → SpellsForest bytes (tree_of bytes) → Contains (nodes_of bytes) n → guarding n ≡ true → IsFlagged f (nodes_of bytes) n
flagged f bytes n spelled within is =
    let ns = nodes_of bytes in
    let s = split ns n within in
    let front = filter guarding s.before in
    let rises = subst (Rise place_of 4) s.parts (nodes_rise bytes spelled) in
    let count : guards_before ns n.place ≡ length front = ap (λ (l : List Node). guards_before l n.place) s.parts ∙ so_many_before guarding 4 s.before s.rest n rises in
    let all : guards_among ns ≡ front ++ n ∷ filter guarding s.rest =
    ap guards_among s.parts ∙ filter-append guarding s.before (n ∷ s.rest) ∙ ap (λ (l : List Node). front ++ l) (cond-true (guarding n) (n ∷ filter guarding s.rest) (filter guarding s.rest) is) in
    let lt : guards_before ns n.place < length (guards_among ns) = omega (arith, count, ap (λ (l : List Node). length l) all, length-append front (n ∷ filter guarding s.rest)) in
    record {
      within = lt;
      is = get_or-map f (guards_among ns) (guards_before ns n.place) n false lt ∙ ap f (ap (λ (i : ℕ). get_or (guards_among ns) i n) count ∙ ap (λ (l : List Node). get_or l (length front) n) all ∙ get_or-append_seam front n (filter guarding s.rest) n);
    }

-- that of a guard of a package
pub flag_there : (f : Node → Bool) (bytes : List ℕ) (place : ℕ) → SpellsForest bytes (tree_of bytes) → has_guard bytes place ≡ true → IsFlagged f (nodes_of bytes) (node_in bytes place)
unfolding node_in
flag_there f bytes place spelled has =
    let parts = and_parts _ _ has in
    let found = some_there (node_at (nodes_of bytes) place) parts.0 in
    let same : or_empty (node_at (nodes_of bytes) place) ≡ found.0 = ap or_empty found.1 in
    flagged f bytes (node_in bytes place) spelled (subst (λ (m : Node). Contains (nodes_of bytes) m) (sym same) (contains_found (nodes_of bytes) place found.0 found.1)) parts.1

-- a guard of a package lies in it
pub guard_below : (bytes : List ℕ) (place : ℕ) → IsChecked bytes → has_guard bytes place ≡ true → (node_in bytes place).place < length bytes
unfolding node_in
guard_below bytes place checked has =
    let found = some_there (node_at (nodes_of bytes) place) (and_parts _ _ has).0 in
    let same : or_empty (node_at (nodes_of bytes) place) ≡ found.0 = ap or_empty found.1 in
    place_below bytes (node_in bytes place) checked (subst (λ (m : Node). Contains (nodes_of bytes) m) (sym same) (contains_found (nodes_of bytes) place found.0 found.1))
