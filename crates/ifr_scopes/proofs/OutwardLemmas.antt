-- The guards of a form, a statement or an option, from the number of the innermost.
use Rattle.std.proofs.Common.{◌≡◌, ◌≤◌, ℕ, Option, Some, None, List, [], length, refl, sym, ap, ◌∙◌, subst, arith}
use Rattle.std.specs.Prelude.{Contains, option_and_then, option_map}
use Rattle.ifr_opcodes.specs.Forest.{Node, SpellsForest}
use Rattle.ifr_opcodes.specs.Reading.{tree_of}
use Rattle.ifr_nodes.specs.Guards.{guards}
use Rattle.ifr_nodes.specs.Nodes.{nodes_of}
use Rattle.ifr_nodes.specs.code.Checked.{node_in}
use Rattle.ifr_index.specs.code.Index.{is_indexed, indexed_at, entry_of, or_none, guards_of_indexed}
use Rattle.ifr_index.specs.code.Tables.{inner_guard, guards_from, IsNumber, innermost_at, kept_entry, IsConditionEntry}
use Rattle.ifr_index.specs.declared.index.Entry.{Entry}
use Rattle.ifr_index.specs.declared.index.ConditionEntry.{ConditionEntry}
use Rattle.ifr_index.proofs.IndexingLemmas.{nodes_follow, path_few}
use Rattle.ifr_index.proofs.NoSubmitLemmas.{stands}
use Rattle.ifr_index.proofs.NumberLemmas.{guards_are, few_guards}
use Rattle.ifr_index.proofs.PathLemmas.{find_within}

-- The number is that of a guard of the package, if it is one, and the guards from it on are few.
pub record AreOutward (bytes : List ℕ) (next : Option ℕ) (its : List Node) : Type 0 where
  pub few : length (guards_from (nodes_of bytes) next) ≤ 64
  pub numbered : IsNumber (nodes_of bytes) next
  pub guards : guards_from (nodes_of bytes) next ≡ its

pub outward_of : (bytes : List ℕ) (n : Node) (next : Option ℕ) → SpellsForest bytes (tree_of bytes) → Contains (nodes_of bytes) n → next ≡ inner_guard (nodes_of bytes) n.path → AreOutward bytes next (guards n)
outward_of bytes n next s within e =
    let are = guards_are bytes n s within in
    let few : length (guards_from (nodes_of bytes) (inner_guard (nodes_of bytes) n.path)) ≤ 64 =
    subst (λ (l : List Node). length l ≤ 64) are.guards (let path = path_few [] (nodes_of bytes) n (nodes_follow bytes s) within in omega (arith, path, few_guards n)) in
    subst (λ (o : Option ℕ). AreOutward bytes o (guards n)) (sym e) (record { few = few; numbered = are.numbered; guards = sym are.guards })

-- those of a condition of the index
pub outward_at : (bytes : List ℕ) (kept : ConditionEntry) → SpellsForest bytes (tree_of bytes) → IsConditionEntry bytes kept → AreOutward bytes kept.guard (guards (node_in bytes kept.place))
outward_at bytes kept s is = outward_of bytes (node_in bytes kept.place) kept.guard s (stands bytes kept.place is.there) is.guard

pub outward : (bytes : List ℕ) (place : ℕ) (next : Option ℕ) → SpellsForest bytes (tree_of bytes) → next ≡ innermost_at (nodes_of bytes) place → AreOutward bytes next (guards_of_indexed (nodes_of bytes) place)
outward bytes place next s e = go (indexed_at (nodes_of bytes) place) refl e
  where
    go : (found : Option Node) → indexed_at (nodes_of bytes) place ≡ found → next ≡ entry_of (λ n. inner_guard (nodes_of bytes) n.path) found → AreOutward bytes next (or_none (option_map guards found))
    go None at e = subst (λ (o : Option ℕ). AreOutward bytes o []) (sym e) (record { few = omega arith; numbered = tt; guards = refl })
    go (Some n) at e = outward_of bytes n next s (find_within is_indexed (nodes_of bytes) place n at).within e

-- what the index has of a form, a statement or an option tells the number
pub guard_told : (ns : List Node) (found : Option Node) (entry : Option Entry) (next : Option ℕ) → entry ≡ option_map (kept_entry ns) found → next ≡ option_and_then (λ (x : Entry). x.guard) entry
    → next ≡ entry_of (λ n. inner_guard ns n.path) found
guard_told ns None entry next e is = is ∙ ap (option_and_then (λ (x : Entry). x.guard)) e
guard_told ns (Some n) entry next e is = is ∙ ap (option_and_then (λ (x : Entry). x.guard)) e
