-- Forms, statements and options are indexed.
use Rattle.std.proofs.Common.{◌≡◌, ℕ, true, Option, List, refl, sym, ap, ◌∙◌, inl, inr}
use Rattle.std.proofs.lemmas.Bool.{cases_Bool}
use Rattle.ifr_opcodes.specs.Forest.{Node, SpellsForest}
use Rattle.ifr_opcodes.specs.Reading.{tree_of}
use Rattle.ifr_nodes.specs.Guards.{guards}
use Rattle.ifr_nodes.specs.code.Checked.{IsNodeOf}
use Rattle.ifr_index.specs.code.Index.{is_indexed, guards_of_indexed, lock_of_indexed}
use Rattle.ifr_nodes.specs.Locks.{first_lock}
use Rattle.ifr_nodes.specs.Nodes.{nodes_of, is_form, is_statement, is_option}
use Rattle.ifr_index.proofs.PathLemmas.{own_guards, own_lock}
use Rattle.ifr_nodes.proofs.ViewLemmas.{contains_found}

pub of_form : (n : Node) → is_form n ≡ true → is_indexed n ≡ true
of_form n is = rw is refl

pub of_statement : (n : Node) → is_statement n ≡ true → is_indexed n ≡ true
of_statement n is = elim (cases_Bool (is_form n)) [
  | inl form ↦ rw form refl
  | inr other ↦ rw (other, is) refl
]

pub of_option : (n : Node) → is_option n ≡ true → is_indexed n ≡ true
of_option n is = elim (cases_Bool (is_form n)) [
  | inl form ↦ rw form refl
  | inr other ↦ elim (cases_Bool (is_statement n)) [
    | inl statement ↦ rw (other, statement) refl
    | inr none ↦ rw (other, none, is) refl
  ]
]

-- the guards that are looked up at the place of a node are those of the node
pub guards_there : (bytes : List ℕ) (n : Node) (place : ℕ) (gs : List Node) → SpellsForest bytes (tree_of bytes) → IsNodeOf bytes n → is_indexed n ≡ true → n.place ≡ place → gs ≡ guards_of_indexed (nodes_of bytes) place → gs ≡ guards n
guards_there bytes n place gs s node indexed at e = e ∙ ap (guards_of_indexed (nodes_of bytes)) (sym at) ∙ own_guards bytes n s (contains_found (nodes_of bytes) n.place n node) indexed

-- and so is the LOCKED
pub lock_there : (bytes : List ℕ) (n : Node) (place : ℕ) (lock : Option Node) → SpellsForest bytes (tree_of bytes) → IsNodeOf bytes n → is_indexed n ≡ true → n.place ≡ place → lock ≡ lock_of_indexed (nodes_of bytes) place → lock ≡ first_lock (nodes_of bytes) n
lock_there bytes n place lock s node indexed at e = e ∙ ap (lock_of_indexed (nodes_of bytes)) (sym at) ∙ own_lock bytes n s (contains_found (nodes_of bytes) n.place n node) indexed
