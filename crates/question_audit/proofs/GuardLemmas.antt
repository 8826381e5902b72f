-- What is kept of conditions tells of a guard.
use Rattle.std.proofs.Common.{◌≡◌, ℕ, zero, suc, Bool, true, List, [], ◌∷◌, sym, ap, subst, ◌∙◌, inl, inr, arith}
use Rattle.std.specs.Prelude.{◌==◌, ◌||◌, Contains, filter}
use Rattle.std.specs.List.{AllByRecursion}
use Rattle.std.proofs.lemmas.Bool.{and_parts, cases_Bool, cond-true, cond-false}
use Rattle.ifr_opcodes.specs.Forest.{Node, node_at}
use Rattle.ifr_opcodes.specs.Opcode.{number}
use Rattle.ifr_opcodes.specs.declared.codes.TheConstants.{SUPPRESS_IF, GRAY_OUT_IF}
use Rattle.ifr_nodes.specs.Nodes.{is_no_submit, nodes_of}
use Rattle.ifr_nodes.specs.code.Checked.{has_guard, node_in, or_empty}
use Rattle.ifr_nodes.proofs.ViewLemmas.{contains_found, some_there}
use Rattle.hii_varstore.specs.Stores.{StoreMap}
use Rattle.guard_policy.specs.Conditions.{is_kept}
use Rattle.guard_policy.specs.World.{is_met}
use Rattle.guard_policy.specs.code.KeptConditions.{TellsAll}
use Rattle.guard_policy.specs.code.Views.{bytes_of, world}
use Rattle.guard_policy.specs.declared.policy.Policy.{Policy}

-- what holds of all that pass a test holds of one
told_of : (P : Node → Type 0) (p : Node → Bool) (ns : List Node) (n : Node) → AllByRecursion P (filter p ns) → Contains ns n → p n ≡ true → P n
told_of P p [] n h (k, lt, e) is = absurd (omega arith)
told_of P p (m ∷ ns) n h (zero, lt, e) is =
    let its : p m ≡ true = ap p e ∙ is in
    subst P e (subst (AllByRecursion P) (cond-true (p m) (m ∷ filter p ns) (filter p ns) its) h).0
told_of P p (m ∷ ns) n h (suc k, lt, e) is = elim (cases_Bool (p m)) [
  | inl takes ↦ told_of P p ns n (subst (AllByRecursion P) (cond-true (p m) (m ∷ filter p ns) (filter p ns) takes) h).1 (k, omega arith, e) is
  | inr leaves ↦ told_of P p ns n (subst (AllByRecursion P) (cond-false (p m) (m ∷ filter p ns) (filter p ns) leaves) h) (k, omega arith, e) is
]

or_more : (a b : Bool) → a ≡ true → a || b ≡ true
or_more a b e = ap (λ (x : Bool). x || b) e

-- a guard of a package is one of its nodes
guard_within : (bytes : List ℕ) (place : ℕ) → has_guard bytes place ≡ true → Contains (nodes_of bytes) (node_in bytes place)
unfolding node_in
guard_within bytes place has =
    let found = some_there (node_at (nodes_of bytes) place) (and_parts _ _ has).0 in
    let same : or_empty (node_at (nodes_of bytes) place) ≡ found.0 = ap or_empty found.1 in
    subst (λ (m : Node). Contains (nodes_of bytes) m) (sym same) (contains_found (nodes_of bytes) place found.0 found.1)

pub guard_told : (policy : Policy) (stores : StoreMap) (holding : ℕ → Bool) (bytes : List ℕ) (place : ℕ) → bytes ≡ bytes_of policy → has_guard bytes place ≡ true
    → number (node_in bytes place).op == SUPPRESS_IF || number (node_in bytes place).op == GRAY_OUT_IF ≡ true → TellsAll holding (world policy stores)
    → holding (node_in bytes place).place ≡ is_met (world policy stores) (node_in bytes place)
guard_told policy stores holding bytes place same has kept all =
    let g = node_in bytes place in
    told_of (λ (c : Node). holding c.place ≡ is_met (world policy stores) c) is_kept (nodes_of (bytes_of policy)) g all
    (subst (λ (b : List ℕ). Contains (nodes_of b) g) same (guard_within bytes place has)) (or_more (number g.op == SUPPRESS_IF || number g.op == GRAY_OUT_IF) (is_no_submit g) kept)
