-- The first form of a package.
use Rattle.std.proofs.Common.{◌≡◌, ℕ, Bool, Option, Some, None, List, [], ◌∷◌, refl, arith, inl, inr}
use Rattle.std.specs.Prelude.{Contains, filter}
use Rattle.std.specs.Option.{IsSome}
use Rattle.std.specs.Iterator.{YieldsFirstBy}
use Rattle.std.proofs.lemmas.Bool.{cases_Bool}
use Rattle.hii_bytes.specs.declared.cause.Cause.TheVariants.{NoForm}
use Rattle.ifr_opcodes.specs.Forest.{Node}
use Rattle.ifr_nodes.specs.Accepted.{IsAccepted}
use Rattle.ifr_nodes.specs.Nodes.{nodes_of, is_form}
use Rattle.ifr_nodes.proofs.ViewLemmas.{further}

pub yields_some : {S X N : Type 0} (f : X → N) (left : S → List N) (old : S) (o : Option X) (new : S) → YieldsFirstBy f left old o new → (left old ≡ [] → ⊥) → IsSome o
yields_some f left old None new y none = absurd (none y.0)
yields_some f left old (Some x) new y none = refl

-- an accepted package has a form
pub some_form : (ifr : List ℕ) → IsAccepted ifr → filter is_form (nodes_of ifr) ≡ [] → ⊥
some_form ifr accepted none = accepted.referred NoForm 4 (inl (none, refl, refl))

-- the first that passes a test is one of those that are tested
pub first_within : (p : Node → Bool) (ns : List Node) (x : Node) (rest : List Node) → filter p ns ≡ x ∷ rest → Contains ns x
first_within p [] x rest e = absurd cc
first_within p (n ∷ ns) x rest e = elim (cases_Bool (p n)) [
  | inl passes ↦ let same : n ≡ x = cc (rw passes at e) in (0, omega arith, same)
  | inr fails ↦ further n ns x (first_within p ns x rest (rw fails at e))
]

-- what is not empty has a first
some_first : (xs : List Node) → (xs ≡ [] → ⊥) → (x : Node) × (rest : List Node) × (xs ≡ x ∷ rest)
some_first [] some = absurd (some refl)
some_first (x ∷ rest) some = (x, rest, refl)

-- the first form of an accepted package, and the others
pub first_of : (ifr : List ℕ) → IsAccepted ifr → (first : Node) × (others : List Node) × (filter is_form (nodes_of ifr) ≡ first ∷ others)
first_of ifr accepted = some_first (filter is_form (nodes_of ifr)) (some_form ifr accepted)
