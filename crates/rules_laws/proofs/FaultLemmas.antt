-- Faults of several things, and of several causes.
use Rattle.std.proofs.Common.{◌≡◌, ◌⊎◌, ◌↔◌, ℕ, zero, suc, Bool, true, false, List, [], ◌∷◌, ◌++◌, map, refl, ap, sym, ◌∙◌, subst, inl, inr, arith}
use Rattle.std.specs.Prelude.{Contains}
use Rattle.std.specs.List.{AllByRecursion, flat_map}
use Rattle.std.proofs.lemmas.List.Folds.{flat_map-map}
use Rattle.std.proofs.lemmas.List.Elements.{Contains-append_right, Contains-append_cases}
use Rattle.std.proofs.lemmas.Bool.{true≢false}
use Rattle.hii_bytes.specs.declared.cause.Cause.{Cause}
use Rattle.hii_bytes.specs.Causes.{cause_for}
use Rattle.hii_bytes.specs.Faults.{AreFaults, IsFaultOf}
use Rattle.hii_bytes.proofs.ChapterFaultLemmas.{both_kinds, one_fault, no_faults}
use Rattle.ifr_opcodes.specs.Forest.{Node}
use Rattle.ifr_nodes.specs.ReferenceFaults.{Ranked, ranked}
use Rattle.browser_rules.specs.Words as chapter
use Rattle.browser_rules.specs.Faults.{Fault, fault_if, ranked as chapter_ranked}

-- ---- one thing

-- the same faults, said in another way
pub said_as : (faults : List Fault) (F G : Cause → ℕ → Type 0) → AreFaults faults F → ((c : Cause) (p : ℕ) → F c p ↔ G c p) → AreFaults faults G
said_as faults F G are same c p = (λ among. (same c p).0 ((are c p).0 among), λ is. (are c p).1 ((same c p).1 is))

-- a fault where a test holds
pub if_fault : (test : Bool) (d : Cause) (q : ℕ) → AreFaults (fault_if test (cause_for d) q) (λ c p. (q ≡ p) × (c ≡ d) × (test ≡ true))
if_fault true d q = one_fault (λ c p. (q ≡ p) × (c ≡ d) × (true ≡ true)) d q (refl, refl, refl) (λ c p is. (is.1, sym is.0))
if_fault false d q = no_faults (λ c p. (q ≡ p) × (c ≡ d) × (false ≡ true)) (λ c p is. true≢false (sym is.2))

-- the faults of both
pub either_kind : (xs ys : List Fault) (F G : Cause → ℕ → Type 0) → AreFaults xs F → AreFaults ys G → AreFaults (xs ++ ys) (λ c p. F c p ⊎ G c p)
either_kind xs ys F G fs gs = both_kinds xs ys F G (λ c p. F c p ⊎ G c p) fs gs (λ c p a. inl a) (λ c p b. inr b) (λ c p is. is)

-- ---- several things

pub first_there : {X : Type 0} (x y : X) → Contains (x ∷ []) y → x ≡ y
first_there x y (zero, within, e) = e
first_there x y (suc k, within, e) = absurd (omega (arith, within))

-- the faults of each are those of all
pub each_fault : {X : Type 0} (faults : X → List Fault) (place : X → ℕ) (has : X → Cause → Bool) (xs : List X)
    → ((x : X) → AreFaults (faults x) (λ c p. (place x ≡ p) × (has x c ≡ true))) → AreFaults (flat_map faults xs) (IsFaultOf place has xs)
each_fault faults place has [] one = no_faults (IsFaultOf place has []) (λ c p is. omega (arith, is.1.1))
each_fault {X} faults place has (x ∷ xs) one =
    both_kinds (faults x) (flat_map faults xs) (λ c p. (place x ≡ p) × (has x c ≡ true)) (IsFaultOf place has xs) (IsFaultOf place has (x ∷ xs)) (one x) (each_fault faults place has xs one)
    (λ c p is. (x, (0, omega arith, refl), is.0, is.1))
    (λ c p is. (is.0, Contains-append_right (x ∷ []) xs is.0 is.1, is.2, is.3))
    out
  where
    out : (c : Cause) (p : ℕ) → IsFaultOf place has (x ∷ xs) c p → ((place x ≡ p) × (has x c ≡ true)) ⊎ IsFaultOf place has xs c p
    out c p (y, there, at, is) = elim (Contains-append_cases (x ∷ []) xs y there) [
      | inl first ↦ (let same : y ≡ x = sym (first_there x y first) in inl (subst (λ (z : X). (place z ≡ p) × (has z c ≡ true)) same (at, is)))
      | inr later ↦ inr (y, later, at, is)
    ]

-- ---- nodes with those before them

abbrev pair_of : Ranked → List Node × Node
pair_of r = (r.before, r.node)

ranked_same : (before ns : List Node) → chapter_ranked before ns ≡ map pair_of (ranked before ns)
ranked_same before [] = refl
ranked_same before (n ∷ ns) = ap (λ (l : List (List Node × Node)). (before, n) ∷ l) (ranked_same (before ++ n ∷ []) ns)

pub flat_ranked : (faults : List Node × Node → List Fault) (before ns : List Node) → flat_map faults (chapter_ranked before ns) ≡ flat_map (λ (r : Ranked). faults (r.before, r.node)) (ranked before ns)
flat_ranked faults before ns = ap (flat_map faults) (ranked_same before ns) ∙ flat_map-map faults pair_of (ranked before ns)

one_more : (P : Node → Type 0) (ns : List Node) (n : Node) → AllByRecursion P ns → P n → AllByRecursion P (ns ++ n ∷ [])
one_more P [] n are is = (is, tt)
one_more P (m ∷ ns) n are is = (are.0, one_more P ns n are.1 is)

-- faults of nodes that depend on what holds of them and of those before them
pub same_ranked : (f g : Ranked → List Fault) (P : Node → Type 0) → ((before : List Node) (n : Node) → AllByRecursion P before → P n → f (record { before = before; node = n }) ≡ g (record { before = before; node = n }))
    → (before ns : List Node) → AllByRecursion P before → AllByRecursion P ns → flat_map f (ranked before ns) ≡ flat_map g (ranked before ns)
same_ranked f g P same before [] are all = refl
same_ranked f g P same before (n ∷ ns) are all =
    ap (λ (l : List Fault). l ++ flat_map f (ranked (before ++ n ∷ []) ns)) (same before n are all.0)
    ∙ ap (λ (l : List Fault). g (record { before = before; node = n }) ++ l) (same_ranked f g P same (before ++ n ∷ []) ns (one_more P before n are all.0) all.1)
