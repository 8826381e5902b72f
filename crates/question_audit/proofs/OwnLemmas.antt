-- What denies an option by itself.
use Rattle.std.proofs.Common.{◌≡◌, ◌<◌, ℕ, Bool, true, false, Option, Some, None, List, [], ◌∷◌, ◌++◌, refl, ap, ◌∙◌, arith}
use Rattle.std.specs.Prelude.{nat_lt, filter, option_map}
use Rattle.std.specs.List.{find, flat_map}
use Rattle.std.proofs.lemmas.Bool.{cond-true, cond-false, lt-ltb}
use Rattle.ifr_opcodes.specs.Forest.{Node}
use Rattle.ifr_nodes.specs.Locks.{first_of_nodes, locked_in}
use Rattle.hii_values.specs.declared.denial.DenialKind.{DenialKind}
use Rattle.ifr_index.specs.code.LockIndex.{first_place}
use Rattle.guard_policy.specs.Policy.{denied_by}
use Rattle.guard_policy.specs.declared.denial.Denial.{Denial}

abbrev pub is_inside : ℕ → Node → Bool
is_inside place g = nat_lt place g.place

-- what stands behind the place is inside
pub inside_at : (place : ℕ) (g : Node) (its : ℕ) → its ≡ g.place → place < its → is_inside place g ≡ true
inside_at place g its e behind = lt-ltb place g.place (omega (arith, e, behind))

-- the guards inside that are left
pub outside : (place : ℕ) (left rest : List Node) (g : Node) → left ≡ g ∷ rest → is_inside place g ≡ false → filter (is_inside place) left ≡ filter (is_inside place) rest
outside place left rest g e other = ap (filter (is_inside place)) e ∙ cond-false (is_inside place g) (g ∷ filter (is_inside place) rest) (filter (is_inside place) rest) other

pub inside : (place : ℕ) (left rest : List Node) (g : Node) → left ≡ g ∷ rest → is_inside place g ≡ true → filter (is_inside place) left ≡ g ∷ filter (is_inside place) rest
inside place left rest g e is = ap (filter (is_inside place)) e ∙ cond-true (is_inside place g) (g ∷ filter (is_inside place) rest) (filter (is_inside place) rest) is

-- the next of them is found
pub found_inside : (place : ℕ) (p : Node → Bool) (left rest : List Node) (g : Node) → left ≡ g ∷ rest → is_inside place g ≡ true → p g ≡ true → find p (filter (is_inside place) left) ≡ Some g
found_inside place p left rest g e is here = ap (find p) (inside place left rest g e is) ∙ cond-true (p g) (Some g) (find p (filter (is_inside place) rest)) here

-- or it is passed over
pub passed_inside : (place : ℕ) (p : Node → Bool) (left rest : List Node) (g : Node) → left ≡ g ∷ rest → is_inside place g ≡ true → p g ≡ false → find p (filter (is_inside place) left) ≡ find p (filter (is_inside place) rest)
passed_inside place p left rest g e is other = ap (find p) (inside place left rest g e is) ∙ cond-false (p g) (Some g) (find p (filter (is_inside place) rest)) other

pub passed_outside : (place : ℕ) (p : Node → Bool) (left rest : List Node) (g : Node) → left ≡ g ∷ rest → is_inside place g ≡ false → find p (filter (is_inside place) left) ≡ find p (filter (is_inside place) rest)
passed_outside place p left rest g e other = ap (find p) (outside place left rest g e other)

-- ---- LOCKEDs

abbrev pub locked_by : List Node → DenialKind → List Node → Option Denial
locked_by ns kind gs = option_map (denied_by kind) (first_of_nodes (flat_map (λ g. locked_in ns g.place) gs))

go_on : (kind : DenialKind) (xs ys : List Node) → option_map (λ (n : Node). n.place) (first_of_nodes xs) ≡ None → option_map (denied_by kind) (first_of_nodes (xs ++ ys)) ≡ option_map (denied_by kind) (first_of_nodes ys)
go_on kind [] ys e = refl
go_on kind (x ∷ xs) ys e = absurd cc

stop : (kind : DenialKind) (xs ys : List Node) (place : ℕ) → option_map (λ (n : Node). n.place) (first_of_nodes xs) ≡ Some place → option_map (denied_by kind) (first_of_nodes (xs ++ ys)) ≡ Some (record { kind = kind; place = place; message = 0 })
stop kind [] ys place e = absurd cc
stop kind (x ∷ xs) ys place e = let same : x.place ≡ place = cc in ap (λ (p : ℕ). Some (record { kind = kind; place = p; message = 0 })) same

pub lock_found : (ns : List Node) (kind : DenialKind) (place lock : ℕ) (left rest : List Node) (g : Node) → left ≡ g ∷ rest → is_inside place g ≡ true → first_place ns g.place ≡ Some lock
    → locked_by ns kind (filter (is_inside place) left) ≡ Some (record { kind = kind; place = lock; message = 0 })
lock_found ns kind place lock left rest g e is found = ap (locked_by ns kind) (inside place left rest g e is) ∙ stop kind (locked_in ns g.place) _ lock found

pub lock_passed : (ns : List Node) (kind : DenialKind) (place : ℕ) (left rest : List Node) (g : Node) → left ≡ g ∷ rest → is_inside place g ≡ true → first_place ns g.place ≡ None
    → locked_by ns kind (filter (is_inside place) left) ≡ locked_by ns kind (filter (is_inside place) rest)
lock_passed ns kind place left rest g e is none = ap (locked_by ns kind) (inside place left rest g e is) ∙ go_on kind (locked_in ns g.place) _ none

pub lock_outside : (ns : List Node) (kind : DenialKind) (place : ℕ) (left rest : List Node) (g : Node) → left ≡ g ∷ rest → is_inside place g ≡ false
    → locked_by ns kind (filter (is_inside place) left) ≡ locked_by ns kind (filter (is_inside place) rest)
lock_outside ns kind place left rest g e other = ap (locked_by ns kind) (outside place left rest g e other)
