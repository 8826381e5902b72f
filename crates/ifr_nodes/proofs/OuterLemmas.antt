-- The places of a path, from the innermost outwards.
use Rattle.std.proofs.Common.{◌≡◌, ℕ, ◌<◌, All, Bool, true, false, List, [], ◌∷◌, ◌++◌, length, map, get_or, drop, refl, ap, ◌∙◌, subst, arith}
use Rattle.std.specs.Prelude.{filter}
use Rattle.std.proofs.lemmas.List.{append-nil, length-append, map-append, length-take, get_or-take, get_or-drop}
use Rattle.std.proofs.Math.ListN.{get_or-append}
use Rattle.std.proofs.Math.Seq.{get_or-append_seam}
use Rattle.std.proofs.lemmas.List.Elements.{filter-append}
use Rattle.ifr_opcodes.specs.Opcode.{number, stated_length, IsWhole}
use Rattle.ifr_opcodes.specs.Forest.{Ancestor}
use Rattle.ifr_opcodes.specs.code.Marks.{mark_at, ancestor_at}

-- the number of what stands at a place is the byte there
pub number_there : (bytes : List ℕ) (place : ℕ) → IsWhole (mark_at bytes place).op → number (ancestor_at bytes place).op ≡ get_or bytes place 0
number_there bytes place whole =
    let behind = drop place bytes in
    let some : 0 < stated_length behind = omega (arith, whole.long, length-take (stated_length behind) behind) in
    get_or-take (stated_length behind) behind 0 0 some ∙ get_or-drop place bytes 0 0 ∙ ap (λ (k : ℕ). get_or bytes k 0) (omega arith)

-- what holds at all places holds at the last, and at those before it
pub all_outer : (P : ℕ → Type 0) (outer : List ℕ) (place : ℕ) → All P (outer ++ place ∷ []) → All P outer
all_outer P outer place all = λ k d lt. subst P (get_or-append outer (place ∷ []) d k lt) (all k d (omega (arith, lt, length-append outer (place ∷ []))))

pub at_last : (P : ℕ → Type 0) (outer : List ℕ) (place : ℕ) → All P (outer ++ place ∷ []) → P place
at_last P outer place all = subst P (get_or-append_seam outer place [] 0) (all (length outer) 0 (omega (arith, length-append outer (place ∷ []))))

-- what passes a test on a path whose last passes it, or does not
pub last_passes : (is : Ancestor → Bool) (bytes outer : List ℕ) (place : ℕ) → is (ancestor_at bytes place) ≡ true
    → filter is (map (ancestor_at bytes) (outer ++ place ∷ [])) ≡ filter is (map (ancestor_at bytes) outer) ++ ancestor_at bytes place ∷ []
last_passes is bytes outer place here =
    ap (filter is) (map-append (ancestor_at bytes) outer (place ∷ [])) ∙ filter-append is (map (ancestor_at bytes) outer) (ancestor_at bytes place ∷ []) ∙ rw here refl

pub last_fails : (is : Ancestor → Bool) (bytes outer : List ℕ) (place : ℕ) → is (ancestor_at bytes place) ≡ false
    → filter is (map (ancestor_at bytes) (outer ++ place ∷ [])) ≡ filter is (map (ancestor_at bytes) outer)
last_fails is bytes outer place other =
    ap (filter is) (map-append (ancestor_at bytes) outer (place ∷ [])) ∙ filter-append is (map (ancestor_at bytes) outer) (ancestor_at bytes place ∷ []) ∙ rw other (append-nil (filter is (map (ancestor_at bytes) outer)))
