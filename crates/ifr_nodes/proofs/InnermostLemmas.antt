-- The innermost of a path, by the last of the places on it.
use Rattle.std.proofs.Common.{◌≡◌, ℕ, ◌-◌, All, rules, Option, Some, None, Result, Ok, Err, IsOk, List, [], ◌∷◌, ◌++◌, length, map, refl, sym, ap, ◌∙◌, subst, arith}
use Rattle.std.specs.Prelude.{IfOk, option_map}
use Rattle.std.specs.List.{last_or, slice_get}
use Rattle.std.specs.Result.{result_ok}
use Rattle.std.proofs.lemmas.Option.{slice_get_within, get_or_from_slice_get}
use Rattle.hii_bytes.specs.declared.cause.Fault.{Fault}
use Rattle.ifr_opcodes.specs.Forest.{Mark, Ancestor}
use Rattle.ifr_opcodes.specs.Opcode.{IsWhole}
use Rattle.ifr_opcodes.specs.code.Ops.{op_of}
use Rattle.ifr_opcodes.specs.code.Marks.{mark_at, ancestor_at}
use Rattle.ifr_opcodes.specs.declared.op.Op.{Op}
use Rattle.ifr_nodes.specs.Structure.{innermost}

last_read : {X Y : Type 0} (f : X → Y) (found : Option Y) (x : X) (xs : List X) → last_or found (map f (x ∷ xs)) ≡ option_map f (slice_get (x ∷ xs) (length xs))
last_read f found x [] = refl
last_read f found x (y ∷ xs) = last_read f (Some (f x)) y xs

-- the last is the one that was put at the end
pub last_or-push : {X : Type 0} (found : Option X) (xs : List X) (x : X) → last_or found (xs ++ x ∷ []) ≡ Some x
last_or-push found [] x = refl
last_or-push found (y ∷ xs) x = last_or-push (Some y) xs x

innermost_at : (bytes places : List ℕ) (place : ℕ) → Some place ≡ slice_get places (length places - 1) → innermost (map (ancestor_at bytes) places) ≡ Some (mark_at bytes place)
innermost_at bytes [] place e = absurd cc
innermost_at bytes (p ∷ places) place e =
    let last : length (p ∷ places) - 1 ≡ length places = omega arith in
    ap (λ (found : Option Ancestor). option_map (λ (a : Ancestor). record { place = a.place; op = a.op }) found) (last_read (ancestor_at bytes) None p places ∙ ap (λ (o : Option ℕ). option_map (ancestor_at bytes) o) (ap (slice_get (p ∷ places)) (sym last) ∙ sym e))

read_there : (bytes : List ℕ) (place : ℕ) (read : Result Op Fault) → IfOk read (λ op. op_of op ≡ mark_at bytes place) → IsOk read → option_map op_of (result_ok read) ≡ Some (mark_at bytes place)
read_there bytes place (Ok op) is ok = ap (λ (m : Mark). Some m) is
read_there bytes place (Err fault) is ok = absurd (search rules)

pub innermost_read : (bytes places : List ℕ) (place : ℕ) (read : Result Op Fault) (found : Option Op) → All (λ p. IsWhole (mark_at bytes p).op) places → Some place ≡ slice_get places (length places - 1)
    → IfOk read (λ op. op_of op ≡ mark_at bytes place) → (IsWhole (mark_at bytes place).op → IsOk read) → found ≡ result_ok read → option_map op_of found ≡ innermost (map (ancestor_at bytes) places)
innermost_read bytes places place read found whole e is accepted f =
    let here : IsWhole (mark_at bytes place).op = subst (λ (p : ℕ). IsWhole (mark_at bytes p).op) (get_or_from_slice_get places (length places - 1) place 0 (sym e)) (whole (length places - 1) 0 (slice_get_within places (length places - 1) place (sym e))) in
    ap (λ (o : Option Op). option_map op_of o) f ∙ read_there bytes place read is (accepted here) ∙ sym (innermost_at bytes places place e)

-- the place of the innermost
pub last_place : (bytes places : List ℕ) → option_map (λ (m : Mark). m.place) (innermost (map (ancestor_at bytes) places)) ≡ slice_get places (length places - 1)
last_place bytes [] = refl
last_place bytes (p ∷ places) =
    let last : length (p ∷ places) - 1 ≡ length places = omega arith in
    ap (λ (found : Option Ancestor). option_map (λ (m : Mark). m.place) (option_map (λ (a : Ancestor). record { place = a.place; op = a.op }) found)) (last_read (ancestor_at bytes) None p places)
    ∙ go (slice_get (p ∷ places) (length places)) ∙ ap (slice_get (p ∷ places)) (sym last)
  where
    go : (o : Option ℕ) → option_map (λ (m : Mark). m.place) (option_map (λ (a : Ancestor). record { place = a.place; op = a.op }) (option_map (ancestor_at bytes) o)) ≡ o
    go None = refl
    go (Some q) = refl
