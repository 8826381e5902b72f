-- Lengths of texts, and answers that name what forbids.
use Rattle.std.proofs.Common.{◌≡◌, ℕ, ◌+◌, ◌-◌, max, List, [], ◌∷◌, ◌++◌, length, map, codes, Option, Some, None, Ok, Err, refl, arith}
use Rattle.std.proofs.lemmas.List.{length-append, length-map}
use Rattle.guard_policy.specs.code.Answers.{unless}
use Rattle.guard_policy.specs.declared.denial.Denial.{Denial}
use Rattle.audit_text.specs.Texts.{ascii_name, shown_byte}

-- a name has a byte for each of its own, or one where it has none
pub name_length : (name : List ℕ) → length (ascii_name name) ≡ max (length name) 1
name_length [] = refl
name_length (b ∷ name) = let same : length (map shown_byte name) ≡ length name = length-map name shown_byte in omega (arith, same)

field_length : (name offset width : List ℕ) → length (name ++ codes ":0x" ++ offset ++ codes "(" ++ width ++ codes ")") ≡ length name + length offset + length width + 5
field_length name offset width =
    omega (
      arith,
      length-append (name ++ codes ":0x" ++ offset ++ codes "(" ++ width) (codes ")"),
      length-append (name ++ codes ":0x" ++ offset ++ codes "(") width,
      length-append (name ++ codes ":0x" ++ offset) (codes "("),
      length-append (name ++ codes ":0x") offset,
      length-append name (codes ":0x"),
    )

-- how many spaces are left in a column of 18 behind a field
pub spaces_behind : (name offset width : List ℕ) (m o w a b : ℕ) → m ≡ length name → o ≡ length offset → w ≡ length width
    → a ≡ 13 - m → b ≡ a - o → b - w ≡ 18 - length (name ++ codes ":0x" ++ offset ++ codes "(" ++ width ++ codes ")")
spaces_behind name offset width m o w a b e f h i j = omega (arith, e, f, h, i, j, field_length name offset width)

-- what an answer says of what forbids
pub none_forbids : (done : Unit {0}) (o : Option Denial) → Ok done ≡ unless o → o ≡ None
none_forbids done None e = refl
none_forbids done (Some denial) e = absurd cc

pub one_forbids : (denial : Denial) (o : Option Denial) → Err denial ≡ unless o → o ≡ Some denial
one_forbids denial None e = absurd cc
one_forbids denial (Some other) e = cc
