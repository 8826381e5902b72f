-- What is wrong with the framing of a forms package (UEFI 2.8, 33.3.8 Forms Package; the bound of 64 scopes is an own rule).
use Rattle.std.specs.Prelude.{◌≡◌, ℕ, ◌+◌, ◌≤◌, true, List, [], ◌++◌, length, drop}
use Rattle.std.specs.List.{concat}
use Rattle.hii_bytes.specs.declared.cause.Cause.{Cause}
use Rattle.hii_bytes.specs.declared.cause.Cause.TheVariants.{OpLength, EndExtra, ScopeOpen, TooDeep}
use Rattle.ifr_opcodes.specs.Opcode.{has_scope, end, IsWhole}
use Rattle.ifr_opcodes.specs.Forest.{Forest, opcodes, height, AreNodes, SpellsForest}

-- Some forest of at most 64 open scopes begins with these opcodes.
pub record IsRun (ops : List (List ℕ)) : Type 0 where
  pub forest : Forest
  pub more : List (List ℕ)
  pub goes_on : opcodes forest ≡ ops ++ more
  pub are_nodes : AreNodes forest
  pub within : height forest ≤ 64

-- The package begins with this run, and then comes the rest.
pub record BeginsWith (bytes : List ℕ) (ops : List (List ℕ)) (rest : List ℕ) : Type 0 where
  pub run : IsRun ops
  pub spelled : drop 4 bytes ≡ concat ops ++ rest

-- This run is the longest with which the package begins.
pub record IsLongest (bytes : List ℕ) (ops : List (List ℕ)) (rest : List ℕ) : Type 0 where
  pub begins : BeginsWith bytes ops rest
  pub longest : (others : List (List ℕ)) (left : List ℕ) → BeginsWith bytes others left
      → length (concat others) ≤ length (concat ops)

-- why the longest run is not all of the package
abbrev pub Stops : List ℕ → Cause → List ℕ → Type 0
-- the rest does not begin with a whole opcode
Stops bytes OpLength rest =
    (rest ≡ [] → ⊥) × ((op more : List ℕ) → IsWhole op → rest ≡ op ++ more → ⊥)
-- or with an END where no scope is open
Stops bytes EndExtra rest = (more : List ℕ) × (rest ≡ end ++ more)
-- or there is none, and a scope is open
Stops bytes ScopeOpen rest = (rest ≡ []) × ((f : Forest) → SpellsForest bytes f → ⊥)
-- or it begins with an opcode that opens a 65th scope
Stops bytes TooDeep rest =
    (op more : List ℕ) × IsWhole op × (has_scope op ≡ true) × (rest ≡ op ++ more)
Stops bytes _ rest = ⊥

-- A package's framing is wrong for this cause, at the end of the longest run.
pub record IsFramingFault (bytes : List ℕ) (cause : Cause) (place : ℕ) : Type 0 where
  pub ops : List (List ℕ)
  pub rest : List ℕ
  pub longest : IsLongest bytes ops rest
  pub ends_there : place ≡ 4 + length (concat ops)
  pub stops : Stops bytes cause rest
