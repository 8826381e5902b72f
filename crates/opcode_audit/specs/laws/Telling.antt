-- The lines of opcodes tell the bytes of a forms package, each in one line.
use Rattle.std.specs.Prelude.{◌≡◌, ℕ, ◌+◌, ◌==◌, Bool, false, ⊤, List, [], ◌∷◌, ◌++◌, codes, decimal, drop, length}
use Rattle.std.specs.List.{concat, list_any}
use Rattle.hii_bytes.specs.Texts.{place_text}
use Rattle.audit_json.specs.declared.telling.Telling.{Telling}
use Rattle.audit_json.specs.declared.telling.Telling.TheVariants.{Lines, Objects}
use Rattle.audit_text.specs.Texts.{digits_of}
use Rattle.opcode_audit.specs.Walk.{fits}

-- whether a byte ends a line
abbrev pub ends_line : List ℕ → Bool
ends_line text = list_any (λ byte. byte == 10) text

-- How the place of an opcode stands at the beginning of its line, and its bytes at the end.
abbrev pub place_told : Telling → ℕ → List ℕ
place_told Lines place = place_text place ++ codes " "
place_told Objects place = codes "{\"kind\":\"opcode\",\"at\":" ++ decimal place

abbrev pub bytes_told : Telling → List ℕ → List ℕ
bytes_told Lines op = codes " ; " ++ digits_of false op
bytes_told Objects op = codes ",\"bytes\":\"" ++ digits_of false op ++ codes "\"}"

-- A line begins with the place of its opcode and ends with its bytes, and no byte before its last one ends it.
pub record IsLineOf (telling : Telling) (place : ℕ) (op line : List ℕ) : Type 0 where
  pub between : List ℕ
  pub told : line ≡ place_told telling place ++ between ++ bytes_told telling op ++ codes "\n"
  pub whole : ends_line (place_told telling place ++ between ++ bytes_told telling op) ≡ false

-- Lines of opcodes, of which the first stands at a place, and each other one behind the bytes of those before it.
abbrev pub AreLinesOf : Telling → ℕ → List (List ℕ) → List (List ℕ) → Type 0
AreLinesOf telling place [] [] = ⊤
AreLinesOf telling place (op ∷ ops) (line ∷ lines) =
    IsLineOf telling place op line × AreLinesOf telling (place + length op) ops lines
AreLinesOf _ _ _ _ = ⊥

-- The opcodes of the lines of a text are, one after the other, a package's bytes from the fourth on, to its end or where the length
-- of an opcode does not fit.
pub record TellsOpcodes (telling : Telling) (bytes text : List ℕ) : Type 0 where
  pub ops : List (List ℕ)
  pub rest : List ℕ
  pub whole : concat ops ++ rest ≡ drop 4 bytes
  pub ended : fits rest ≡ false
  pub lines : List (List ℕ)
  pub each : AreLinesOf telling 4 ops lines
  pub text_is : text ≡ concat lines
