-- The blocks of what stands behind a header.
use Rattle.std.specs.Prelude.{ℕ, Bool, List, [], ◌∷◌, Result, Ok, Err, is_ok}
use Rattle.hii_bytes.specs.declared.cause.Cause.{Cause}
use Rattle.config_text.specs.code.Parts.{text_parts}
use Rattle.browser_rules.specs.Configuration.{Block}
use Rattle.config_text.specs.code.Reading.{wants_offset, areas_in}
use Rattle.config_text.specs.declared.kind.TextKind.{TextKind}

-- the parts of a text that begins with `&`, and none of an empty one
abbrev pub parts_behind : List ℕ → List (List ℕ)
parts_behind [] = []
parts_behind (b ∷ text) = text_parts text

-- the blocks of a text that begins with `&` or is empty, or its first fault
abbrev pub areas_behind : TextKind → List ℕ → Result (List Block) Cause
areas_behind kind text = areas_in kind wants_offset (parts_behind text)

-- whether the text is blocks
abbrev pub are_elements : TextKind → List ℕ → Bool
are_elements kind text = is_ok (areas_behind kind text)

abbrev pub areas_or_none : Result (List Block) Cause → List Block
areas_or_none (Err cause) = []
areas_or_none (Ok areas) = areas

-- the blocks of a text, or none where it has a fault
abbrev pub areas_of : TextKind → List ℕ → List Block
areas_of kind text = areas_or_none (areas_behind kind text)
