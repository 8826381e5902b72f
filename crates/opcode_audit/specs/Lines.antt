-- How the opcodes of a forms package are told, each in one line (own rule).
use Rattle.std.specs.Prelude.{ℕ, ◌+◌, ◌*◌, false, List, [], ◌∷◌, ◌++◌, codes, drop, length, replicate}
use Rattle.browser_rules.specs.Faults.{Fault, string_package_faults}
use Rattle.browser_rules.specs.Opcodes.{number}
use Rattle.browser_rules.specs.Packages.{Package, packages_with, STRINGS}
use Rattle.browser_rules.specs.Strings.{Spoken, spoken_by}
use Rattle.hii_bytes.specs.Texts.{place_text}
use Rattle.audit_json.specs.Objects.{member, number_member, object, quoted}
use Rattle.audit_json.specs.Telling.{told_as}
use Rattle.audit_json.specs.declared.telling.Telling.{Telling}
use Rattle.audit_text.specs.Texts.{digits_of}
use Rattle.opcode_audit.specs.Facts.{opcode_facts}
use Rattle.opcode_audit.specs.Words.{facts_json, name_or_number, opcode_words}
use Rattle.opcode_audit.specs.Walk.{depth_at, scopes_behind, opcodes_in}

-- ---- texts

-- what a string package says, unless it has a fault
abbrev pub said_without : List Fault → Package → List Spoken
said_without [] p = spoken_by p ∷ []
said_without (fault ∷ faults) p = []

abbrev pub said_by : List Package → List Spoken
said_by [] = []
said_by (p ∷ ps) = said_without (string_package_faults p) p

-- what the first string package of a list says
abbrev pub said_first : List ℕ → List Spoken
said_first list = said_by (packages_with STRINGS list)

-- ---- lines

-- How opcodes are told, by what is said of string ids, and the offset of the forms package in the file that was given.
pub record Setting : Type 0 where
  pub telling : Telling
  pub spoken : List Spoken
  pub base : ℕ

-- an opcode at a place in the forms package, in so many scopes: its place in the package and in the file, its name and its
-- fields, and its bytes
abbrev pub line : Setting → ℕ → ℕ → List ℕ → List ℕ
line s place depth op =
    place_text place ++ codes " " ++ place_text (s.base + place) ++ codes " "
    ++ replicate (2 * depth) 32 ++ opcode_words s.spoken op
    ++ codes " ; " ++ digits_of false op ++ codes "\n"

-- the same as an object
abbrev pub place_members : Setting → ℕ → ℕ → List ℕ
place_members s place depth =
    number_member (codes "at") place ++ number_member (codes "byte") (s.base + place)
    ++ number_member (codes "depth") depth

abbrev pub fields_member : List Spoken → List ℕ → List ℕ
fields_member spoken op =
    member (codes "fields") (codes "{" ++ facts_json spoken (opcode_facts op) ++ codes "}")

abbrev pub opcode_object : Setting → ℕ → ℕ → List ℕ → List ℕ
opcode_object s place depth op =
    object (codes "opcode") (place_members s place depth
    ++ member (codes "name") (quoted (name_or_number (number op)))
    ++ fields_member s.spoken op ++ member (codes "bytes") (quoted (digits_of false op)))

abbrev pub told : Setting → ℕ → ℕ → List ℕ → List ℕ
told s place depth op = told_as s.telling (line s place depth op) (opcode_object s place depth op)

-- opcodes one behind the other, of which the first stands at a place, where so many scopes are open
abbrev pub lines : Setting → ℕ → ℕ → List (List ℕ) → List ℕ
lines s place scopes [] = []
lines s place scopes (op ∷ ops) =
    told s place (depth_at scopes op) op ++ lines s (place + length op) (scopes_behind scopes op) ops

-- the opcodes of a forms package, behind its header of four bytes, in a list that begins at an offset of the file that was given
abbrev pub opcodes_text : Telling → List Spoken → ℕ → Package → List ℕ
opcodes_text telling spoken start p =
    lines record { telling = telling; spoken = spoken; base = start + p.place } 4 0
    (opcodes_in (drop 4 p.bytes))
