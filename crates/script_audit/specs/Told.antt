-- Texts as they stand in lines, and in strings of JSON (own rule).
use Rattle.std.specs.Prelude.{ℕ, List, ◌++◌, codes, decimal}
use Rattle.std.specs.List.{flat_map}
use Rattle.audit_text.specs.Texts.{safe_char}
use Rattle.audit_json.specs.Json.{json_char}
use Rattle.audit_json.specs.Objects.{member_key, number_member, object_kind}
use Rattle.audit_json.specs.Telling.{told_as}
use Rattle.audit_json.specs.declared.telling.Telling.{Telling}

-- a character, and a text of characters
abbrev pub spelled_char : Telling → ℕ → List ℕ
spelled_char telling c = told_as telling (safe_char c) (json_char c)

abbrev pub spelled : Telling → List ℕ → List ℕ
spelled telling text = flat_map (spelled_char telling) text

-- what stands before a text: words of a line; the kind of an object, and the key of its last member
abbrev pub front : Telling → List ℕ → List ℕ → List ℕ → List ℕ
front telling words kind key = told_as telling words (object_kind kind ++ member_key key ++ codes "\"")

-- the same of a text that belongs to a line of the script
abbrev pub numbered_front : Telling → ℕ → List ℕ → List ℕ → List ℕ
numbered_front telling n kind key =
    told_as telling (codes "line " ++ decimal n ++ codes ": ")
    (object_kind kind ++ number_member (codes "line") n ++ member_key key ++ codes "\"")

-- what stands behind it
abbrev pub back : Telling → List ℕ
back telling = told_as telling (codes "\n") (codes "\"}\n")

-- how a run ends that is refused with a line of its own, in which nothing is to be escaped
abbrev pub error_told : Telling → List ℕ → List ℕ
error_told telling text = front telling (codes "") (codes "error") (codes "text") ++ text ++ back telling
