-- The bytes of a store that an image holds (own rule).
use Rattle.std.specs.Prelude.{◌≡◌, ℕ, Bool, true, false, List, Option, ◌++◌, length, codes, decimal}
use Rattle.hii_bytes.specs.declared.watched.Watched.{Watched}
use Rattle.hii_bytes.specs.Watching.{Puts}
use Rattle.ifr_opcodes.specs.Forest.{Node}
use Rattle.audit_text.specs.Texts.{ascii_name}
use Rattle.audit_json.specs.Objects.{number_member, object, text_member}
use Rattle.audit_json.specs.Telling.{told_as}
use Rattle.audit_json.specs.declared.telling.Telling.{Telling}
use Rattle.question_audit.specs.QuestionLines.{name_of, store_with}

-- the id and the name of a store, and how many bytes it holds
abbrev pub store_line : List Node → ℕ → List ℕ → List ℕ
store_line ns id bytes =
    codes "STORE " ++ decimal id ++ codes " " ++ ascii_name (name_of (store_with ns id)) ++ codes " "
    ++ decimal (length bytes) ++ codes "\n"

abbrev pub store_members : List Node → ℕ → List ℕ → List ℕ
store_members ns id bytes =
    number_member (codes "id") id ++ text_member (codes "name") (name_of (store_with ns id))
    ++ number_member (codes "size") (length bytes)

abbrev pub store_object : List Node → ℕ → List ℕ → List ℕ
store_object ns id bytes = object (codes "store") (store_members ns id bytes)

abbrev pub store_told : Telling → List Node → ℕ → List ℕ → List ℕ
store_told telling ns id bytes = told_as telling (store_line ns id bytes) (store_object ns id bytes)

-- The bytes were put into a file; where the answers had failed, the file is as it was.
abbrev pub PutsBytes : {F : Type 0} → List ℕ → Bool → (F → Option (List ℕ)) → Watched F → Watched F → Type 0
PutsBytes bytes true contents old new = new ≡ old
PutsBytes bytes false contents old new = Puts contents old new bytes
