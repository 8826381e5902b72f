-- What a command says of its own, in a line or as an object (own rule).
use Rattle.std.specs.Prelude.{ℕ, List, [], ◌++◌, codes, decimal}
use Rattle.audit_json.specs.Objects.{member_key, object_kind}
use Rattle.audit_json.specs.Telling.{told_as}
use Rattle.audit_json.specs.declared.telling.Telling.{Telling}

-- what stands before and behind the words: an object has them as a string, in which none of their bytes is escaped
abbrev pub before_words : Telling → List ℕ
before_words telling =
    told_as telling [] (object_kind (codes "error") ++ member_key (codes "text") ++ codes "\"")

abbrev pub behind_words : Telling → List ℕ
behind_words telling = told_as telling (codes "\n") (codes "\"}\n")

abbrev pub said_as : Telling → List ℕ → List ℕ
said_as telling words = before_words telling ++ words ++ behind_words telling

-- that no store of an id holds bytes
abbrev pub no_store_told : Telling → ℕ → List ℕ
no_store_told telling id = said_as telling (codes "no store " ++ decimal id)
