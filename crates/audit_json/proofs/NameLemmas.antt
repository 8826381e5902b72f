-- Names of stores within strings.
use Rattle.std.proofs.Common.{◌≡◌, ◌==◌, ℕ, true, false, List, [], ◌∷◌, map, length, arith, codes, refl}
use Rattle.std.proofs.lemmas.Bool.{eqb-true}
use Rattle.audit_text.specs.Texts.{ascii_name, shown_byte}
use Rattle.audit_json.specs.Json.{escaped}

pub no_name : (name : List ℕ) → (length name == 0) ≡ true → escaped (ascii_name name) ≡ codes "-"
unfolding lib.Utf8.encode
no_name [] none = refl
no_name (byte ∷ name) none = absurd (omega (arith, eqb-true (length (byte ∷ name)) 0 none))

pub some_name : (name : List ℕ) → (length name == 0) ≡ false → escaped (ascii_name name) ≡ escaped (map shown_byte name)
some_name [] some = let bad : true ≡ false = some in absurd cc
some_name (byte ∷ name) some = refl
