-- Texts are written character by character.
use Rattle.std.proofs.Common.{◌≡◌, ℕ, ◌-◌, ◌≤◌, leb, List, ◌∷◌, ap, ◌∙◌, arith}
use Rattle.std.specs.Prelude.{encode_utf8}
use Rattle.std.proofs.lemmas.Bool.{cond-true, le-leb}
use Rattle.hii_bytes.specs.Watching.{Pen}
use Rattle.form_page.specs.Texts.{columns, width, utf8, cut_to}
use Rattle.form_page.specs.code.Lines.{Adds}
use Rattle.form_page.specs.declared.line.Line.{Line}
use Rattle.form_page.proofs.LineLemmas.{AddsFront, one_added}

-- one more character is added
pub char_added : (old mid now : Pen) (line longer full : Line) (text left later : List ℕ) (char : ℕ) → left ≡ char ∷ later → AddsFront old mid line longer text (utf8 left)
    → Adds mid longer now full (encode_utf8 char) → AddsFront old now line full text (utf8 later)
char_added old mid now line longer full text left later char e so_far more =
    one_added old mid now line longer full text (utf8 left) (encode_utf8 char) (utf8 later) (ap utf8 e) so_far more

-- a character that there is room for
pub is_cut : (room char : ℕ) (later : List ℕ) → columns char ≤ room → cut_to room (char ∷ later) ≡ char ∷ cut_to (room - columns char) later
is_cut room char later fits = cond-true (leb (columns char) room) _ _ (le-leb (columns char) room fits)

pub cut_added : (old mid now : Pen) (line longer full : Line) (text left later : List ℕ) (room char : ℕ) → left ≡ char ∷ later → columns char ≤ room
    → AddsFront old mid line longer text (utf8 (cut_to room left)) → Adds mid longer now full (encode_utf8 char) → AddsFront old now line full text (utf8 (cut_to (room - columns char) later))
cut_added old mid now line longer full text left later room char e fits so_far more =
    char_added old mid now line longer full text (cut_to room left) (cut_to (room - columns char) later) char (ap (cut_to room) e ∙ is_cut room char later fits) so_far more

-- the columns that are left behind it
pub less_room : (room char : ℕ) (left later : List ℕ) → left ≡ char ∷ later → columns char ≤ room → (room - columns char) - width (cut_to (room - columns char) later) ≡ room - width (cut_to room left)
less_room room char left later e fits = rw (e, is_cut room char later fits) (omega arith)
