-- The image of stores that are filled, behind a line for each (own rule).
use Rattle.std.specs.Prelude.{◌≡◌, ℕ, Bool, true, false, List, Option, Some, None, Result}
use Rattle.hii_bytes.specs.Watching.{Pen, Tells, Writes, pen_of}
use Rattle.hii_bytes.specs.declared.watched.Watched.{Watched}
use Rattle.hii_bytes.specs.declared.writing.WriteFault.{WriteFault}
use Rattle.audit_text.specs.Passing.{PassesOn}
use Rattle.hii_varstore.specs.Image.{image_of}
use Rattle.hii_varstore.specs.Stores.{StoreMap}

-- The image was written, as far as the file took it; where the answers had failed, the file is as it was.
abbrev pub WritesImage : {F : Type 0} → (F → Option (List ℕ)) → StoreMap → Bool → Watched F → Watched F → Type 0
WritesImage contents stores true file file_after = file_after ≡ file
WritesImage contents stores false file file_after =
    (ended : Result Unit WriteFault)
    × Tells (pen_of contents file) (pen_of contents file_after) ended (image_of stores)

-- Where a line refuses a store, it was written, and nothing to the file; else the lines of the stores were passed on, and then their
-- image was written.
abbrev pub PutsImage : {F : Type 0} → (F → Option (List ℕ)) → Option (List ℕ) → StoreMap → List ℕ → Bool → Pen → Pen → Watched F → Watched F → Type 0
PutsImage contents (Some refusal) stores lines is_filled out out_after file file_after =
    (is_filled ≡ false) × Writes out out_after refusal × (file_after ≡ file)
PutsImage contents None stores lines is_filled out out_after file file_after =
    (is_filled ≡ true) × PassesOn out out_after lines
    × WritesImage contents stores out_after.broken file file_after
