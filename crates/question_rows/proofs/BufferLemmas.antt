-- Texts that are written into memory.
use Rattle.std.proofs.Common.{◌≡◌, ℕ, Bool, false, Some, List, [], refl, sym, subst}
use Rattle.std.specs.Global.{Vec}
use Rattle.hii_bytes.specs.Watching.{Pen, Writes}
use Rattle.hii_bytes.specs.declared.watched.Watched.{Watched}
use Rattle.question_rows.specs.code.Buffers.{Holds, empty, held}

-- a new buffer is empty
started : (items : List ℕ) (failed : Bool) (count : ℕ) → items ≡ [] → failed ≡ false → count ≡ 0 → empty ≡ record { known = Some items; broken = failed; count = count }
started items failed count e f c = rw (e, f, c) refl

-- what was written into it is what it holds
pub into_new : (v w : Watched (Vec ℕ)) (text : List ℕ) → v.inner.items ≡ [] → v.is_failed ≡ false → v.taken ≡ 0 → Writes (held v) (held w) text → Holds w text
into_new v w text e f c written = subst (λ (p : Pen). Writes p (held w) text) (sym (started v.inner.items v.is_failed v.taken e f c)) written
