-- What a watched reader or writer shows (own rule).
use Rattle.std.specs.Prelude.{◌≡◌, ℕ, ◌<◌, ◌≤◌, ◌+◌, ◌-◌, ◌^◌, min, Bool, true, false, List, length, take, Option, Result, Ok, Err}
use Rattle.std.specs.Io.KnownBytes.{Appends, Keeps}
use Rattle.hii_bytes.specs.declared.watched.Watched.{Watched}
use Rattle.hii_bytes.specs.declared.writing.WriteFault.{WriteFault}

-- the reader or writer that is watched
abbrev pub inner_of : {T : Type 0} → Watched T → T
inner_of w = w.inner

-- whether a read or a write was a fault
abbrev pub has_failed : {T : Type 0} → Watched T → Bool
has_failed w = w.is_failed

-- whether a flush was no fault, and nothing was written since
abbrev pub has_passed_on : {T : Type 0} → Watched T → Bool
has_passed_on w = w.is_passed_on

-- a number below 2^64 after adding b, or 2^64 - 1 where that is more
abbrev pub saturating_sum : ℕ → ℕ → ℕ
saturating_sum a b = a + min b (2 ^ 64 - 1 - a)

-- what a text meets at a writer: the bytes that it holds where they are known, whether it failed, how many bytes it took
pub record Pen : Type 0 where
  pub known : Option (List ℕ)
  pub broken : Bool
  pub count : ℕ

abbrev pub pen_of : {T : Type 0} → (T → Option (List ℕ)) → Watched T → Pen
pen_of contents w = record { known = contents w.inner; broken = w.is_failed; count = w.taken }

-- A text was written as far as the writer took it: whole where it did not fail, else the first `part` bytes.
-- At a writer that had failed before nothing is written.
pub record Writes (old new : Pen) (text : List ℕ) : Type 0 where
  pub part : ℕ
  pub within : part ≤ length text
  pub appended : Appends old.known new.known (take part text)
  pub counted : new.count ≡ saturating_sum old.count part
  pub after_fault : old.broken ≡ true → (part ≡ 0) × (new.broken ≡ true)
  pub whole : new.broken ≡ false → part ≡ length text
  pub short : old.broken ≡ false → new.broken ≡ true → part < length text

-- What a writer held back was passed on, or it failed.
pub record Flushes (old new : Pen) : Type 0 where
  pub kept : Keeps old.known new.known
  pub counted : new.count ≡ old.count
  pub after_fault : old.broken ≡ true → new.broken ≡ true

-- A text was written whole or in part, and then the writer failed.
pub record BreaksWithin (old new : Pen) (text : List ℕ) : Type 0 where
  pub part : ℕ
  pub within : part ≤ length text
  pub appended : Appends old.known new.known (take part text)
  pub counted : new.count ≡ saturating_sum old.count part
  pub broken : new.broken ≡ true

-- A text was put into a watched writer, of which `contents` says what it holds.
abbrev pub Puts : {T : Type 0} → (T → Option (List ℕ)) → Watched T → Watched T → List ℕ → Type 0
Puts contents old new text = Writes (pen_of contents old) (pen_of contents new) text

-- The first bytes of a text were written, as many as the fault says, and the writer has failed.
pub record StopsWithin (old new : Pen) (fault : WriteFault) (text : List ℕ) : Type 0 where
  pub part : ℕ
  pub within : part ≤ length text
  pub appended : Appends old.known new.known (take part text)
  pub written : fault.written ≡ min part (2 ^ 64 - 1)
  pub broken : new.broken ≡ true
  pub short : old.broken ≡ false → part < length text

-- A text was written whole, or its front up to a writer's fault.
abbrev pub Tells : {X : Type 0} → Pen → Pen → Result X WriteFault → List ℕ → Type 0
Tells old new (Ok x) text = Appends old.known new.known text × (new.broken ≡ false)
Tells old new (Err fault) text = StopsWithin old new fault text
