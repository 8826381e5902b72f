-- What a script leaves and writes (own rule).
use Rattle.std.specs.Prelude.{◌≡◌, ℕ, ◌+◌, ◌-◌, ◌<◌, ◌≤◌, ◌⊎◌, true, false, List, [], ◌∷◌, ◌++◌, length, take, if◌then◌else◌, Option, Result, Ok, Err}
use Rattle.std.specs.Io.KnownBytes.{Consumes, IsAtEnd}
use Rattle.hii_bytes.specs.Watching.{Pen, Writes, BreaksWithin}
use Rattle.browser_rules.specs.Script.{SCRIPT_LIMIT, cut_lines, is_too_long, lines_run}
use Rattle.browser_rules.specs.Headline.{text_of_lines, text_of_script}
use Rattle.browser_rules.specs.Words.{ScriptTooLong, refused_text}
use Rattle.browser_core.specs.Shown.{Shown, shown_line}
use Rattle.session_steps.specs.declared.reply.End.{End}
use Rattle.session_steps.specs.declared.reply.End.TheVariants.{Done, TooLong}
use Rattle.session_steps.specs.declared.reply.RunFault.{RunFault}
use Rattle.session_steps.specs.declared.reply.RunFault.TheVariants.{Read, Write}

-- what a session shows after these lines
abbrev pub shown_after_lines : Shown → List (List ℕ) → Shown
shown_after_lines shown [] = shown
shown_after_lines shown (line ∷ lines) = shown_after_lines (shown_line shown line) lines

-- the texts of these lines, one after the other
abbrev pub text_of : Shown → List (List ℕ) → List ℕ
text_of shown lines = text_of_lines shown.state lines

-- how a script that is too long is answered, after its lines
abbrev pub too_long_text : List ℕ
too_long_text = refused_text ScriptTooLong

abbrev pub end_of : List ℕ → End
end_of script = if is_too_long script then TooLong else Done

-- what a script leaves, writes and ends with
pub record ScriptOutcome : Type 0 where
  pub shown : Shown
  pub text : List ℕ
  pub end : End

abbrev pub outcome_of : Shown → List ℕ → ScriptOutcome
outcome_of s script = record {
  shown = shown_after_lines s (lines_run script);
  text = text_of_script s.state script;
  end = end_of script;
}

-- ---- how soon lines are carried out

-- the most bytes of a script that are read before the lines in them are carried out
abbrev pub PIECE : ℕ
PIECE = 512

-- how many lines at least were carried out, where these bytes were read: those whose LF stands before the last PIECE of them
abbrev pub lines_due : List ℕ → ℕ
lines_due bytes = length (cut_lines (take (length bytes - PIECE) bytes)).0

-- ---- how a script ends

-- Of these lines some were carried out, so many at least, and then the writer failed: at the answer of the last of them, or as it
-- passed answers on. All texts before that one's were taken whole.
pub record StopsAtLine (start : Shown) (pen : Pen) (due : ℕ) (lines : List (List ℕ)) (now : Shown)
    (new : Pen) : Type 0 where
  pub before : List (List ℕ)
  pub last : List (List ℕ)
  pub later : List (List ℕ)
  pub one : length last ≤ 1
  pub front : lines ≡ (before ++ last) ++ later
  pub soon : due ≤ length (before ++ last)
  pub shown : now ≡ shown_after_lines start (before ++ last)
  pub text : BreaksWithin pen new (text_of start (before ++ last))
  pub all_before : length (text_of start before) ≤ text.part
  pub after_fault : pen.broken ≡ true → text.part ≡ 0

-- All lines were carried out, and the writer failed at the answer that the script is too long, or as it passed that on.
pub record StopsAtLimit (start : Shown) (pen : Pen) (lines : List (List ℕ)) (now : Shown)
    (new : Pen) : Type 0 where
  pub shown : now ≡ shown_after_lines start lines
  pub text : BreaksWithin pen new (text_of start lines ++ too_long_text)
  pub all_before : length (text_of start lines) ≤ text.part
  pub after_fault : pen.broken ≡ true → text.part ≡ 0

-- The script was read to its end, or to the byte past the limit.
pub record Finishes (start : Shown) (pen : Pen) (reader : Option (List ℕ)) (end : End) (now : Shown)
    (new : Pen) (left : Option (List ℕ)) : Type 0 where
  pub script : List ℕ
  pub consumed : Consumes reader left script
  pub few : length script ≤ SCRIPT_LIMIT + 1
  pub end_is : end ≡ (outcome_of start script).end
  pub at_end : end ≡ Done → IsAtEnd left
  pub shown : now ≡ (outcome_of start script).shown
  pub text : Writes pen new (outcome_of start script).text
  pub sound : new.broken ≡ false

-- The reader failed after these bytes. The lines that they end were carried out.
pub record BreaksOff (start : Shown) (pen : Pen) (reader : Option (List ℕ)) (now : Shown)
    (new : Pen) (left : Option (List ℕ)) : Type 0 where
  pub bytes : List ℕ
  pub consumed : Consumes reader left bytes
  pub few : length bytes ≤ SCRIPT_LIMIT
  pub shown : now ≡ shown_after_lines start (cut_lines bytes).0
  pub text : Writes pen new (text_of start (cut_lines bytes).0)
  pub sound : new.broken ≡ false

-- The writer failed after these bytes were read: at a line whose LF stands among them, within the limit; or, where the script ended
-- there, at one of its lines, of which the last needs no LF; or at the answer that they are too many. Each line whose LF stands
-- before the last PIECE bytes was carried out.
pub record Overflows (start : Shown) (pen : Pen) (reader : Option (List ℕ)) (now : Shown)
    (new : Pen) (left : Option (List ℕ)) : Type 0 where
  pub bytes : List ℕ
  pub consumed : Consumes reader left bytes
  pub few : length bytes ≤ SCRIPT_LIMIT + 1
  pub stops : StopsAtLine start pen (lines_due bytes) (cut_lines (take SCRIPT_LIMIT bytes)).0 now new
      ⊎ ((IsAtEnd left × StopsAtLine start pen (lines_due bytes) (lines_run bytes) now new)
      ⊎ ((SCRIPT_LIMIT < length bytes) × StopsAtLimit start pen (lines_run bytes) now new))

abbrev pub Runs : Shown → Pen → Option (List ℕ) → Result End RunFault → Shown → Pen
    → Option (List ℕ) → Type 0
Runs start pen reader (Ok end) now new left = Finishes start pen reader end now new left
Runs start pen reader (Err Read) now new left = BreaksOff start pen reader now new left
Runs start pen reader (Err Write) now new left = Overflows start pen reader now new left
