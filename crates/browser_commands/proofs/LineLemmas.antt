-- What a line does.
use Rattle.std.proofs.Common.{◌-◌, ◌==◌, slice_index, Bool, ◌≡◌, ◌≢◌, ℕ, ◌<◌, true, false, Result, Err, List, [], ◌∷◌, length, take, refl, sym, ap, ◌∙◌, arith, inl, inr}
use Rattle.std.proofs.lemmas.Bool.{cond-true, cond-false, cases_Bool}
use Rattle.std.proofs.lemmas.List.{length-take}
use Rattle.hii_commands.specs.Meaning.{cause_meant, cause_of}
use Rattle.hii_commands.specs.declared.command.BadLine.{BadLine}
use Rattle.hii_commands.specs.declared.command.BadLine.TheVariants as bad
use Rattle.browser_rules.specs.Script.{Command, command_of, without_return}
use Rattle.browser_rules.specs.Words as words
use Rattle.hii_commands.specs.declared.limits.TheConstants.{LINE_LIMIT}
use Rattle.hii_bytes.specs.declared.cause.Cause.TheVariants.{LineTooLong}
use Rattle.hii_commands.proofs.ReadingLemmas.{long_line as too_long}
use Rattle.session_steps.specs.Renewed.{Shown, renewed_reading, renewed_text, shown_line}
use Rattle.session_steps.specs.State.{State}
use Rattle.session_steps.specs.Step.{Outcome, accepted, refused, step_reading, step_text, step_line}

pub blank_line : (s : State) (line : List ℕ) → without_return line ≡ [] → step_line s line ≡ accepted s []
blank_line s line blank = ap (step_text s line) blank

text_read : (s : State) (line text : List ℕ) → text ≢ [] → step_text s line text ≡ step_reading s (command_of line)
text_read s line [] some = absurd (some refl)
text_read s line (b ∷ text) some = refl

pub some_line : (line : List ℕ) (blank : Bool) → (without_return line ≡ [] → blank ≡ true) → blank ≡ false → without_return line ≢ []
some_line line blank is_blank not_blank = λ none. let bad : true ≡ false = sym (is_blank none) ∙ not_blank in (cc)

-- a line that is not blank is carried out as it is read
pub line_read : (s : State) (line : List ℕ) (reading : Result Command words.Cause) → without_return line ≢ [] → command_of line ≡ reading → step_line s line ≡ step_reading s reading
line_read s line reading some is = text_read s line (without_return line) some ∙ ap (step_reading s) is

long_is_some : (line : List ℕ) → LINE_LIMIT < length line → without_return line ≢ []
long_is_some line long = λ blank.
    elim (cases_Bool (slice_index line (length line - 1) == 13)) [
      | inl e ↦
          let front : take (length line - 1) line ≡ [] = sym (cond-true _ _ _ e) ∙ blank in
          let none : length (take (length line - 1) line) ≡ 0 = ap length front in
          absurd (omega (arith, none, long, length-take (length line - 1) line))
      | inr e ↦
          let all : line ≡ [] = sym (cond-false _ _ _ e) ∙ blank in
          let none : length line ≡ 0 = ap length all in
          absurd (omega (arith, none, long))
    ]

pub long_line : (s : State) (line : List ℕ) → LINE_LIMIT < length line → step_line s line ≡ refused s LineTooLong
long_line s line long = line_read s line (Err words.LineTooLong) (long_is_some line long) (too_long line long)

-- what a session shows after a line
pub blank_shown : (s : Shown) (line : List ℕ) → without_return line ≡ [] → shown_line s line ≡ s
blank_shown s line blank = ap (λ (text : List ℕ). record { state = (step_text s.state line text).state; renewed = renewed_text s line text }) blank

text_shown : (s : Shown) (line text : List ℕ) → text ≢ [] → renewed_text s line text ≡ renewed_reading s (command_of line)
text_shown s line [] some = absurd (some refl)
text_shown s line (b ∷ text) some = refl

pub line_shown : (s : Shown) (line : List ℕ) (reading : Result Command words.Cause) → without_return line ≢ [] → command_of line ≡ reading
    → shown_line s line ≡ record { state = (step_reading s.state reading).state; renewed = renewed_reading s reading }
line_shown s line reading some is =
    let state = ap (λ (o : Outcome). o.state) (line_read s.state line reading some is) in
    let count = text_shown s line (without_return line) some ∙ ap (renewed_reading s) is in
    rw (state, count) refl

pub long_shown : (s : Shown) (line : List ℕ) → LINE_LIMIT < length line → shown_line s line ≡ s
long_shown s line long = line_shown s line (Err words.LineTooLong) (long_is_some line long) (too_long line long)

-- a line that is no command is refused by its cause, and changes nothing
pub bad_line : (s : State) (line : List ℕ) (why : BadLine) → without_return line ≢ [] → command_of line ≡ Err (cause_meant why) → step_line s line ≡ refused s (cause_of why)
bad_line s line bad.BadCommand some is = line_read s line (Err words.BadCommand) some is
bad_line s line bad.LineTooLong some is = line_read s line (Err words.LineTooLong) some is

pub bad_shown : (s : Shown) (line : List ℕ) (why : BadLine) → without_return line ≢ [] → command_of line ≡ Err (cause_meant why) → shown_line s line ≡ s
bad_shown s line bad.BadCommand some is = line_shown s line (Err words.BadCommand) some is
bad_shown s line bad.LineTooLong some is = line_shown s line (Err words.LineTooLong) some is
