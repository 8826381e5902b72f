-- What a run leaves where its reader or a writer fails (own rule): a promise of its own, which the headline needs not.
use Rattle.std.specs.Prelude.{ℕ, Bool, true, false, ◌≡◌, ◌⊎◌, ◌+◌, ◌-◌, ◌≤◌, List, [], ◌∷◌, ◌++◌, length, take}
use Rattle.std.specs.Prelude.{if◌then◌else◌, Some, None}
use Rattle.std.specs.List.{concat}
use Rattle.browser_rules.specs.Words.{ScriptTooLong, OutOfMemory, refused_text, refused_at_text}
use Rattle.browser_rules.specs.Stores.{Stores}
use Rattle.browser_rules.specs.Script.{SCRIPT_LIMIT, cut_lines, is_too_long, lines_run}
use Rattle.browser_rules.specs.Session.{State, step_line}
use Rattle.browser_rules.specs.Faults.{Fault, IsLeast, open_faults}
use Rattle.browser_rules.specs.Headline.{Given, Served, Ended, ReadScript, WriteAnswers, WriteImage, begins, IsOpen}
use Rattle.browser_rules.specs.Headline.{image_left, after_lines, text_of_lines, text_of_script}

-- The first bytes of a text were written, maybe all.
pub record IsPartOf (text written : List ℕ) : Type 0 where
  pub part : ℕ
  pub within : part ≤ length text
  pub are : written ≡ take part text

-- the answers to lines, one by one
abbrev pub answers_from : State → List (List ℕ) → List (List ℕ)
answers_from s [] = []
answers_from s (line ∷ lines) = (step_line s line).text ∷ answers_from (step_line s line).state lines

-- the lines in what was read of a script, which may end there; the answers to these, that it is too long being one
abbrev pub lines_in : Bool → List ℕ → List (List ℕ)
lines_in has_ended read = if has_ended then lines_run read else (cut_lines (take SCRIPT_LIMIT read)).0

abbrev pub answers_in : State → Bool → List ℕ → List (List ℕ)
answers_in s has_ended read =
    answers_from s (lines_in has_ended read) ++ (if is_too_long read then refused_text ScriptTooLong ∷ [] else [])

-- The reader failed behind these bytes: the lines whose LF is among them were carried out, and answered.
pub record AtReadFault (s : State) (read : List ℕ) (left : State) (written : List ℕ) : Type 0 where
  pub few : length read ≤ SCRIPT_LIMIT
  pub state : left ≡ after_lines s (cut_lines read).0
  pub answers : written ≡ text_of_lines s (cut_lines read).0

-- The writer failed behind these bytes: so many lines were carried out, those among them whose LF stands before the
-- last 512 bytes that were read; and of their answers all but the last are written, or its front too.
pub record AtWriteFault (s : State) (has_ended : Bool) (read : List ℕ) (left : State) (written : List ℕ) : Type 0 where
  pub few : length read ≤ SCRIPT_LIMIT + 1
  pub lines : ℕ
  pub soon : length (cut_lines (take (length read - 512) read)).0 ≤ lines
  pub state : left ≡ after_lines s (take lines (lines_in has_ended read))
  pub part : IsPartOf (concat (take lines (answers_in s has_ended read))) written
  pub all_before : length (concat (take (lines - 1) (answers_in s has_ended read))) ≤ length written

-- ---- the program: over what it was given, where so many bytes of the script were read

abbrev pub BeginsRefusal : Given → List ℕ → Type 0
BeginsRefusal given written =
    IsPartOf (refused_text OutOfMemory) written
    ⊎ ((fault : Fault) × IsLeast (open_faults given.list given.number given.image) fault
    × IsPartOf (refused_at_text fault.cause fault.place) written)

abbrev pub Leaves : Given → ℕ → Served → Ended → Type 0
Leaves given read served ReadScript =
    (stores : Stores) × (left : State) × IsOpen given stores
    × AtReadFault (begins given stores) (take read given.script) left served.answers × (served.image ≡ None)
Leaves given read served WriteAnswers =
    (served.image ≡ None)
    × (BeginsRefusal given served.answers
    ⊎ ((stores : Stores) × (left : State) × (has_ended : Bool) × IsOpen given stores
    × (has_ended ≡ true → length given.script ≤ read)
    × AtWriteFault (begins given stores) has_ended (take read given.script) left served.answers))
Leaves given read served WriteImage =
    (stores : Stores) × (written : List ℕ) × IsOpen given stores × (is_too_long given.script ≡ false)
    × (served.answers ≡ text_of_script (begins given stores) given.script)
    × IsPartOf (image_left given stores) written × (served.image ≡ Some written)
Leaves given read served _ = ⊥
