-- The lines of a script are run one after the other.
use Rattle.std.proofs.Common.{◌≡◌, ◌≢◌, ℕ, ◌+◌, ◌≤◌, true, false, Option, Some, None, Ok, List, [], ◌∷◌, ◌++◌, length, refl, sym, ap, ◌∙◌, inl, inr, append_assoc}
use Rattle.std.specs.Borrow.{Bor}
use Rattle.std.specs.Prelude.{MatchOption, filter}
use Rattle.std.proofs.lemmas.Bool.{cases_Bool}
use Rattle.browser_rules.specs.Script.{Command, command_of, without_return}
use Rattle.guard_policy.specs.declared.conditions.Conditions.{Ghosts}
use Rattle.form_page.specs.code.PageViews as pages
use Rattle.form_page.specs.declared.page.Page.{Page}
use Rattle.audit_json.specs.declared.telling.Telling.{Telling}
use Rattle.session_steps.specs.State.{State, texts, world_of}
use Rattle.session_steps.specs.Step.{step_line}
use Rattle.session_steps.specs.declared.reply.Reply.{Reply}
use Rattle.session_steps.specs.declared.reply.Reply.TheVariants.{Accepted, Denied, Refused}
use Rattle.script_audit.specs.Script.{Line, all_lines, is_passed_over, is_run, lines_from, numbered}
use Rattle.script_audit.specs.Values.{Seen}
use Rattle.script_audit.specs.Walk.{Stop, behind_text, is_accepted, line_warnings, seen, walk, warnings_behind, warnings_read, warnings_text}
use Rattle.script_audit.specs.code.LinesLeft.{line_run, lines_left}
use Rattle.script_audit.specs.code.Pages.{seen_in}

-- lines that are all answered with OK, and others behind them
pub walk_on : (t : Telling) (s : State) (xs ys : List Line) → (walk t s xs).stop ≡ None → walk t s (xs ++ ys) ≡ behind_text (walk t s xs).told (walk t (walk t s xs).state ys)
walk_on t s [] ys e = refl
walk_on t s (x ∷ xs) ys e = elim (cases_Bool (is_accepted (step_line s x.bytes).reply)) [
  | inl is ↦
      let after = (step_line s x.bytes).state in
      let said = line_warnings t (seen after) x in
      let first = walk t after xs in
      let later = walk t first.state ys in
      let more = walk_on t after xs ys (rw is at e) in
      rw is (ap (behind_text said) more ∙ ap (λ (told : List ℕ). record { told = told; state = later.state; stop = later.stop }) (sym (append_assoc said first.told later.told)))
  | inr not ↦ absurd (none (rw not at e))
]
  where
    none : {p : Stop} → Some p ≡ None → ⊥
    none h = cc

-- behind a line that is not nothing is run
pub walk_stops : (t : Telling) (s : State) (xs ys : List Line) (p : Stop) → (walk t s xs).stop ≡ Some p → walk t s (xs ++ ys) ≡ walk t s xs
walk_stops t s [] ys p e = absurd cc
walk_stops t s (x ∷ xs) ys p e = elim (cases_Bool (is_accepted (step_line s x.bytes).reply)) [
  | inl is ↦
      let after = (step_line s x.bytes).state in
      rw is (ap (behind_text (line_warnings t (seen after) x)) (walk_stops t after xs ys p (rw is at e)))
  | inr not ↦ rw not refl
]

one_more : (line : Line) (lines : List Line) → filter is_run (line ∷ lines) ≡ filter is_run (line ∷ []) ++ filter is_run lines
one_more line lines = elim (cases_Bool (is_run line)) [ inl is ↦ rw is refl | inr not ↦ rw not refl ]

-- the first line of a text, and those behind it
pub first_line : (n : ℕ) (text line : List ℕ) (behind : Option (Bor (List ℕ)))
    → MatchOption behind (all_lines text ≡ line ∷ []) (λ rest. (all_lines text ≡ line ∷ all_lines rest.now) × (length rest.now + 1 ≤ length text))
    → lines_from n text ≡ line_run n line ++ lines_left (n + 1) behind
first_line n text line None m = ap (λ (lines : List (List ℕ)). filter is_run (numbered n lines)) m ∙ one_more (record { number = n; bytes = line }) []
first_line n text line (Some rest) m = ap (λ (lines : List (List ℕ)). filter is_run (numbered n lines)) m.0 ∙ one_more (record { number = n; bytes = line }) (numbered (n + 1) (all_lines rest.now))

-- ---- one line

pub not_accepted : (reply : Reply) → (reply ≡ Accepted → ⊥) → is_accepted reply ≡ false
not_accepted Accepted h = absurd (h refl)
not_accepted (Denied denial) h = refl
not_accepted (Refused cause) h = refl

pub passed_over : (n : ℕ) (bytes : List ℕ) → is_passed_over bytes ≡ true → line_run n bytes ≡ []
passed_over n bytes e = rw e refl

pub run_alone : (n : ℕ) (bytes : List ℕ) → is_passed_over bytes ≡ false → line_run n bytes ≡ record { number = n; bytes = bytes } ∷ []
run_alone n bytes e = rw e refl

pub one_accepted : (t : Telling) (s : State) (line : Line) → is_accepted (step_line s line.bytes).reply ≡ true
    → walk t s (line ∷ []) ≡ record { told = line_warnings t (seen (step_line s line.bytes).state) line ++ []; state = (step_line s line.bytes).state; stop = None }
one_accepted t s line is = rw is refl

pub one_stopped : (t : Telling) (s : State) (line : Line) → is_accepted (step_line s line.bytes).reply ≡ false
    → walk t s (line ∷ []) ≡ record { told = []; state = (step_line s line.bytes).state; stop = Some record { line = line; reply = (step_line s line.bytes).reply } }
one_stopped t s line not = rw not refl

-- ---- warnings

-- what a page of a session shows is what is seen of the session
pub page_seen : {C : Type 0} {g : Ghosts C} (page : Page C g) (s : State) → pages.texts_of page ≡ texts s → pages.world_of page ≡ world_of s → page.stores.now ≡ s.working → seen_in page ≡ seen s
page_seen page s its_texts its_world its_stores = rw (its_texts, its_world, its_stores) refl

-- an empty line warns of nothing
pub blank_warnings : (t : Telling) (n : ℕ) (a : Seen) (line : List ℕ) → without_return line ≡ [] → warnings_text t n a line (without_return line) ≡ []
blank_warnings t n a line blank = ap (warnings_text t n a line) blank

text_warnings : (t : Telling) (n : ℕ) (a : Seen) (line text : List ℕ) → text ≢ [] → warnings_text t n a line text ≡ warnings_read t n a (command_of line)
text_warnings t n a line [] some = absurd (some refl)
text_warnings t n a line (byte ∷ text) some = refl

-- another one of that of which its command does
pub command_warnings : (t : Telling) (n : ℕ) (a : Seen) (line : List ℕ) (command : Command) → without_return line ≢ [] → command_of line ≡ Ok command
    → warnings_text t n a line (without_return line) ≡ warnings_behind t n a command
command_warnings t n a line command some is = text_warnings t n a line (without_return line) some ∙ ap (warnings_read t n a) is
