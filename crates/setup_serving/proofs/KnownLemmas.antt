-- What a run leaves of a script whose bytes are known.
use Rattle.std.proofs.Common.{◌≡◌, ℕ, ◌+◌, ◌-◌, ◌<◌, ◌≤◌, List, [], ◌++◌, length, take, drop, if◌then◌else◌, Option, Some, None, refl, sym, ap, ◌∙◌, subst, append-nil, append_assoc, length-append, arith, inl, inr}
use Rattle.std.proofs.lemmas.Bool.{cond-true, cond-false, cases_lt, lt-ltb, le-ltb}
use Rattle.std.proofs.lemmas.List.{take_all, take_at, drop_at, take-append-le, take-append-drop}
use Rattle.std.proofs.Math.Seq.{take-append-add}
use Rattle.std.specs.Io.KnownBytes.{Consumes, Appends, IsAtEnd}
use Rattle.hii_bytes.specs.Watching.{Pen, BreaksWithin}
use Rattle.hii_bytes.proofs.WritingLemmas.{appended_whole}
use Rattle.browser_rules.specs.Script.{SCRIPT_LIMIT, is_too_long, lines_run}
use Rattle.hii_commands.specs.code.Lines.{whole_lines, rest_of, last_line}
use Rattle.hii_commands.proofs.ScriptLemmas.{whole_lines-front}
use Rattle.browser_core.specs.Shown.{Shown}
use Rattle.browser_core.specs.Run.{shown_after_lines, text_of, outcome_of, too_long_text, ScriptOutcome, lines_due, StopsAtLine, StopsAtLimit, Finishes, BreaksOff, Overflows}
use Rattle.session_steps.specs.declared.reply.End.{End}
use Rattle.session_steps.specs.declared.reply.End.TheVariants.{Done, TooLong}
use Rattle.browser_core.proofs.RunLemmas.{finishes_known, lines_due-run, lines_run_past, outcome_of-front, text_of-append}
use Rattle.setup_files.specs.declared.given.Given.{Given}
use Rattle.setup_serving.specs.Serving.{Ends, IsRead, IsWritten, Starts, RunsAll, StopsReading, StopsAnswering, left_of, with_held}
use Rattle.setup_serving.proofs.RunningLemmas.{is_past}

-- ---- the bytes that were read

-- what is left of known bytes of which the first were read
pub consumed_known : (script bytes : List ℕ) (left : Option (List ℕ)) → Consumes (Some script) left bytes → (rest : List ℕ) × (left ≡ Some rest) × (script ≡ bytes ++ rest)
consumed_known script bytes None h = absurd h
consumed_known script bytes (Some rest) h = (rest, refl, h)

pub read_front : (script bytes rest : List ℕ) → script ≡ bytes ++ rest → take (length bytes) script ≡ bytes
read_front script bytes rest e = ap (take (length bytes)) e ∙ take_at bytes rest (length bytes) refl

read_behind : (script bytes rest : List ℕ) → script ≡ bytes ++ rest → drop (length bytes) script ≡ rest
read_behind script bytes rest e = ap (drop (length bytes)) e ∙ drop_at bytes rest (length bytes) refl

pub is_read : (script bytes rest : List ℕ) (left : Option (List ℕ)) → left ≡ Some rest → script ≡ bytes ++ rest → IsRead script (length bytes) left
is_read script bytes rest left is e = record {
  within = omega (arith, ap length e, length-append bytes rest);
  left_is = is ∙ ap Some (sym (read_behind script bytes rest e));
}

-- ---- a script that is run to an end

left_at_end : (end : End) (start : Shown) (script bytes rest : List ℕ) → script ≡ bytes ++ rest → length bytes ≤ SCRIPT_LIMIT + 1
    → end ≡ (outcome_of start bytes).end → (end ≡ Done → rest ≡ []) → rest ≡ left_of end script
left_at_end Done start script bytes rest e few is at_end = at_end refl
left_at_end TooLong start script bytes rest e few is at_end =
    let past = is_past bytes is in
    let size : length bytes ≡ SCRIPT_LIMIT + 1 = omega (arith, past, few) in
    sym (ap (λ n. drop n script) (sym size) ∙ read_behind script bytes rest e)

at_end_some : (left : Option (List ℕ)) (rest : List ℕ) → left ≡ Some rest → IsAtEnd left → rest ≡ []
at_end_some left rest is at_end = subst IsAtEnd is at_end

-- the whole script was run, and so is the state that it left
pub runs_all : (given : Given) (start now : Shown) (ended : End) (before after : Ends) (script : List ℕ) → Starts given start
    → Finishes start before.answers (Some script) ended now after.answers after.script
    → (run : RunsAll given script ended before after) × (now ≡ (outcome_of run.start script).shown)
runs_all given start now ended before after script starts h =
    let known = finishes_known start now before.answers after.answers ended (Some script) after.script h in
    let read = consumed_known script h.script after.script h.consumed in (
      record {
        start = start;
        starts = starts;
        ends = known.0;
        left = read.1 ∙ ap Some (left_at_end ended start script h.script read.0 read.2 h.few h.end_is (λ done. at_end_some after.script read.0 read.1 (h.at_end done)));
        text = (known.2, h.sound);
      },
      known.1,
    )

-- ---- a reader that fails

pub stops_reading : (given : Given) (start now : Shown) (before after : Ends) (script : List ℕ) → Starts given start
    → BreaksOff start before.answers (Some script) now after.answers after.script → StopsReading given script before after
stops_reading given start now before after script starts h =
    let read = consumed_known script h.bytes after.script h.consumed in
    record {
      start = start;
      starts = starts;
      count = length h.bytes;
      read = is_read script h.bytes read.0 after.script read.1 read.2;
      few = h.few;
      text = subst (λ b. IsWritten before.answers after.answers (text_of start (whole_lines b))) (sym (read_front script h.bytes read.0 read.2)) (appended_whole h.text h.sound, h.sound);
    }

-- ---- answers that fail

-- the front of a longer text
breaks_longer : (pen new : Pen) (text more all : List ℕ) → BreaksWithin pen new text → all ≡ text ++ more → BreaksWithin pen new all
breaks_longer pen new text more all h e = record {
  part = h.part;
  within = omega (arith, h.within, ap length e, length-append text more);
  appended = subst (Appends pen.known new.known) (sym (ap (take h.part) e ∙ take-append-le h.part text more h.within)) h.appended;
  counted = h.counted;
  broken = h.broken;
}

text_of-few : (start : Shown) (n : ℕ) (lines : List (List ℕ)) → length (text_of start (take n lines)) ≤ length (text_of start lines)
text_of-few start n lines =
    let front = take n lines in
    let text : text_of start (front ++ drop n lines) ≡ text_of start front ++ text_of (shown_after_lines start front) (drop n lines) = text_of-append start front (drop n lines) in
    subst (λ l. length (text_of start front) ≤ length (text_of start l)) (take-append-drop n lines)
    (omega (arith, ap length text, length-append (text_of start front) (text_of (shown_after_lines start front) (drop n lines))))

-- the answers of the lines that are due, but of the last
text_due : (start : Shown) (due part : ℕ) (front later all : List (List ℕ)) → all ≡ front ++ later → due ≤ length front + 1 → length (text_of start front) ≤ part
    → length (text_of start (take (due - 1) all)) ≤ part
text_due start due part front later all e few answered =
    let first : take (due - 1) all ≡ take (due - 1) front = ap (take (due - 1)) e ∙ take-append-le (due - 1) front later (omega (arith, few)) in
    omega (arith, ap (λ l. length (text_of start l)) first, text_of-few start (due - 1) front, answered)

-- the first bytes of two pieces begin with those of the first
take_first : (n : ℕ) (xs ys : List ℕ) → (more : List ℕ) × (take n (xs ++ ys) ≡ take n xs ++ more)
take_first n xs ys = elim (cases_lt (length xs) n) [
  | inl less ↦
      let seam : length xs + (n - length xs) ≡ n = omega arith in (
        take (n - length xs) ys,
        ap (λ k. take k (xs ++ ys)) (sym seam) ∙ take-append-add xs ys (n - length xs) ∙ ap (λ l. l ++ take (n - length xs) ys) (sym (take_all n xs (omega arith))),
      )
  | inr more ↦ ([], take-append-le n xs ys more ∙ sym (append-nil (take n xs)))
]

-- the lines of the first bytes are the first that are run
lines_first : (script bytes rest : List ℕ) → script ≡ bytes ++ rest → (later : List (List ℕ)) × (lines_run script ≡ whole_lines (take SCRIPT_LIMIT bytes) ++ later)
lines_first script bytes rest e = elim (cases_lt SCRIPT_LIMIT (length script)) [
  | inl past ↦
      let first = take_first SCRIPT_LIMIT bytes rest in
      let front = whole_lines-front (take SCRIPT_LIMIT bytes) first.0 in (
        front.0,
        cond-true _ _ _ (lt-ltb SCRIPT_LIMIT (length script) past) ∙ ap (λ b. whole_lines (take SCRIPT_LIMIT b)) e ∙ ap whole_lines first.1 ∙ front.1,
      )
  | inr within ↦
      let size : length bytes ≤ SCRIPT_LIMIT = omega (arith, within, ap length e, length-append bytes rest) in
      let all : take SCRIPT_LIMIT bytes ≡ bytes = take_all SCRIPT_LIMIT bytes size in
      let front = whole_lines-front bytes rest in (
        front.0 ++ last_line (rest_of script),
        cond-false _ _ _ (le-ltb SCRIPT_LIMIT (length script) within) ∙ ap (λ b. whole_lines b ++ last_line (rest_of script)) e
            ∙ ap (λ l. l ++ last_line (rest_of script)) front.1 ∙ append_assoc (whole_lines bytes) front.0 (last_line (rest_of script))
            ∙ ap (λ b. whole_lines b ++ (front.0 ++ last_line (rest_of script))) (sym all),
      )
]

-- the front of the text of a script, with the answers of so many of its first lines, but of the last
abbrev BreaksSoon : Shown → Pen → Pen → List ℕ → ℕ → Type 0
BreaksSoon start pen new script due =
    (text : BreaksWithin pen new (outcome_of start script).text) × (length (text_of start (take (due - 1) (lines_run script))) ≤ text.part)

-- the text of the first lines is the front of the text of the script
breaks_line : (start now : Shown) (pen new : Pen) (script : List ℕ) (due : ℕ) (lines later : List (List ℕ)) → lines_run script ≡ lines ++ later → StopsAtLine start pen due lines now new
    → BreaksSoon start pen new script due
unfolding breaks_longer
breaks_line start now pen new script due lines later e h =
    let ran = h.before ++ h.last in
    let others = h.later ++ later in
    let all : lines_run script ≡ ran ++ others = e ∙ ap (λ l. l ++ later) h.front ∙ append_assoc ran h.later later in
    let tail = if is_too_long script then too_long_text else [] in
    let text : text_of start (lines_run script) ≡ text_of start ran ++ text_of (shown_after_lines start ran) others = ap (text_of start) all ∙ text_of-append start ran others in
    let few : due ≤ length h.before + 1 = omega (arith, h.soon, h.one, length-append h.before h.last) in (
      breaks_longer pen new (text_of start ran) (text_of (shown_after_lines start ran) others ++ tail) (outcome_of start script).text h.text
          (ap (λ t. t ++ tail) text ∙ append_assoc (text_of start ran) (text_of (shown_after_lines start ran) others) tail),
      text_due start due h.text.part h.before (h.last ++ others) (lines_run script) (all ∙ append_assoc h.before h.last others) few h.all_before,
    )

at_end_script : (script bytes rest : List ℕ) → script ≡ bytes ++ rest → rest ≡ [] → script ≡ bytes
at_end_script script bytes rest e none = e ∙ ap (λ l. bytes ++ l) none ∙ append-nil bytes

breaks_limit : (start now : Shown) (pen new : Pen) (script bytes rest : List ℕ) → script ≡ bytes ++ rest → SCRIPT_LIMIT < length bytes → length bytes ≤ SCRIPT_LIMIT + 1
    → StopsAtLimit start pen (lines_run bytes) now new → BreaksSoon start pen new script (lines_due bytes)
unfolding breaks_longer
breaks_limit start now pen new script bytes rest e past few h =
    let same : (outcome_of start script).text ≡ (outcome_of start bytes).text = ap (λ (o : ScriptOutcome). o.text) (ap (outcome_of start) e ∙ outcome_of-front start bytes rest past) in
    let long : (outcome_of start bytes).text ≡ text_of start (lines_run bytes) ++ too_long_text = ap (λ b. text_of start (lines_run bytes) ++ (if b then too_long_text else [])) (lt-ltb SCRIPT_LIMIT (length bytes) past) in
    let first = lines_first script bytes rest e in
    let all : lines_run script ≡ lines_run bytes ++ first.0 = first.1 ∙ ap (λ l. l ++ first.0) (sym (lines_run_past bytes past)) in
    let text = text_of start (lines_run bytes) ++ too_long_text in (
      breaks_longer pen new text [] (outcome_of start script).text h.text (same ∙ long ∙ sym (append-nil text)),
      text_due start (lines_due bytes) h.text.part (lines_run bytes) first.0 (lines_run script) all (omega (arith, lines_due-run bytes few)) h.all_before,
    )

answers_front : (start now : Shown) (pen new : Pen) (script : List ℕ) (left : Option (List ℕ)) → (h : Overflows start pen (Some script) now new left)
    → (rest : List ℕ) → left ≡ Some rest → script ≡ h.bytes ++ rest → BreaksSoon start pen new script (lines_due h.bytes)
answers_front start now pen new script left h rest is e = elim h.stops [
  | inl stops ↦
      let first = lines_first script h.bytes rest e in
      breaks_line start now pen new script (lines_due h.bytes) (whole_lines (take SCRIPT_LIMIT h.bytes)) first.0 first.1 stops
  | inr (inl stops) ↦
      let same : script ≡ h.bytes = at_end_script script h.bytes rest e (at_end_some left rest is stops.0) in
      breaks_line start now pen new script (lines_due h.bytes) (lines_run h.bytes) [] (ap lines_run same ∙ sym (append-nil (lines_run h.bytes))) stops.1
  | inr (inr stops) ↦ breaks_limit start now pen new script h.bytes rest e stops.0 h.few stops.1
]

pub stops_answering : (given : Given) (start now : Shown) (before after : Ends) (script : List ℕ) → Starts given start
    → Overflows start before.answers (Some script) now (with_held after) after.script → StopsAnswering given script before after
stops_answering given start now before after script starts h =
    let read = consumed_known script h.bytes after.script h.consumed in
    let breaks = answers_front start now before.answers (with_held after) script after.script h read.0 read.1 read.2 in
    record {
      start = start;
      starts = starts;
      count = length h.bytes;
      read = is_read script h.bytes read.0 after.script read.1 read.2;
      few = h.few;
      text = breaks.0;
      soon = subst (λ b. length (text_of start (take (lines_due b - 1) (lines_run script))) ≤ breaks.0.part) (sym (read_front script h.bytes read.0 read.2)) breaks.1;
    }
