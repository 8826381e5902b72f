-- Lines carried out one after the other.
use Rattle.std.proofs.Common.{length-append, ◌-◌, if◌then◌else◌, Bool, ◌≡◌, ℕ, ◌+◌, ◌<◌, ◌≤◌, true, false, Option, None, Some, IfSome, IfOk, Result, Ok, Err, List, [], ◌∷◌, ◌++◌, length, take, drop, min, refl, sym, ap, ◌∙◌, subst, append-nil, append_assoc, arith, inl, inr}
use Rattle.std.proofs.lemmas.Bool.{cond-true, cond-false, lt-ltb, le-ltb, cases_lt, cases_Bool}
use Rattle.std.proofs.lemmas.List.{take-take, take_all, take-append-drop, length-take, take-append-le}
use Rattle.std.proofs.Math.Seq.{take-append-add}
use Rattle.std.proofs.KnownBytes.{Consumes-nil, Consumes-trans, Consumes-kept, Appends-kept}
use Rattle.std.specs.Io.KnownBytes.{Consumes, Appends, IsAtEnd, Keeps}
use Rattle.hii_bytes.specs.Watching.{Pen, Writes, Flushes}
use Rattle.hii_bytes.proofs.WritingLemmas.{writes_trans, writes_past, writes_nil, appended_whole}
use Rattle.hii_commands.specs.laws.Lines.{IsWithinLine}
use Rattle.hii_commands.specs.code.Held.{Held, held_of}
use Rattle.hii_commands.specs.code.Lines.{whole_lines, rest_of, last_line, lines_of}
use Rattle.browser_rules.specs.Script.{SCRIPT_LIMIT, lines_run}
use Rattle.hii_commands.proofs.ScriptLemmas.{cut-within, cut-ended, whole_lines-front}
use Rattle.browser_core.specs.Shown.{Shown, shown_line}
use Rattle.browser_rules.specs.Session.{step_line}
use Rattle.session_steps.specs.declared.reply.RunFault.{RunFault}
use Rattle.session_steps.specs.declared.reply.End.{End}
use Rattle.session_steps.specs.declared.reply.End.TheVariants.{Done, TooLong}
use Rattle.browser_rules.specs.Headline.{after_lines, text_of_script}
use Rattle.browser_core.specs.Run.{end_of, shown_after_lines, text_of, PIECE, lines_due, StopsAtLine, StopsAtLimit, Runs, Finishes, BreaksOff, Overflows, ScriptOutcome, outcome_of, too_long_text}
use Rattle.browser_core.specs.code.Reading.{Stands}
use Rattle.session_steps.proofs.FlushLemmas.{breaks_flushed, flushes_none, sound_before, writes_flushed}

-- ---- lines, one after the other

pub shown_after_lines-append : (s : Shown) (xs ys : List (List ℕ)) → shown_after_lines s (xs ++ ys) ≡ shown_after_lines (shown_after_lines s xs) ys
shown_after_lines-append s [] ys = refl
shown_after_lines-append s (x ∷ xs) ys = shown_after_lines-append (shown_line s x) xs ys

pub text_of-append : (s : Shown) (xs ys : List (List ℕ)) → text_of s (xs ++ ys) ≡ text_of s xs ++ text_of (shown_after_lines s xs) ys
text_of-append s [] ys = refl
text_of-append s (x ∷ xs) ys = ap (λ t. (step_line s.state x).text ++ t) (text_of-append (shown_line s x) xs ys) ∙ sym (append_assoc (step_line s.state x).text _ _)

-- one more line
text_of-push : (s now : Shown) (xs : List (List ℕ)) (x : List ℕ) → now ≡ shown_after_lines s xs → text_of s (xs ++ x ∷ []) ≡ text_of s xs ++ (step_line now.state x).text
text_of-push s now xs x e = text_of-append s xs (x ∷ []) ∙ ap (λ t. text_of s xs ++ t) (append-nil (step_line (shown_after_lines s xs).state x).text) ∙ ap (λ n. text_of s xs ++ (step_line n.state x).text) (sym e)

shown_after_lines-push : (s now : Shown) (xs : List (List ℕ)) (x : List ℕ) → now ≡ shown_after_lines s xs → shown_after_lines s (xs ++ x ∷ []) ≡ (shown_line now x)
shown_after_lines-push s now xs x e = shown_after_lines-append s xs (x ∷ []) ∙ ap (λ n. (shown_line n x)) (sym e)

-- bytes that end no line
pub stands_within : (start now : Shown) (pen new : Pen) (bytes p : List ℕ) (line after : Held) → Stands start pen bytes now line new → IsWithinLine p
    → ((held : List ℕ) → line ≡ held_of held → after ≡ held_of (held ++ p)) → Stands start pen (bytes ++ p) now after new
stands_within start now pen new bytes p line after h within fed =
    let cut = cut-within bytes p within in
    let whole : whole_lines (bytes ++ p) ≡ whole_lines bytes = ap (λ (c : List (List ℕ) × List ℕ). c.0) cut in
    let rest : rest_of (bytes ++ p) ≡ rest_of bytes ++ p = ap (λ (c : List (List ℕ) × List ℕ). c.1) cut in
    record {
      shown = h.shown ∙ ap (shown_after_lines start) (sym whole);
      text = subst (λ l. Writes pen new (text_of start l)) (sym whole) h.text;
      line_is = fed (rest_of bytes) h.line_is ∙ ap held_of (sym rest);
      sound = h.sound;
    }

-- bytes that end the line, which is run
pub stands_line : (start now stepped : Shown) (pen mid new : Pen) (bytes p : List ℕ) (after : Held) → IsWithinLine p
    → now ≡ shown_after_lines start (whole_lines bytes) → Writes pen mid (text_of start (whole_lines bytes))
    → stepped ≡ shown_line now (rest_of bytes ++ p) → Writes mid new (step_line now.state (rest_of bytes ++ p)).text
    → after ≡ held_of [] → new.broken ≡ false → Stands start pen (bytes ++ (p ++ 10 ∷ [])) stepped after new
stands_line start now stepped pen mid new bytes p after within state text next told cleared sound =
    let cut = cut-ended bytes p within in
    let whole : whole_lines (bytes ++ (p ++ 10 ∷ [])) ≡ whole_lines bytes ++ (rest_of bytes ++ p) ∷ [] = ap (λ (c : List (List ℕ) × List ℕ). c.0) cut in
    let rest : rest_of (bytes ++ (p ++ 10 ∷ [])) ≡ [] = ap (λ (c : List (List ℕ) × List ℕ). c.1) cut in
    record {
      shown = next ∙ sym (ap (shown_after_lines start) whole ∙ shown_after_lines-push start now (whole_lines bytes) (rest_of bytes ++ p) state);
      text = subst (Writes pen new) (sym (ap (text_of start) whole ∙ text_of-push start now (whole_lines bytes) (rest_of bytes ++ p) state)) (writes_trans text told);
      line_is = cleared ∙ ap held_of (sym rest);
      sound = sound;
    }

-- an LF ends the line, after which none has begun
pub rest_of-ended : (bytes front p : List ℕ) → IsWithinLine p → rest_of (bytes ++ (front ++ (p ++ 10 ∷ []))) ≡ []
rest_of-ended bytes front p within =
    ap rest_of (sym (append_assoc bytes front (p ++ 10 ∷ []))) ∙ ap (λ (c : List (List ℕ) × List ℕ). c.1) (cut-ended (bytes ++ front) p within)

-- the answers of a piece are passed on
pub stands_passing : (start now : Shown) (pen mid new : Pen) (bytes : List ℕ) (line : Held) → (mid.broken ≡ false → Stands start pen bytes now line mid) → Flushes mid new
    → new.broken ≡ false → Stands start pen bytes now line new
stands_passing start now pen mid new bytes line stands flushed sound =
    let h = stands (sound_before mid new flushed sound) in
    record { shown = h.shown; text = writes_flushed h.text flushed sound; line_is = h.line_is; sound = sound }

-- ---- the lines that are run

lines_run_within : (script : List ℕ) → length script ≤ SCRIPT_LIMIT → lines_run script ≡ lines_of script
lines_run_within script within = cond-false _ _ _ (le-ltb SCRIPT_LIMIT (length script) within)

pub lines_run_past : (script : List ℕ) → SCRIPT_LIMIT < length script → lines_run script ≡ whole_lines (take SCRIPT_LIMIT script)
lines_run_past script past = cond-true _ _ _ (lt-ltb SCRIPT_LIMIT (length script) past)

-- ---- how soon lines are carried out

-- more bytes end no fewer lines
pub whole_lines-more : (bytes more : List ℕ) → length (whole_lines bytes) ≤ length (whole_lines (bytes ++ more))
whole_lines-more bytes more =
    let front = whole_lines-front bytes more in
    omega (arith, ap length front.1, length-append (whole_lines bytes) front.0)

whole_lines-few : (n : ℕ) (bytes : List ℕ) → length (whole_lines (take n bytes)) ≤ length (whole_lines bytes)
whole_lines-few n bytes =
    subst (λ b. length (whole_lines (take n bytes)) ≤ length (whole_lines b)) (take-append-drop n bytes) (whole_lines-more (take n bytes) (drop n bytes))

-- the lines that are due are among those of all bytes, and among those that are run
pub lines_due-few : (bytes : List ℕ) → lines_due bytes ≤ length (whole_lines bytes)
lines_due-few bytes = whole_lines-few (length bytes - PIECE) bytes

-- the lines that ended before a piece came
lines_due-piece : (bytes piece : List ℕ) → length piece ≤ PIECE → lines_due (bytes ++ piece) ≤ length (whole_lines bytes)
lines_due-piece bytes piece few =
    let n = length (bytes ++ piece) - PIECE in
    let within : n ≤ length bytes = omega (arith, few, length-append bytes piece) in
    subst (λ b. length (whole_lines b) ≤ length (whole_lines bytes)) (sym (take-append-le n bytes piece within)) (whole_lines-few n bytes)

pub lines_due-run : (bytes : List ℕ) → length bytes ≤ SCRIPT_LIMIT + 1 → lines_due bytes ≤ length (lines_run bytes)
lines_due-run bytes few = elim (cases_lt SCRIPT_LIMIT (length bytes)) [
  | inl past ↦
      let n = length bytes - PIECE in
      let front : take n (take SCRIPT_LIMIT bytes) ≡ take n bytes = take-take n SCRIPT_LIMIT bytes (omega (arith, few)) in
      rw (lines_run_past bytes past, ← front) (whole_lines-few n (take SCRIPT_LIMIT bytes))
  | inr within ↦
      let all : lines_run bytes ≡ whole_lines bytes ++ last_line (rest_of bytes) = lines_run_within bytes within in
      omega (arith, ap length all, length-append (whole_lines bytes) (last_line (rest_of bytes)), lines_due-few bytes)
]

-- fewer lines are due
pub stops_sooner : (start now : Shown) (pen new : Pen) (due least : ℕ) (lines : List (List ℕ)) → StopsAtLine start pen due lines now new → least ≤ due → StopsAtLine start pen least lines now new
stops_sooner start now pen new due least lines h few = record {
  before = h.before;
  last = h.last;
  later = h.later;
  one = h.one;
  front = h.front;
  soon = omega (arith, h.soon, few);
  shown = h.shown;
  text = h.text;
  all_before = h.all_before;
  after_fault = h.after_fault;
}

-- ---- a writer that fails at a line

-- the writer fails at one more line or at none, or as it passes on the answers
pub stops_after : (start now stepped : Shown) (pen mid after new : Pen) (before last later : List (List ℕ)) → length last ≤ 1
    → now ≡ shown_after_lines start before → Writes pen mid (text_of start before) → mid.broken ≡ false
    → stepped ≡ shown_after_lines now last → Writes mid after (text_of now last) → Flushes after new → new.broken ≡ true
    → StopsAtLine start pen (length before) ((before ++ last) ++ later) stepped new
stops_after start now stepped pen mid after new before last later one state text was_sound next told flushed broken =
    let both : text_of start (before ++ last) ≡ text_of start before ++ text_of now last = text_of-append start before last ∙ ap (λ n. text_of start before ++ text_of n last) (sym state) in
    let past = writes_past (text_of start before ++ text_of now last) text told was_sound refl in
    let breaks = breaks_flushed (text_of start (before ++ last)) past.0 flushed broken both in
    record {
      before = before;
      last = last;
      later = later;
      one = one;
      front = refl;
      soon = omega (arith, length-append before last);
      shown = next ∙ ap (λ n. shown_after_lines n last) state ∙ sym (shown_after_lines-append start before last);
      text = breaks.0;
      all_before = omega (arith, past.1, breaks.1);
      after_fault = breaks.2;
    }

-- the line at which the writer fails
stops_line : (start now stepped : Shown) (pen mid new : Pen) (lines later : List (List ℕ)) (line : List ℕ)
    → now ≡ shown_after_lines start lines → Writes pen mid (text_of start lines) → mid.broken ≡ false
    → stepped ≡ shown_line now line → Writes mid new (step_line now.state line).text
    → new.broken ≡ true → StopsAtLine start pen (length lines) ((lines ++ line ∷ []) ++ later) stepped new
stops_line start now stepped pen mid new lines later line state text was_sound next told broken =
    stops_after start now stepped pen mid new new lines (line ∷ []) later (omega arith) state text was_sound next
    (subst (Writes mid new) (sym (append-nil (step_line now.state line).text)) told) (flushes_none new) broken

-- the writer fails at a line that a piece ends, with more bytes behind the line
pub stops_piece : (start now stepped : Shown) (pen mid new : Pen) (bytes p more all : List ℕ) → IsWithinLine p
    → now ≡ shown_after_lines start (whole_lines bytes) → Writes pen mid (text_of start (whole_lines bytes)) → mid.broken ≡ false
    → stepped ≡ shown_line now (rest_of bytes ++ p) → Writes mid new (step_line now.state (rest_of bytes ++ p)).text → new.broken ≡ true
    → all ≡ (bytes ++ (p ++ 10 ∷ [])) ++ more → StopsAtLine start pen (length (whole_lines bytes)) (whole_lines all) stepped new
stops_piece start now stepped pen mid new bytes p more all within state text was_sound next told broken e =
    let whole : whole_lines (bytes ++ (p ++ 10 ∷ [])) ≡ whole_lines bytes ++ (rest_of bytes ++ p) ∷ [] = ap (λ (c : List (List ℕ) × List ℕ). c.0) (cut-ended bytes p within) in
    let later = whole_lines-front (bytes ++ (p ++ 10 ∷ [])) more in
    subst (λ l. StopsAtLine start pen (length (whole_lines bytes)) l stepped new) (sym (ap whole_lines e ∙ later.1 ∙ ap (λ l. l ++ later.0) whole))
    (stops_line start now stepped pen mid new (whole_lines bytes) later.0 (rest_of bytes ++ p) state text was_sound next told broken)

-- ---- the whole script

-- what these lines leave and write, and whether more bytes stand behind them
abbrev pub outcome_at : Shown → List (List ℕ) → Bool → ScriptOutcome
outcome_at s lines long = record {
  shown = shown_after_lines s lines;
  text = text_of s lines ++ (if long then too_long_text else []);
  end = if long then TooLong else Done;
}

pub outcome_within : (s : Shown) (script : List ℕ) → length script ≤ SCRIPT_LIMIT
    → outcome_of s script ≡ record { shown = shown_after_lines s (lines_of script); text = text_of s (lines_of script); end = Done }
outcome_within s script within =
    ap (outcome_at s (lines_run script)) (le-ltb SCRIPT_LIMIT (length script) within)
    ∙ ap (λ l. outcome_at s l false) (lines_run_within script within)
    ∙ ap (λ t. record { shown = shown_after_lines s (lines_of script); text = t; end = Done }) (append-nil (text_of s (lines_of script)))

pub outcome_past : (s : Shown) (script : List ℕ) → SCRIPT_LIMIT < length script → outcome_of s script ≡ outcome_at s (whole_lines (take SCRIPT_LIMIT script)) true
outcome_past s script past =
    ap (outcome_at s (lines_run script)) (lt-ltb SCRIPT_LIMIT (length script) past)
    ∙ ap (λ l. outcome_at s l true) (lines_run_past script past)

-- an empty line does nothing
shown_after_lines-last_line : (s : Shown) (rest : List ℕ) → shown_after_lines s (last_line rest) ≡ (shown_line s rest)
shown_after_lines-last_line s [] = refl
shown_after_lines-last_line s (b ∷ rest) = refl

text_of-last_line : (s : Shown) (rest : List ℕ) → text_of s (last_line rest) ≡ (step_line s.state rest).text
text_of-last_line s [] = refl
text_of-last_line s (b ∷ rest) = append-nil _

last_line-few : (rest : List ℕ) → length (last_line rest) ≤ 1
last_line-few [] = omega arith
last_line-few (b ∷ rest) = omega arith

pub stops_flushed : (start now : Shown) (pen mid new : Pen) (due : ℕ) (lines : List (List ℕ)) → StopsAtLine start pen due lines now mid → Flushes mid new → StopsAtLine start pen due lines now new
stops_flushed start now pen mid new due lines h flushed = record {
  before = h.before;
  last = h.last;
  later = h.later;
  one = h.one;
  front = h.front;
  soon = h.soon;
  shown = h.shown;
  text = record {
    part = h.text.part;
    within = h.text.within;
    appended = Appends-kept pen.known mid.known new.known (take h.text.part (text_of start (h.before ++ h.last))) h.text.appended flushed.kept;
    counted = flushed.counted ∙ h.text.counted;
    broken = flushed.after_fault h.text.broken;
  };
  all_before = h.all_before;
  after_fault = h.after_fault;
}

-- the writer fails at the last line, or as it passes on its answer
stops_last : (start now stepped : Shown) (pen mid after new : Pen) (bytes rest : List ℕ)
    → now ≡ shown_after_lines start (whole_lines bytes) → Writes pen mid (text_of start (whole_lines bytes)) → mid.broken ≡ false
    → stepped ≡ shown_line now rest → Writes mid after (step_line now.state rest).text → Flushes after new → new.broken ≡ true
    → StopsAtLine start pen (length (whole_lines bytes)) (whole_lines bytes ++ last_line rest) stepped new
stops_last start now stepped pen mid after new bytes rest state text was_sound next told flushed broken =
    subst (λ l. StopsAtLine start pen (length (whole_lines bytes)) l stepped new) (append-nil (whole_lines bytes ++ last_line rest))
    (stops_after start now stepped pen mid after new (whole_lines bytes) (last_line rest) [] (last_line-few rest) state text was_sound
    (next ∙ sym (shown_after_lines-last_line now rest)) (subst (Writes mid after) (sym (text_of-last_line now rest)) told) flushed broken)

-- the writer fails as it passes on the answers to all of these lines
pub stops_behind : (start now : Shown) (pen mid new : Pen) (due : ℕ) (lines : List (List ℕ)) → due ≤ length lines → now ≡ shown_after_lines start lines → Writes pen mid (text_of start lines)
    → mid.broken ≡ false → Flushes mid new → new.broken ≡ true → StopsAtLine start pen due lines now new
stops_behind start now pen mid new due lines few state text was_sound flushed broken =
    subst (λ l. StopsAtLine start pen due l now new) (append-nil (lines ++ []) ∙ append-nil lines)
    (stops_sooner start now pen new (length lines) due ((lines ++ []) ++ [])
    (stops_after start now now pen mid mid new lines [] [] (omega arith) state text was_sound refl (writes_nil mid) flushed broken) few)

-- the writer fails at a line of a piece, or as it passes on the answers of all of them
pub stops_passing : (start now : Shown) (pen mid new : Pen) (bytes piece : List ℕ) (line : Held) → (mid.broken ≡ false → Stands start pen (bytes ++ piece) now line mid)
    → (mid.broken ≡ true → StopsAtLine start pen (length (whole_lines bytes)) (whole_lines (bytes ++ piece)) now mid) → Flushes mid new → new.broken ≡ true
    → StopsAtLine start pen (length (whole_lines bytes)) (whole_lines (bytes ++ piece)) now new
stops_passing start now pen mid new bytes piece line stands stops flushed broken = elim (cases_Bool mid.broken) [
  | inl was_broken ↦ stops_flushed start now pen mid new (length (whole_lines bytes)) (whole_lines (bytes ++ piece)) (stops was_broken) flushed
  | inr sound ↦
      let h = stands sound in
      stops_behind start now pen mid new (length (whole_lines bytes)) (whole_lines (bytes ++ piece)) (whole_lines-more bytes piece) h.shown h.text sound flushed broken
]

-- the writer fails before the first byte
pub overflows_at_once : (start : Shown) (pen new : Pen) (reader : Option (List ℕ)) → Flushes pen new → new.broken ≡ true → Overflows start pen reader start new reader
overflows_at_once start pen new reader flushed broken =
    let breaks = breaks_flushed [] (writes_nil pen) flushed broken refl in
    record {
      bytes = [];
      consumed = Consumes-nil reader;
      few = omega arith;
      stops = inl (record {
        before = [];
        last = [];
        later = [];
        one = omega arith;
        front = refl;
        soon = omega arith;
        shown = refl;
        text = breaks.0;
        all_before = omega arith;
        after_fault = breaks.2;
      });
    }

-- the reader failed
pub breaks_off : (start now : Shown) (pen new : Pen) (reader left after : Option (List ℕ)) (bytes : List ℕ) (line : Held)
    → Consumes reader left bytes → length bytes ≤ SCRIPT_LIMIT → Stands start pen bytes now line new → Keeps left after → BreaksOff start pen reader now new after
breaks_off start now pen new reader left after bytes line consumed few stands kept = record {
  bytes = bytes;
  consumed = Consumes-kept reader left after bytes consumed kept;
  few = few;
  shown = stands.shown;
  text = stands.text;
  sound = stands.sound;
}

-- the last line is run
pub finishes : (start now stepped : Shown) (pen mid new : Pen) (reader left : Option (List ℕ)) (bytes : List ℕ) (line : Held)
    → Consumes reader left bytes → length bytes ≤ SCRIPT_LIMIT → IsAtEnd left → Stands start pen bytes now line mid
    → stepped ≡ shown_line now (rest_of bytes) → Writes mid new (step_line now.state (rest_of bytes)).text → new.broken ≡ false
    → Finishes start pen reader Done stepped new left
finishes start now stepped pen mid new reader left bytes line consumed few at_end stands next told sound =
    let is = outcome_within start bytes few in
    let whole = whole_lines bytes in
    let last = last_line (rest_of bytes) in
    let state : stepped ≡ shown_after_lines start (whole ++ last) = next ∙ ap (λ s. (shown_line s (rest_of bytes))) stands.shown ∙ sym (shown_after_lines-append start whole last ∙ shown_after_lines-last_line (shown_after_lines start whole) (rest_of bytes)) in
    let text : text_of start (whole ++ last) ≡ text_of start whole ++ (step_line now.state (rest_of bytes)).text =
    text_of-append start whole last ∙ ap (λ t. text_of start whole ++ t) (text_of-last_line (shown_after_lines start whole) (rest_of bytes)) ∙ ap (λ s. text_of start whole ++ (step_line s.state (rest_of bytes)).text) (sym stands.shown) in
    record {
      script = bytes;
      consumed = consumed;
      few = omega arith;
      end_is = sym (ap (λ (o : ScriptOutcome). o.end) is);
      at_end = λ _. at_end;
      shown = state ∙ sym (ap (λ (o : ScriptOutcome). o.shown) is);
      text = subst (Writes pen new) (sym (ap (λ (o : ScriptOutcome). o.text) is ∙ text)) (writes_trans stands.text told);
      sound = sound;
    }

-- the writer fails at the last line, or as it passes on its answer
pub overflows_last : (start now stepped : Shown) (pen mid after new : Pen) (reader left : Option (List ℕ)) (bytes : List ℕ) (line : Held)
    → Consumes reader left bytes → length bytes ≤ SCRIPT_LIMIT → IsAtEnd left → Stands start pen bytes now line mid
    → stepped ≡ shown_line now (rest_of bytes) → Writes mid after (step_line now.state (rest_of bytes)).text → Flushes after new → new.broken ≡ true
    → Overflows start pen reader stepped new left
overflows_last start now stepped pen mid after new reader left bytes line consumed few at_end stands next told flushed broken = record {
  bytes = bytes;
  consumed = consumed;
  few = omega arith;
  stops =
      let stops = stops_last start now stepped pen mid after new bytes (rest_of bytes) stands.shown stands.text stands.sound next told flushed broken in
      inr (inl (
        at_end,
        subst (λ l. StopsAtLine start pen (lines_due bytes) l stepped new) (sym (lines_run_within bytes few))
            (stops_sooner start stepped pen new (length (whole_lines bytes)) (lines_due bytes) (lines_of bytes) stops (lines_due-few bytes)),
      ));
}

-- the part of a read that stands within the limit
read_more : (n limit : ℕ) (bytes buf : List ℕ) → length bytes ≤ limit → take limit (bytes ++ take n buf) ≡ bytes ++ take (min n (limit - length bytes)) buf
read_more n limit bytes buf within =
    let seam : length bytes + (limit - length bytes) ≡ limit = omega arith in
    let front : take limit (bytes ++ take n buf) ≡ bytes ++ take (limit - length bytes) (take n buf) = ap (λ k. take k (bytes ++ take n buf)) (sym seam) ∙ take-append-add bytes (take n buf) (limit - length bytes) in
    elim (cases_lt (limit - length bytes) n) [
      | inl less ↦
          let least : limit - length bytes ≡ min n (limit - length bytes) = omega arith in
          front ∙ ap (λ l. bytes ++ l) (take-take (limit - length bytes) n buf (omega arith) ∙ ap (λ k. take k buf) least)
      | inr more ↦
          let least : n ≡ min n (limit - length bytes) = omega arith in
          let size : length (take n buf) ≤ limit - length bytes = omega (arith, length-take n buf) in
          front ∙ ap (λ l. bytes ++ l) (take_all (limit - length bytes) (take n buf) size ∙ ap (λ k. take k buf) least)
    ]

-- what is read so far, and what the lines in it left
pub record Reads (start : Shown) (pen : Pen) (reader : Option (List ℕ)) (count : ℕ) (now : Shown) (line : Held) (new : Pen) (left : Option (List ℕ)) : Type 0 where
  pub bytes : List ℕ
  pub consumed : Consumes reader left bytes
  pub counted : length bytes ≡ count
  pub few : count ≤ SCRIPT_LIMIT + 1
  pub stands : Stands start pen (take SCRIPT_LIMIT bytes) now line new

pub reads_none : (start : Shown) (pen new : Pen) (reader : Option (List ℕ)) (line : Held) → line ≡ held_of [] → Flushes pen new → new.broken ≡ false → Reads start pen reader 0 start line new reader
reads_none start pen new reader line cleared flushed sound = record {
  bytes = [];
  consumed = Consumes-nil reader;
  counted = refl;
  few = omega arith;
  stands = record { shown = refl; text = writes_flushed (writes_nil pen) flushed sound; line_is = cleared; sound = sound };
}

-- below the limit all that was read stands
pub reads_within : (start now : Shown) (pen new : Pen) (reader left : Option (List ℕ)) (count : ℕ) (line : Held) (h : Reads start pen reader count now line new left) → count ≤ SCRIPT_LIMIT
    → Stands start pen h.bytes now line new
reads_within start now pen new reader left count line h within =
    let all : take SCRIPT_LIMIT h.bytes ≡ h.bytes = take_all SCRIPT_LIMIT h.bytes (omega (arith, h.counted)) in
    subst (λ b. Stands start pen b now line new) all h.stands

pub reads_more : (start now stepped : Shown) (pen mid new : Pen) (reader left after : Option (List ℕ)) (count n part : ℕ) (buf : List ℕ) (line cleared : Held)
    → (h : Reads start pen reader count now line mid left) → count ≤ SCRIPT_LIMIT → n ≤ length buf → count + n ≤ SCRIPT_LIMIT + 1 → part ≡ min n (SCRIPT_LIMIT - count) → Consumes left after (take n buf)
    → Stands start pen (h.bytes ++ take part buf) stepped cleared new → Reads start pen reader (count + n) stepped cleared new after
reads_more start now stepped pen mid new reader left after count n part buf line cleared h within room few least consumed stands = record {
  bytes = h.bytes ++ take n buf;
  consumed = Consumes-trans reader left after h.bytes (take n buf) h.consumed consumed;
  counted = omega (arith, length-append h.bytes (take n buf), length-take n buf, h.counted);
  few = few;
  stands =
      let same : part ≡ min n (SCRIPT_LIMIT - length h.bytes) = omega (arith, h.counted, least) in
      let size : length h.bytes ≤ SCRIPT_LIMIT = omega (arith, h.counted) in
      subst (λ b. Stands start pen b stepped cleared new) (ap (λ k. h.bytes ++ take k buf) same ∙ sym (read_more n SCRIPT_LIMIT h.bytes buf size)) stands;
}

pub overflows_piece : (start now stepped : Shown) (pen mid new : Pen) (reader left after : Option (List ℕ)) (count n part : ℕ) (buf : List ℕ) (line : Held)
    → (h : Reads start pen reader count now line mid left) → count ≤ SCRIPT_LIMIT → n ≤ length buf → count + n ≤ SCRIPT_LIMIT + 1 → n ≤ PIECE → part ≡ min n (SCRIPT_LIMIT - count) → Consumes left after (take n buf)
    → StopsAtLine start pen (length (whole_lines h.bytes)) (whole_lines (h.bytes ++ take part buf)) stepped new → Overflows start pen reader stepped new after
overflows_piece start now stepped pen mid new reader left after count n part buf line h within room few one least consumed stops =
    let all = h.bytes ++ take n buf in
    let counted : length all ≡ count + n = omega (arith, length-append h.bytes (take n buf), length-take n buf, h.counted) in
    let same : part ≡ min n (SCRIPT_LIMIT - length h.bytes) = omega (arith, h.counted, least) in
    let size : length h.bytes ≤ SCRIPT_LIMIT = omega (arith, h.counted) in
    record {
      bytes = all;
      consumed = Consumes-trans reader left after h.bytes (take n buf) h.consumed consumed;
      few = omega (arith, counted);
      stops =
          let due = lines_due-piece h.bytes (take n buf) (omega (arith, one, length-take n buf)) in
          let lines = whole_lines (h.bytes ++ take part buf) in
          inl (subst (λ b. StopsAtLine start pen (lines_due all) (whole_lines b) stepped new) (ap (λ k. h.bytes ++ take k buf) same ∙ sym (read_more n SCRIPT_LIMIT h.bytes buf size))
          (stops_sooner start stepped pen new (length (whole_lines h.bytes)) (lines_due all) lines stops due));
    }

-- past the limit
pub finishes_past : (start now : Shown) (pen mid new : Pen) (reader left : Option (List ℕ)) (count : ℕ) (line : Held)
    → (h : Reads start pen reader count now line mid left) → SCRIPT_LIMIT < count → Writes mid new too_long_text → new.broken ≡ false → Finishes start pen reader TooLong now new left
finishes_past start now pen mid new reader left count line h past told sound =
    let long : SCRIPT_LIMIT < length h.bytes = omega (arith, h.counted) in
    let is = outcome_past start h.bytes long in
    record {
      script = h.bytes;
      consumed = h.consumed;
      few = omega (arith, h.counted, h.few);
      end_is = sym (ap (λ (o : ScriptOutcome). o.end) is);
      at_end = λ e. let bad : TooLong ≡ Done = e in (cc);
      shown = h.stands.shown ∙ sym (ap (λ (o : ScriptOutcome). o.shown) is);
      text = subst (Writes pen new) (sym (ap (λ (o : ScriptOutcome). o.text) is)) (writes_trans h.stands.text told);
      sound = sound;
    }

pub overflows_past : (start now : Shown) (pen mid after new : Pen) (reader left : Option (List ℕ)) (count : ℕ) (line : Held)
    → (h : Reads start pen reader count now line mid left) → SCRIPT_LIMIT < count → Writes mid after too_long_text → Flushes after new → new.broken ≡ true → Overflows start pen reader now new left
overflows_past start now pen mid after new reader left count line h past told flushed broken =
    let long : SCRIPT_LIMIT < length h.bytes = omega (arith, h.counted) in
    let text = text_of start (whole_lines (take SCRIPT_LIMIT h.bytes)) ++ too_long_text in
    let beyond = writes_past text h.stands.text told h.stands.sound refl in
    let breaks = breaks_flushed text beyond.0 flushed broken refl in
    record {
      bytes = h.bytes;
      consumed = h.consumed;
      few = omega (arith, h.counted, h.few);
      stops = inr (inr (
        long,
        subst (λ l. StopsAtLimit start pen l now new) (sym (lines_run_past h.bytes long)) (record {
          shown = h.stands.shown;
          text = breaks.0;
          all_before = omega (arith, beyond.1, breaks.1);
          after_fault = breaks.2;
        }),
      ));
    }

-- a read of no bytes
pub consumes_none : (reader left after : Option (List ℕ)) (bytes buf : List ℕ) (n : ℕ) → Consumes reader left bytes → Consumes left after (take n buf) → n ≡ 0 → Consumes reader after bytes
consumes_none reader left after bytes buf n consumed nothing e =
    subst (Consumes reader after) (ap (λ k. bytes ++ take k buf) e ∙ append-nil bytes) (Consumes-trans reader left after bytes (take n buf) consumed nothing)

-- past the limit nothing more counts
pub outcome_of-front : (s : Shown) (script more : List ℕ) → SCRIPT_LIMIT < length script → outcome_of s (script ++ more) ≡ outcome_of s script
outcome_of-front s script more past =
    let both : SCRIPT_LIMIT < length (script ++ more) = omega (arith, length-append script more) in
    let front : take SCRIPT_LIMIT (script ++ more) ≡ take SCRIPT_LIMIT script = take-append-le SCRIPT_LIMIT script more (omega arith) in
    outcome_past s (script ++ more) both ∙ ap (λ b. outcome_at s (whole_lines b) true) front ∙ sym (outcome_past s script past)

outcome_of_all : (s : Shown) (xs script ys : List ℕ) (end : End) → xs ≡ script ++ ys → end ≡ (outcome_of s script).end → (end ≡ Done → ys ≡ []) → outcome_of s xs ≡ outcome_of s script
outcome_of_all s xs script ys end e is at_end = elim (cases_lt SCRIPT_LIMIT (length script)) [
  | inl past ↦ ap (outcome_of s) e ∙ outcome_of-front s script ys past
  | inr within ↦
      let done : end ≡ Done = is ∙ ap (λ (o : ScriptOutcome). o.end) (outcome_within s script within) in
      ap (outcome_of s) (e ∙ ap (λ l. script ++ l) (at_end done) ∙ append-nil script)
]

-- where the reader's bytes are known, the run is the outcome of all of them
pub finishes_known : (start now : Shown) (pen new : Pen) (end : End) (reader left : Option (List ℕ)) → Finishes start pen reader end now new left
    → IfSome reader (λ script. (end ≡ (outcome_of start script).end) × (now ≡ (outcome_of start script).shown) × Appends pen.known new.known (outcome_of start script).text)
finishes_known start now pen new end None left h = tt
finishes_known start now pen new end (Some xs) None h = absurd h.consumed
finishes_known start now pen new end (Some xs) (Some ys) h =
    let same = outcome_of_all start xs h.script ys end h.consumed h.end_is h.at_end in
    (h.end_is ∙ sym (ap (λ (o : ScriptOutcome). o.end) same), h.shown ∙ sym (ap (λ (o : ScriptOutcome). o.shown) same), subst (Appends pen.known new.known) (sym (ap (λ (o : ScriptOutcome). o.text) same)) (appended_whole h.text h.sound))

state_after : (shown : Shown) (lines : List (List ℕ)) → (shown_after_lines shown lines).state ≡ after_lines shown.state lines
state_after shown [] = refl
state_after shown (line ∷ lines) = state_after (shown_line shown line) lines

pub runs_known : (start now : Shown) (pen new : Pen) (result : Result End RunFault) (reader left : Option (List ℕ)) → Runs start pen reader result now new left
    → IfSome reader (λ script. IfOk result (λ end. (end ≡ end_of script) × (now.state ≡ after_lines start.state (lines_run script)) × Appends pen.known new.known (text_of_script start.state script)))
runs_known start now pen new (Ok end) None left h = tt
runs_known start now pen new (Ok end) (Some xs) left h =
    let known = finishes_known start now pen new end (Some xs) left h in
    (known.0, ap (λ (shown : Shown). shown.state) known.1 ∙ state_after start (lines_run xs), known.2)
runs_known start now pen new (Err e) None left h = tt
runs_known start now pen new (Err e) (Some xs) left h = tt
