-- Answers that fail leave what the chapter AtFault says.
use Rattle.std.proofs.Common.{◌≡◌, ℕ, zero, suc, ◌+◌, ◌-◌, ◌<◌, ◌≤◌, Bool, true, false, List, [], ◌∷◌, ◌++◌, length, take, drop, if◌then◌else◌, Option, Some, None, IfSome, refl, sym, ap, ◌∙◌, subst, append-nil, append_assoc, length-append, arith, inl, inr}
use Rattle.std.specs.List.{concat}
use Rattle.std.specs.Io.KnownBytes.{Appends, IsAtEnd}
use Rattle.std.proofs.lemmas.Bool.{lt-ltb}
use Rattle.std.proofs.lemmas.List.{length-take, take_all}
use Rattle.hii_bytes.specs.Watching.{Pen}
use Rattle.browser_rules.specs.AtFault.{AtWriteFault, IsPartOf, answers_from, answers_in, lines_in}
use Rattle.browser_rules.specs.Headline as chapter
use Rattle.browser_rules.specs.Headline.{IsOpen, after_lines, text_of_lines, text_of_script}
use Rattle.browser_rules.specs.Script.{SCRIPT_LIMIT, cut_lines, is_too_long, lines_run}
use Rattle.browser_rules.specs.Session.{State, step_line}
use Rattle.browser_rules.specs.Words.{ScriptTooLong, refused_text}
use Rattle.session_steps.specs.declared.reply.End.TheVariants as end
use Rattle.browser_core.specs.Opening.{Opens}
use Rattle.browser_core.specs.Run.{BreaksOff, Overflows, StopsAtLimit, StopsAtLine, lines_due, outcome_of, text_of}
use Rattle.browser_core.specs.Shown.{Shown}
use Rattle.browser_core.proofs.RunLemmas.{lines_due-run, lines_run_past}
use Rattle.setup_files.specs.declared.given.Given.{Given}
use Rattle.setup_serving.specs.AtFault.{IsBroken, LeavesBytes}
use Rattle.setup_serving.specs.Headline.{given_for}
use Rattle.setup_serving.specs.Serving.{Ends, FailsAtOnce, FailsWithin, RunsAll, RunLeaves, Starts, StopsReading, image_submitted, with_held}
use Rattle.setup_serving.specs.declared.serving.Ended.{Ended}
use Rattle.setup_serving.specs.declared.serving.Ended.TheVariants.{Done, Refused, ReadScript, WriteAnswers, WriteOut, NoMemory}
use Rattle.setup_serving.proofs.HeadlineLemmas.{image_same, is_done, state_after}
use Rattle.setup_serving.proofs.KnownLemmas.{consumed_known, is_read, read_front, stops_reading}
use Rattle.setup_serving.proofs.ServingLemmas.{if_known, of_finished}

-- ---- answers, one by one

answers_text : (s : State) (lines : List (List ℕ)) → concat (answers_from s lines) ≡ text_of_lines s lines
answers_text s [] = refl
answers_text s (line ∷ lines) = ap (λ (text : List ℕ). (step_line s line).text ++ text) (answers_text (step_line s line).state lines)

answers_front : (s : State) (xs ys : List (List ℕ)) (more : List (List ℕ)) → take (length xs) (answers_from s (xs ++ ys) ++ more) ≡ answers_from s xs
answers_front s [] ys more = refl
answers_front s (x ∷ xs) ys more = ap (λ (l : List (List ℕ)). (step_line s x).text ∷ l) (answers_front (step_line s x).state xs ys more)

answers_count : (s : State) (lines : List (List ℕ)) → length (answers_from s lines) ≡ length lines
answers_count s [] = refl
answers_count s (line ∷ lines) = ap suc (answers_count (step_line s line).state lines)

lines_front : (xs ys : List (List ℕ)) → take (length xs) (xs ++ ys) ≡ xs
lines_front [] ys = refl
lines_front (x ∷ xs) ys = ap (λ (l : List (List ℕ)). x ∷ l) (lines_front xs ys)

-- the text of fewer answers is no longer
fewer : (m n : ℕ) (xs : List (List ℕ)) → m ≤ n → length (concat (take m xs)) ≤ length (concat (take n xs))
fewer zero n xs less = omega arith
fewer (suc m) zero xs less = absurd (omega (arith, less))
fewer (suc m) (suc n) [] less = omega arith
fewer (suc m) (suc n) (x ∷ xs) less =
    let rest : length (concat (take m xs)) ≤ length (concat (take n xs)) = fewer m n xs (omega (arith, less)) in
    omega (arith, rest, length-append x (concat (take m xs)), length-append x (concat (take n xs)))

-- ---- a writer that fails at a line

-- what was written of a text
part_length : (part : ℕ) (text : List ℕ) → part ≤ length text → length (take part text) ≡ part
part_length part text within = omega (arith, length-take part text, within)

stops_line : (start now : Shown) (pen new : Pen) (due : ℕ) (has_ended : Bool) (read : List ℕ) (lines : List (List ℕ)) → length read ≤ SCRIPT_LIMIT + 1 → lines_in has_ended read ≡ lines
    → length (cut_lines (take (length read - 512) read)).0 ≤ due → (h : StopsAtLine start pen due lines now new)
    → AtWriteFault start.state has_ended read now.state (take h.text.part (text_of start (h.before ++ h.last)))
stops_line start now pen new due has_ended read lines few are late h =
    let ran = h.before ++ h.last in
    let more = if is_too_long read then refused_text ScriptTooLong ∷ [] else [] in
    let written = take h.text.part (text_of start ran) in
    let all : answers_in start.state has_ended read ≡ answers_from start.state (ran ++ h.later) ++ more = ap (λ (l : List (List ℕ)). answers_from start.state l ++ more) (are ∙ h.front) in
    let told : concat (take (length ran) (answers_in start.state has_ended read)) ≡ text_of start ran =
    ap (λ (l : List (List ℕ)). concat (take (length ran) l)) all ∙ ap concat (answers_front start.state ran h.later more) ∙ answers_text start.state ran in
    let front : concat (take (length h.before) (answers_in start.state has_ended read)) ≡ text_of start h.before =
    ap (λ (l : List (List ℕ)). concat (take (length h.before) l)) (all ∙ ap (λ (l : List (List ℕ)). answers_from start.state l ++ more) (append_assoc h.before h.last h.later))
    ∙ ap concat (answers_front start.state h.before (h.last ++ h.later) more) ∙ answers_text start.state h.before in
    record {
      few = few;
      lines = length ran;
      soon = omega (arith, late, h.soon);
      state = ap (λ (shown : Shown). shown.state) h.shown ∙ state_after start ran ∙ ap (after_lines start.state) (sym (ap (take (length ran)) (are ∙ h.front) ∙ lines_front ran h.later));
      part = subst (λ (text : List ℕ). IsPartOf text written) (sym told) (record { part = h.text.part; within = h.text.within; are = refl });
      all_before = omega (arith, fewer (length ran - 1) (length h.before) (answers_in start.state has_ended read) (omega (arith, h.one, length-append h.before h.last)), ap length front, h.all_before, part_length h.text.part (text_of start ran) h.text.within);
    }

-- ---- a writer that fails at the limit

stops_limit : (start now : Shown) (pen new : Pen) (read : List ℕ) → length read ≤ SCRIPT_LIMIT + 1 → SCRIPT_LIMIT < length read → (h : StopsAtLimit start pen (lines_run read) now new)
    → AtWriteFault start.state false read now.state (take h.text.part (text_of start (lines_run read) ++ refused_text ScriptTooLong))
stops_limit start now pen new read few past h =
    let lines = lines_run read in
    let text = text_of start lines ++ refused_text ScriptTooLong in
    let written = take h.text.part text in
    let are : lines_in false read ≡ lines = sym (lines_run_past read past) in
    let all : answers_in start.state false read ≡ answers_from start.state lines ++ refused_text ScriptTooLong ∷ [] =
    ap (λ (l : List (List ℕ)). answers_from start.state l ++ (if is_too_long read then refused_text ScriptTooLong ∷ [] else [])) are
    ∙ ap (λ (b : Bool). answers_from start.state lines ++ (if b then refused_text ScriptTooLong ∷ [] else [])) (lt-ltb SCRIPT_LIMIT (length read) past) in
    let count : length (answers_in start.state false read) ≡ length lines + 1 =
    ap length all ∙ length-append (answers_from start.state lines) (refused_text ScriptTooLong ∷ []) ∙ ap (λ (n : ℕ). n + 1) (answers_count start.state lines) in
    let told : concat (take (length lines + 1) (answers_in start.state false read)) ≡ text =
    ap concat (take_all (length lines + 1) (answers_in start.state false read) (omega (arith, count))) ∙ ap concat all ∙ concat_last (answers_from start.state lines) (refused_text ScriptTooLong)
    ∙ ap (λ (l : List ℕ). l ++ refused_text ScriptTooLong) (answers_text start.state lines) in
    let front : concat (take (length lines) (answers_in start.state false read)) ≡ text_of start lines =
    ap (λ (l : List (List ℕ)). concat (take (length lines) l)) (all ∙ ap (λ (l : List (List ℕ)). answers_from start.state l ++ refused_text ScriptTooLong ∷ []) (sym (append-nil lines)))
    ∙ ap concat (answers_front start.state lines [] (refused_text ScriptTooLong ∷ [])) ∙ answers_text start.state lines in
    record {
      few = few;
      lines = length lines + 1;
      soon = omega (arith, lines_due-run read few);
      state = ap (λ (shown : Shown). shown.state) h.shown ∙ state_after start lines
          ∙ ap (after_lines start.state) (sym (ap (take (length lines + 1)) are ∙ take_all (length lines + 1) lines (omega arith)));
      part = subst (λ (text : List ℕ). IsPartOf text written) (sym told) (record { part = h.text.part; within = h.text.within; are = refl });
      all_before = omega (arith, fewer ((length lines + 1) - 1) (length lines) (answers_in start.state false read) (omega arith), ap length front, h.all_before, part_length h.text.part text h.text.within);
    }
  where
    concat_last : (xs : List (List ℕ)) (y : List ℕ) → concat (xs ++ y ∷ []) ≡ concat xs ++ y
    concat_last [] y = append-nil y
    concat_last (x ∷ xs) y = ap (λ (l : List ℕ). x ++ l) (concat_last xs y) ∙ sym (append_assoc x (concat xs) y)

-- ---- a writer that fails

-- Of a script of known bytes these were read, and what was written is what the chapter says.
record Fails (start now : Shown) (script : List ℕ) (read : List ℕ) (text : List ℕ → Type 0) : Type 0 where
  pub has_ended : Bool
  pub ended : has_ended ≡ true → length script ≤ length read
  pub written : List ℕ
  pub told : AtWriteFault start.state has_ended read now.state written
  pub appended : text written

-- the bytes that hold a text behind those of a pen
abbrev Told : Pen → Pen → List ℕ → Type 0
Told old new written = Appends old.known new.known written

all_read : (script read rest : List ℕ) → script ≡ read ++ rest → rest ≡ [] → length script ≤ length read
all_read script read rest e none = omega (arith, ap length e, length-append read rest, ap length none)

fails : (start now : Shown) (pen new : Pen) (script rest : List ℕ) (left : Option (List ℕ)) (h : Overflows start pen (Some script) now new left) → left ≡ Some rest → script ≡ h.bytes ++ rest
    → Fails start now script h.bytes (Told pen new)
fails start now pen new script rest left h is e = elim h.stops [
  | inl stops ↦ record {
    has_ended = false;
    ended = λ bad. absurd (cc);
    written = take stops.text.part (text_of start (stops.before ++ stops.last));
    told = stops_line start now pen new (lines_due h.bytes) false h.bytes (cut_lines (take SCRIPT_LIMIT h.bytes)).0 h.few refl (omega arith) stops;
    appended = stops.text.appended;
  }
  | inr (inl stops) ↦ record {
    has_ended = true;
    ended = λ _. all_read script h.bytes rest e (subst IsAtEnd is stops.0);
    written = take stops.1.text.part (text_of start (stops.1.before ++ stops.1.last));
    told = stops_line start now pen new (lines_due h.bytes) true h.bytes (lines_run h.bytes) h.few refl (omega arith) stops.1;
    appended = stops.1.text.appended;
  }
  | inr (inr stops) ↦ record {
    has_ended = false;
    ended = λ bad. absurd (cc);
    written = take stops.1.text.part (text_of start (lines_run h.bytes) ++ refused_text ScriptTooLong);
    told = stops_limit start now pen new h.bytes h.few stops.0 stops.1;
    appended = stops.1.text.appended;
  }
]

-- ---- how a run ends by the chapter

-- a state that begins as the chapter says
behind_begins : (given : Given) (script : List ℕ) (shown : Shown) → (opens : Opens given.list.now given.forms given.stores.now given.lang.now shown.state) → IsOpen (given_for given script) opens.stores
behind_begins given script shown opens = record { sound = opens.sound; spelled = opens.spelled }

reader_fails : (given : Given) (before after : Ends) (script : List ℕ) → after.out ≡ before.out → StopsReading given script before after → IsBroken (given_for given script) chapter.ReadScript before after
reader_fails given before after script untouched h =
    let opens = h.starts.0 in
    let lines = (cut_lines (take h.count script)).0 in
    record {
      read = h.count;
      answers = text_of h.start lines;
      image = None;
      script = h.read;
      leaves = (
        opens.stores,
        after_lines h.start.state lines,
        behind_begins given script h.start opens,
        record {
          few = omega (arith, length-take h.count script, h.few);
          state = ap (λ (s : State). after_lines s lines) opens.begins;
          answers = ap (λ (s : State). text_of_lines s lines) opens.begins;
        },
        refl,
      );
      told = h.text.0;
      left = untouched;
    }

refusal_fails : (given : Given) (before after : Ends) (script : List ℕ) → before.script ≡ Some script → after.out ≡ before.out → FailsAtOnce given before after
    → LeavesBytes given script before WriteAnswers after
refusal_fails given before after script known untouched h = (
  record {
    read = 0;
    answers = take h.breaks.part h.text;
    image = None;
    script = record { within = omega arith; left_is = h.unread ∙ known };
    leaves = (
      refl,
      inl (elim h.line [
        | inl line ↦ inr (line.0, line.1, subst (λ (text : List ℕ). IsPartOf text (take h.breaks.part h.text)) line.2 (record { part = h.breaks.part; within = h.breaks.within; are = refl }))
        | inr line ↦ inl (subst (λ (text : List ℕ). IsPartOf text (take h.breaks.part h.text)) line (record { part = h.breaks.part; within = h.breaks.within; are = refl }))
      ]),
    );
    told = h.breaks.appended;
    left = untouched;
  },
  refl,
)

answers_fail : (given : Given) (start now : Shown) (before after : Ends) (script : List ℕ) → after.out ≡ before.out → Starts given start
    → Overflows start before.answers (Some script) now (with_held after) after.script → LeavesBytes given script before WriteAnswers after
answers_fail given start now before after script untouched starts h =
    let opens = starts.0 in
    let read = consumed_known script h.bytes after.script h.consumed in
    let f = fails start now before.answers (with_held after) script read.0 after.script h read.1 read.2 in
    let front : take (length h.bytes) script ≡ h.bytes = read_front script h.bytes read.0 read.2 in (
      record {
        read = length h.bytes;
        answers = f.written;
        image = None;
        script = is_read script h.bytes read.0 after.script read.1 read.2;
        leaves = (
          refl,
          inr (
            opens.stores,
            now.state,
            f.has_ended,
            behind_begins given script start opens,
            f.ended,
            subst (λ (s : State). AtWriteFault s f.has_ended (take (length h.bytes) script) now.state f.written) opens.begins
                (subst (λ (bytes : List ℕ). AtWriteFault start.state f.has_ended bytes now.state f.written) (sym front) f.told),
          ),
        );
        told = f.appended;
        left = untouched;
      },
      tt,
    )

image_fails : (given : Given) (before after : Ends) (script : List ℕ) (run : RunsAll given script end.Done before after)
    → FailsWithin before.out after.out (image_submitted given (outcome_of run.start script).shown) → IsBroken (given_for given script) chapter.WriteImage before after
image_fails given before after script run broke =
    let opens = run.starts.0 in
    let image = image_submitted given (outcome_of run.start script).shown in
    let written = take broke.part image in
    record {
      read = length script;
      answers = text_of_script run.start.state script;
      image = Some written;
      script = record { within = omega arith; left_is = run.left ∙ ap Some (sym (drop_all script)) };
      leaves = (
        opens.stores,
        written,
        behind_begins given script run.start opens,
        is_done (is_too_long script) run.ends,
        ap (λ (s : State). text_of_script s script) opens.begins,
        subst (λ (image : List ℕ). IsPartOf image written) (image_same given script opens.stores run.start opens.begins) (record { part = broke.part; within = broke.within; are = refl }),
        refl,
      );
      told = run.text.0;
      left = broke.appended;
    }
  where
    drop_all : (xs : List ℕ) → drop (length xs) xs ≡ []
    drop_all [] = refl
    drop_all (x ∷ xs) = drop_all xs

at_fault : (given : Given) (before after : Ends) (ended : Ended) (script : List ℕ) → before.script ≡ Some script → RunLeaves given before ended after → LeavesBytes given script before ended after
at_fault given before after Done script known h = tt
at_fault given before after Refused script known h = tt
at_fault given before after NoMemory script known h = tt
at_fault given before after ReadScript script known h =
    reader_fails given before after script h.0 (stops_reading given h.1 h.2 before after script h.3 (subst (λ reader. BreaksOff h.1 before.answers reader h.2 after.answers after.script) known h.4))
at_fault given before after WriteAnswers script known h = elim h.1 [
  | inl at_once ↦ refusal_fails given before after script known h.0 at_once
  | inr run ↦ answers_fail given run.0 run.1 before after script h.0 run.2 (subst (λ reader. Overflows run.0 before.answers reader run.1 (with_held after) after.script) known run.3)
]
at_fault given before after WriteOut script known h =
    let all = of_finished given before after end.Done h.0 script known in
    image_fails given before after script all.0 (subst (λ (s : Shown). FailsWithin before.out after.out (image_submitted given s)) all.1 h.1)

pub leaves_bytes : (given : Given) (before after : Ends) (ended : Ended) → RunLeaves given before ended after → IfSome before.script (λ script. LeavesBytes given script before ended after)
leaves_bytes given before after ended h = if_known before.script _ (λ script known. at_fault given before after ended script known h)
