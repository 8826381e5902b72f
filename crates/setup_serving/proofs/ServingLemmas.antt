-- What a run leaves, by how it ended.
use Rattle.std.proofs.Common.{◌≡◌, ◌≢◌, ℕ, Bool, true, false, List, [], ◌∷◌, ◌++◌, Option, None, Some, IfSome, Result, refl, sym, ap, ◌∙◌, subst, append-nil, inl, inr}
use Rattle.std.specs.Io.Buffered.{writer_contents}
use Rattle.std.specs.Io.KnownBytes.{append_known}
use Rattle.std.specs.declared.io.buffered.BufWriter.{BufWriter}
use Rattle.hii_bytes.specs.declared.cause.Cause.TheVariants.{OutOfMemory}
use Rattle.hii_bytes.specs.declared.cause.Fault.{Fault}
use Rattle.hii_bytes.specs.Watching.{Pen, Flushes, inner_of, has_failed}
use Rattle.hii_bytes.specs.code.Writing.{taken_of}
use Rattle.hii_bytes.specs.declared.watched.Watched.{Watched}
use Rattle.browser_rules.specs.Forest.{nodes_of}
use Rattle.browser_rules.specs.Packages.{forms_bytes}
use Rattle.browser_rules.specs.Script.{lines_run}
use Rattle.browser_rules.specs.Stores.{image_of, shape_of}
use Rattle.hii_bytes.specs.Causes.{fault_for}
use Rattle.browser_core.specs.Shown.{Shown, shown_line}
use Rattle.browser_rules.specs.Session.{State}
use Rattle.browser_core.specs.Run.{shown_after_lines, outcome_of, Finishes, BreaksOff, Overflows, Runs}
use Rattle.session_steps.specs.Texts.{refused_text, refused_at_text}
use Rattle.session_laws.proofs.OutcomeLemmas.{refusal_same, refusal_at_same}
use Rattle.session_laws.proofs.StayLemmas.{package_stays_behind}
use Rattle.browser_core.specs.Opening.{RefusesOpening}
use Rattle.session_steps.specs.declared.reply.End.{End}
use Rattle.session_steps.specs.declared.reply.End.TheVariants as end
use Rattle.session_steps.specs.declared.reply.RunFault.{RunFault}
use Rattle.setup_files.specs.declared.given.Given.{Given}
use Rattle.setup_serving.specs.declared.serving.Ended.{Ended}
use Rattle.setup_serving.specs.declared.serving.Ended.TheVariants.{Done, Refused, ReadScript, WriteAnswers, WriteOut, NoMemory}
use Rattle.setup_serving.specs.Serving.{Starts, IsRefusedBy, IsWritten, FailsWithin, IsNamed, RunsAll, ScriptLeaves, Ends, Finished, RunLeaves, ends_before, ends_of, image_submitted, with_held}
use Rattle.setup_serving.specs.code.Endings.{IsTold, IsImageTold, all_told}
use Rattle.setup_serving.proofs.KnownLemmas.{runs_all, stops_reading, stops_answering}
use Rattle.setup_serving.proofs.RunningLemmas.{runs_passed, runs_broken}

-- ---- a buffer that holds nothing back

append_known-nil : (known : Option (List ℕ)) (held : List ℕ) → held ≡ [] → append_known known held ≡ known
append_known-nil None held none = refl
append_known-nil (Some xs) held none = ap (λ l. Some (xs ++ l)) none ∙ ap Some (append-nil xs)

pub with_held-nil : (ends : Ends) → ends.held ≡ [] → with_held ends ≡ ends.answers
with_held-nil ends none = ap (λ known. record ends.answers { known = known }) (append_known-nil ends.answers.known ends.held none)

-- what holds of the writer with what is held back holds of it without that
behind : (after : Ends) (P : Pen → Type 0) → after.held ≡ [] → P (with_held after) → P after.answers
behind after P none h = subst P (with_held-nil after none) h

-- the reader and the writers of a run that begins
pub begins_new : {R A O Z : Type 0} (remaining : R → Option (List ℕ)) (answered : A → Option (List ℕ)) (written : O → Option (List ℕ)) (script : R) (answers : BufWriter A Z) (out : O)
    (s : Watched R) (a : Watched (BufWriter A Z)) (o : Watched O) → inner_of s ≡ script → inner_of a ≡ answers
    → has_failed a ≡ false → taken_of a ≡ 0 → inner_of o ≡ out → has_failed o ≡ false → taken_of o ≡ 0
    → all_told (ends_of remaining answered written s a o) ≡ ends_before (remaining script) (writer_contents answered answers) (written out)
begins_new remaining answered written script answers out s a o s_is a_is a_sound a_none o_is o_sound o_none =
    rw (s_is, a_is, a_sound, a_none, o_is, o_sound, o_none) refl

-- ---- a refused opening

not_memory : (given : Given) (fault : Fault) → fault.cause ≢ OutOfMemory → RefusesOpening given.list.now given.forms given.stores.now fault → IsRefusedBy given (fault_for fault.cause fault.place)
not_memory given fault other (inl none) = absurd (other (ap (λ (f : Fault). f.cause) none))
not_memory given fault other (inr least) = least

-- the session was not opened, and why was told
pub refused_serves : (given : Given) (before after : Ends) (ended : Ended) (fault : Fault) → (ended ≢ WriteAnswers → after.held ≡ []) → after.script ≡ before.script → after.out ≡ before.out
    → RefusesOpening given.list.now given.forms given.stores.now fault → IsTold fault before.answers ended (with_held after) → RunLeaves given before ended after
refused_serves given before after Done fault passed unread untouched why told = absurd told
refused_serves given before after Refused fault passed unread untouched why told = (
  untouched,
  inl (record {
    fault = fault_for fault.cause fault.place;
    least = not_memory given fault told.0 why;
    unread = unread;
    text = subst (IsWritten before.answers after.answers) (sym (refusal_at_same fault)) (behind after (λ new. IsWritten before.answers new (refused_at_text fault)) (passed (λ e. cc)) told.1);
  }),
)
refused_serves given before after ReadScript fault passed unread untouched why told = absurd told
refused_serves given before after WriteAnswers fault passed unread untouched why told = (
  untouched,
  inl (elim told [
    | inl line ↦ record {
      text = refused_at_text fault;
      line = inl (fault_for fault.cause fault.place, not_memory given fault line.0 why, sym (refusal_at_same fault));
      unread = unread;
      breaks = line.1;
    }
    | inr line ↦ record {
      text = refused_text OutOfMemory;
      line = inr (sym (refusal_same OutOfMemory));
      unread = unread;
      breaks = line;
    }
  ]),
)
refused_serves given before after WriteOut fault passed unread untouched why told = absurd told
refused_serves given before after NoMemory fault passed unread untouched why told = (
  untouched,
  record {
    unread = unread;
    text = subst (IsWritten before.answers after.answers) (sym (refusal_same OutOfMemory)) (behind after (λ new. IsWritten before.answers new (refused_text OutOfMemory)) (passed (λ e. cc)) told.1);
  },
)

-- the answers failed, or nothing did
pub refused_named : (fault : Fault) (ended : Ended) (old new : Pen) (script out : Bool) → script ≡ false → out ≡ false → IsTold fault old ended new → IsNamed ended script new.broken out
refused_named fault Done old new script out unread untouched told = absurd told
refused_named fault Refused old new script out unread untouched told = (unread, told.1.1, untouched)
refused_named fault ReadScript old new script out unread untouched told = absurd told
refused_named fault WriteAnswers old new script out unread untouched told = (elim told [ inl line ↦ line.1.broken | inr line ↦ line.broken ], untouched)
refused_named fault WriteOut old new script out unread untouched told = absurd told
refused_named fault NoMemory old new script out unread untouched told = (unread, told.1.1, untouched)

-- ---- a session that was opened

-- the answers were passed on behind the run
pub passed : (start now : Shown) (before mid after : Ends) (ran : Result End RunFault) → after.held ≡ []
    → Runs start before.answers before.script ran now (with_held mid) after.script → Flushes (with_held mid) (with_held after) → after.answers.broken ≡ false
    → Runs start before.answers before.script ran now after.answers after.script
passed start now before mid after ran none runs flushed sound =
    behind after (λ new. Runs start before.answers before.script ran now new after.script) none
    (runs_passed start now before.answers (with_held mid) (with_held after) ran before.script after.script runs flushed sound)

-- the answers failed as they were passed on, or before
pub broken_serves : (given : Given) (start now : Shown) (before mid after : Ends) (ran : Result End RunFault) → Starts given start → after.out ≡ before.out
    → Runs start before.answers before.script ran now (with_held mid) after.script → Flushes (with_held mid) (with_held after) → after.answers.broken ≡ true
    → RunLeaves given before WriteAnswers after
broken_serves given start now before mid after ran starts untouched runs flushed broken =
    (untouched, inr (start, now, starts, runs_broken start now before.answers (with_held mid) (with_held after) ran before.script after.script runs flushed broken))

-- the lines of a script leave the forms package
package_left : (shown : Shown) (lines : List (List ℕ)) → (shown_after_lines shown lines).state.ifr ≡ shown.state.ifr
package_left shown [] = refl
package_left shown (line ∷ lines) = package_left (shown_line shown line) lines ∙ package_stays_behind shown.state line

-- the image of a session that was opened over what is given
pub image_is : (given : Given) (before after : Ends) (ended : End) (run : Finished given before ended after) → image_of (shape_of (nodes_of run.now.state.ifr)).guid run.now.state.committed ≡ image_submitted given run.now
image_is given before after ended run =
    let script = run.finishes.script in
    let ifr : run.now.state.ifr ≡ forms_bytes given.list.now given.forms =
    ap (λ (shown : Shown). shown.state.ifr) run.finishes.shown ∙ package_left run.start (lines_run script) ∙ ap (λ (s : State). s.ifr) run.starts.0.begins in
    ap (λ (ifr : List ℕ). image_of (shape_of (nodes_of ifr)).guid run.now.state.committed) ifr

-- the image was written, or its writer failed
pub image_serves : (given : Given) (before after : Ends) (ended : Ended) (run : Finished given before end.Done after) → IsImageTold (image_submitted given run.now) before.out ended after.out
    → RunLeaves given before ended after
image_serves given before after Done run told = (run, told)
image_serves given before after Refused run told = absurd told
image_serves given before after ReadScript run told = absurd told
image_serves given before after WriteAnswers run told = absurd told
image_serves given before after WriteOut run told = (run, told)
image_serves given before after NoMemory run told = absurd told

pub image_named : (image : List ℕ) (ended : Ended) (old new : Pen) (script answers : Bool) → script ≡ false → answers ≡ false → IsImageTold image old ended new → IsNamed ended script answers new.broken
image_named image Done old new script answers read passed told = (read, passed, told.1)
image_named image Refused old new script answers read passed told = absurd told
image_named image ReadScript old new script answers read passed told = absurd told
image_named image WriteAnswers old new script answers read passed told = absurd told
image_named image WriteOut old new script answers read passed told = (read, passed, told.broken)
image_named image NoMemory old new script answers read passed told = absurd told

-- ---- a known script

pub if_known : (known : Option (List ℕ)) (P : List ℕ → Type 0) → ((script : List ℕ) → known ≡ Some script → P script) → IfSome known P
if_known None P each = tt
if_known (Some script) P each = each script refl

pub of_finished : (given : Given) (before after : Ends) (ended : End) (run : Finished given before ended after) (script : List ℕ) → before.script ≡ Some script
    → (all : RunsAll given script ended before after) × (run.now ≡ (outcome_of all.start script).shown)
of_finished given before after ended run script known =
    runs_all given run.start run.now ended before after script run.starts (subst (λ reader. Finishes run.start before.answers reader ended run.now after.answers after.script) known run.finishes)

known_serves : (given : Given) (before after : Ends) (ended : Ended) (script : List ℕ) → before.script ≡ Some script → RunLeaves given before ended after → ScriptLeaves given script before ended after
known_serves given before after Done script known h =
    let all = of_finished given before after end.Done h.0 script known in
    (all.0, subst (λ (s : Shown). IsWritten before.out after.out (image_submitted given s)) all.1 h.1)
known_serves given before after Refused script known h = (
  h.0,
  elim h.1 [
    | inl refused ↦ inl refused
    | inr run ↦ inr (of_finished given before after end.TooLong run script known).0
  ],
)
known_serves given before after ReadScript script known h =
    (h.0, stops_reading given h.1 h.2 before after script h.3 (subst (λ reader. BreaksOff h.1 before.answers reader h.2 after.answers after.script) known h.4))
known_serves given before after WriteAnswers script known h = (
  h.0,
  elim h.1 [
    | inl at_once ↦ inl at_once
    | inr run ↦ inr (stops_answering given run.0 run.1 before after script run.2 (subst (λ reader. Overflows run.0 before.answers reader run.1 (with_held after) after.script) known run.3))
  ],
)
known_serves given before after WriteOut script known h =
    let all = of_finished given before after end.Done h.0 script known in
    (all.0, subst (λ (s : Shown). FailsWithin before.out after.out (image_submitted given s)) all.1 h.1)
known_serves given before after NoMemory script known h = h

-- where the script's bytes are known, a run is that of all of them
pub serves_known : (given : Given) (before after : Ends) (ended : Ended) → RunLeaves given before ended after
    → IfSome before.script (λ script. ScriptLeaves given script before ended after)
serves_known given before after ended h = if_known before.script _ (λ script known. known_serves given before after ended script known h)
