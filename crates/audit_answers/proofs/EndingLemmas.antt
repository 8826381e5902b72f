-- How a run comes to its end.
use Rattle.std.proofs.Common.{◌≡◌, ◌≢◌, ◌⊎◌, ◌∙◌, ◌++◌, ℕ, Bool, true, false, List, [], Option, None, Some, Result, Ok, Err, length, take, ap, arith, inl, inr, refl, subst, sym}
use Rattle.std.proofs.KnownBytes.{Appends-kept}
use Rattle.std.proofs.Math.Seq.{take-length}
use Rattle.std.proofs.lemmas.List.{append-nil}
use Rattle.std.specs.Io.Buffered.{writer_buffer, writer_contents, writer_inner}
use Rattle.std.specs.Io.KnownBytes.{Appends, append_known}
use Rattle.std.specs.declared.io.BufWriter.{BufWriter}
use Rattle.hii_bytes.specs.Faults.{Refuses}
use Rattle.hii_bytes.specs.declared.cause.Cause.{Cause}
use Rattle.hii_bytes.specs.declared.cause.Cause.TheVariants.{OutOfMemory}
use Rattle.hii_bytes.specs.declared.cause.Fault.{Fault}
use Rattle.hii_bytes.specs.declared.watched.Watched.{Watched}
use Rattle.hii_bytes.specs.declared.writing.WriteFault.{WriteFault}
use Rattle.hii_bytes.specs.Watching.{Flushes, Pen, Tells as Wrote, Writes, has_failed, inner_of, pen_of}
use Rattle.hii_bytes.proofs.WritingLemmas.{appended_whole, writes_nil, ◌⨾◌}
use Rattle.session_steps.specs.Texts.{refused_at_text, refused_text}
use Rattle.session_steps.proofs.FlushLemmas.{breaks_flushed, writes_flushed}
use Rattle.audit_json.specs.declared.telling.Telling.{Telling}
use Rattle.audit_json.specs.declared.telling.Telling.TheVariants.{Lines}
use Rattle.audit_answers.specs.declared.ended.Ended.{Ended}
use Rattle.audit_answers.specs.declared.ended.Ended.TheVariants.{Done, Refused, WriteAnswers, WriteOut, NoMemory}
use Rattle.audit_answers.specs.Endings.{IsLeft, IsPassedOn, IsRefusal, IsRefusal, StopsIn, Tells, TellsAndWrites, refused_at_told, refused_told}
use Rattle.audit_answers.specs.code.Endings.{Commits, PassesFrom, RefusesBy, RefusesBy, SaysFault}

-- ---- answers

none_behind : (known : Option (List ℕ)) → append_known known [] ≡ known
none_behind None = refl
none_behind (Some xs) = ap (λ xs. Some xs) (append-nil xs)

-- a writer that holds nothing back has all
nothing_held : {A Z : Type 0} (contents : A → Option (List ℕ)) (w : BufWriter A Z) → writer_buffer w ≡ [] → writer_contents contents w ≡ contents (writer_inner w)
nothing_held contents w held = ap (append_known (contents (writer_inner w))) held ∙ none_behind (contents (writer_inner w))

pub passed_on : {A Z : Type 0} (contents : A → Option (List ℕ)) (start new : Watched (BufWriter A Z)) (mid : Pen) (text : List ℕ) → Writes (pen_of (writer_contents contents) start) mid text
    → Flushes mid (pen_of (writer_contents contents) new) → has_failed new ≡ false → writer_buffer (inner_of new) ≡ [] → IsPassedOn contents start new text
passed_on contents start new mid text written flushes sound held =
    let whole = appended_whole (writes_flushed written flushes sound) sound in
    (subst (λ (known : Option (List ℕ)). Appends (writer_contents contents (inner_of start)) known text) (nothing_held contents (inner_of new) held) whole, held, sound)

-- a writer that has failed has a front
pub stopped : {W : Type 0} (contents : W → Option (List ℕ)) (start new : Watched W) (mid : Pen) (text : List ℕ) → Writes (pen_of contents start) mid text
    → Flushes mid (pen_of contents new) → has_failed new ≡ true → StopsIn (contents (inner_of start)) (contents (inner_of new)) text
stopped contents start new mid text written flushes broken =
    let breaks = (breaks_flushed text written flushes broken refl).0 in
    (breaks.part, breaks.within, breaks.appended)

-- what was said is passed on
pub tells : {A Z : Type 0} (says : Ended → List ℕ → Type 0) (contents : A → Option (List ℕ)) (start new : Watched (BufWriter A Z)) (mid : Pen) (meant ended : Ended) (text : List ℕ)
    → says meant text → Writes (pen_of (writer_contents contents) start) mid text → PassesFrom contents meant mid ended new → Tells says contents start ended new
tells says contents start new mid meant ended text said written (flushes, inl (is, sound, held)) =
    inl (text, subst (λ (e : Ended). says e text) (sym is) said, passed_on contents start new mid text written flushes sound held)
tells says contents start new mid meant ended text said written (flushes, inr (is, broken)) =
    inr (is, broken, meant, text, said, stopped (writer_contents contents) start new mid text written flushes broken)

-- what was begun, and then a refusal, is passed on
module _ {A Z : Type 0} (telling : Telling) (says : Ended → List ℕ → Type 0) (contents : A → Option (List ℕ)) (start old new : Watched (BufWriter A Z)) (fault : Fault) (ended : Ended) where
  pub tells_refusal : (fault.cause ≢ OutOfMemory → (begun : List ℕ) × Writes (pen_of (writer_contents contents) start) (pen_of (writer_contents contents) old) begun × says Refused (begun ++ refused_at_told telling fault))
      → (fault.cause ≡ OutOfMemory → (begun : List ℕ) × Writes (pen_of (writer_contents contents) start) (pen_of (writer_contents contents) old) begun × says NoMemory (begun ++ refused_told telling OutOfMemory))
      → RefusesBy telling fault contents old ended new → Tells says contents start ended new
  tells_refusal by_fault by_memory r = go r.meant r.said r.passed
    where
      go : (meant : Ended) → SaysFault telling fault meant r.text → PassesFrom contents meant r.mid ended new → Tells says contents start ended new
      go Done said passed = absurd said
      go Refused said passed =
          let b = by_fault said.0 in
          tells says contents start new r.mid Refused ended _ (subst (λ (t : List ℕ). says Refused (b.0 ++ t)) (sym said.1) b.2) (b.1 ⨾ r.written) passed
      go WriteAnswers said passed = absurd said
      go WriteOut said passed = absurd said
      go NoMemory said passed =
          let b = by_memory said.0 in
          tells says contents start new r.mid NoMemory ended _ (subst (λ (t : List ℕ). says NoMemory (b.0 ++ t)) (sym said.1) b.2) (b.1 ⨾ r.written) passed

-- the least fault is told
pub is_refusal : (telling : Telling) (IsFault : Cause → ℕ → Type 0) (fault : Fault) → Refuses IsFault fault → fault.cause ≢ OutOfMemory → IsRefusal telling IsFault (refused_at_told telling fault)
is_refusal telling IsFault fault (inl memory) other = absurd (other (ap (λ (f : Fault). f.cause) memory))
is_refusal telling IsFault fault (inr least) other = (fault, least, refl)

-- nothing was written
pub none_written : {W : Type 0} (contents : W → Option (List ℕ)) (old new : Watched W) → new ≡ old → Writes (pen_of contents old) (pen_of contents new) []
none_written contents old new same = subst (λ w. Writes (pen_of contents old) (pen_of contents w) []) (sym same) (writes_nil (pen_of contents old))

-- ---- the file

appends_kept : {O : Type 0} (contents : O → Option (List ℕ)) (old mid new : Watched O) (text : List ℕ) → Appends (contents (inner_of old)) (contents (inner_of mid)) text
    → Flushes (pen_of contents mid) (pen_of contents new) → Appends (contents (inner_of old)) (contents (inner_of new)) text
appends_kept contents old mid new text appends flushes = Appends-kept _ (contents (inner_of mid)) (contents (inner_of new)) text appends flushes.kept

-- a file that is flushed has its bytes, or has failed
pub left : {O : Type 0} (contents : O → Option (List ℕ)) (old mid new : Watched O) (bytes : List ℕ) (ended : Ended) → Writes (pen_of contents old) (pen_of contents mid) bytes
    → Commits contents mid ended new → IsLeft contents bytes old ended new
left contents old mid new bytes ended written (flushes, inl (is, sound, passed)) =
    subst (λ (e : Ended). IsLeft contents bytes old e new) (sym is) (appended_whole (writes_flushed written flushes sound) sound, sound, passed)
left contents old mid new bytes ended written (flushes, inr (is, broken)) =
    subst (λ (e : Ended). IsLeft contents bytes old e new) (sym is) (stopped contents old new (pen_of contents mid) bytes written flushes broken, broken)

-- a file in which a text was written, as far as it took it
pub left_image : {O : Type 0} {X : Type 0} (contents : O → Option (List ℕ)) (old mid new : Watched O) (bytes : List ℕ) (ended : Ended) (result : Result X WriteFault)
    → Wrote (pen_of contents old) (pen_of contents mid) result bytes → Commits contents mid ended new → IsLeft contents bytes old ended new
left_image contents old mid new bytes ended (Ok x) wrote (flushes, inl (is, sound, passed)) =
    subst (λ (e : Ended). IsLeft contents bytes old e new) (sym is) (appends_kept contents old mid new bytes wrote.0 flushes, sound, passed)
left_image contents old mid new bytes ended (Ok x) wrote (flushes, inr (is, broken)) =
    subst (λ (e : Ended). IsLeft contents bytes old e new) (sym is)
    ((length bytes, omega arith, subst (Appends (contents (inner_of old)) (contents (inner_of new))) (sym (take-length bytes)) (appends_kept contents old mid new bytes wrote.0 flushes)), broken)
left_image contents old mid new bytes ended (Err fault) wrote (flushes, inl (is, sound, passed)) =
    let bad : true ≡ false = sym (flushes.after_fault wrote.broken) ∙ sound in cc
left_image contents old mid new bytes ended (Err fault) wrote (flushes, inr (is, broken)) =
    subst (λ (e : Ended). IsLeft contents bytes old e new) (sym is) ((wrote.part, wrote.within, appends_kept contents old mid new (take wrote.part bytes) wrote.appended flushes), broken)

committed_as : {O : Type 0} (contents : O → Option (List ℕ)) (mid new : Watched O) (ended : Ended) → Commits contents mid ended new → (ended ≡ Done) ⊎ (ended ≡ WriteOut)
committed_as contents mid new ended (flushes, inl (is, sound, passed)) = inl is
committed_as contents mid new ended (flushes, inr (is, broken)) = inr is

-- ---- answers, and a file behind them

-- answers were passed on, and a file was written and flushed, unless they failed
pub tells_and_writes : {A Z O : Type 0} (says : List ℕ → Ended → List ℕ → Type 0) (contents : A → Option (List ℕ)) (file : O → Option (List ℕ)) (start new : Watched (BufWriter A Z)) (old mid last : Watched O)
    (between : Pen) (bytes text : List ℕ) (ended : Ended) → says bytes Done text → says bytes WriteOut text → Writes (pen_of (writer_contents contents) start) between text
    → Flushes between (pen_of (writer_contents contents) new) → (has_failed new ≡ false → writer_buffer (inner_of new) ≡ []) → (has_failed new ≡ true → mid ≡ old)
    → (has_failed new ≡ true → (ended ≡ WriteAnswers) × (last ≡ mid)) → (has_failed new ≡ false → Commits file mid ended last)
    → (has_failed new ≡ false → IsLeft file bytes old ended last) → TellsAndWrites says contents file start old ended new last
tells_and_writes says contents file start new old mid last between bytes text ended done broken_off written flushes held untouched unwritten commits leaves =
    go (has_failed new) refl
  where
    go : (failed : Bool) → has_failed new ≡ failed → TellsAndWrites says contents file start old ended new last
    go true is =
        let un = unwritten is in (
          bytes,
          inr (un.0, is, Done, text, done, stopped (writer_contents contents) start new between text written flushes is),
          subst (λ (e : Ended). IsLeft file bytes old e last) (sym un.0) (un.1 ∙ untouched is),
        )
    go false is = (
      bytes,
      inl (
        text,
        elim (committed_as file mid last ended (commits is)) [
          | inl e ↦ subst (λ (e : Ended). says bytes e text) (sym e) done
          | inr e ↦ subst (λ (e : Ended). says bytes e text) (sym e) broken_off
        ],
        passed_on contents start new between text written flushes is (held is),
      ),
      leaves is,
    )

-- a file that is not touched, where what is said is a refusal
left_alone : {A Z O : Type 0} (contents : A → Option (List ℕ)) (file : O → Option (List ℕ)) (bytes : List ℕ) (old last : Watched O) (mid : Pen) (meant ended : Ended) (new : Watched (BufWriter A Z))
    → PassesFrom contents meant mid ended new → IsLeft file bytes old meant last → last ≡ old → IsLeft file bytes old ended last
left_alone contents file bytes old last mid meant ended new (flushes, inl (is, sound, held)) as_meant same = subst (λ (e : Ended). IsLeft file bytes old e last) (sym is) as_meant
left_alone contents file bytes old last mid meant ended new (flushes, inr (is, broken)) as_meant same = subst (λ (e : Ended). IsLeft file bytes old e last) (sym is) same

-- something else than the bytes of a file is said, and the file is not touched
pub tells_refused : {A Z O : Type 0} (says : List ℕ → Ended → List ℕ → Type 0) (contents : A → Option (List ℕ)) (file : O → Option (List ℕ)) (start new : Watched (BufWriter A Z)) (old last : Watched O)
    (mid : Pen) (ended : Ended) (text : List ℕ) → says [] Refused text → Writes (pen_of (writer_contents contents) start) mid text → PassesFrom contents Refused mid ended new → last ≡ old
    → TellsAndWrites says contents file start old ended new last
tells_refused says contents file start new old last mid ended text said written passed same = (
  [],
  tells (says []) contents start new mid Refused ended text said written passed,
  left_alone contents file [] old last mid Refused ended new passed same same,
)

-- a fault is told behind what was begun, and the file is not touched
pub tells_fault_behind : {A Z O : Type 0} (telling : Telling) (says : List ℕ → Ended → List ℕ → Type 0) (contents : A → Option (List ℕ)) (file : O → Option (List ℕ)) (start behind new : Watched (BufWriter A Z))
    (old last : Watched O) (fault : Fault) (ended : Ended)
    → (fault.cause ≢ OutOfMemory → (begun : List ℕ) × Writes (pen_of (writer_contents contents) start) (pen_of (writer_contents contents) behind) begun × says [] Refused (begun ++ refused_at_told telling fault))
    → (fault.cause ≡ OutOfMemory → (begun : List ℕ) × Writes (pen_of (writer_contents contents) start) (pen_of (writer_contents contents) behind) begun × says [] NoMemory (begun ++ refused_told telling OutOfMemory))
    → RefusesBy telling fault contents behind ended new → last ≡ old → TellsAndWrites says contents file start old ended new last
tells_fault_behind telling says contents file start behind new old last fault ended by_fault by_memory r same =
    ([], tells_refusal telling (says []) contents start behind new fault ended by_fault by_memory r, go r.meant r.said r.passed)
  where
    go : (meant : Ended) → SaysFault telling fault meant r.text → PassesFrom contents meant r.mid ended new → IsLeft file [] old ended last
    go Done said passed = absurd said
    go Refused said passed = left_alone contents file [] old last r.mid Refused ended new passed same same
    go WriteAnswers said passed = absurd said
    go WriteOut said passed = absurd said
    go NoMemory said passed = left_alone contents file [] old last r.mid NoMemory ended new passed same same

-- a fault is told, and the file is not touched
pub tells_fault : {A Z O : Type 0} (telling : Telling) (says : List ℕ → Ended → List ℕ → Type 0) (contents : A → Option (List ℕ)) (file : O → Option (List ℕ)) (start new : Watched (BufWriter A Z)) (old last : Watched O)
    (fault : Fault) (ended : Ended) → (fault.cause ≢ OutOfMemory → says [] Refused (refused_at_told telling fault)) → (fault.cause ≡ OutOfMemory → says [] NoMemory (refused_told telling OutOfMemory))
    → RefusesBy telling fault contents start ended new → last ≡ old → TellsAndWrites says contents file start old ended new last
tells_fault telling says contents file start new old last fault ended by_fault by_memory r same =
    tells_fault_behind telling says contents file start start new old last fault ended (λ other. ([], writes_nil _, by_fault other)) (λ memory. ([], writes_nil _, by_memory memory)) r same

-- ---- what is said, by another definition

pub tells_as : {A Z : Type 0} (says others : Ended → List ℕ → Type 0) (contents : A → Option (List ℕ)) (old new : Watched (BufWriter A Z)) (ended : Ended)
    → ((ended : Ended) (text : List ℕ) → says ended text → others ended text) → Tells says contents old ended new → Tells others contents old ended new
tells_as says others contents old new ended into (inl (text, said, passed)) = inl (text, into ended text said, passed)
tells_as says others contents old new ended into (inr (is, broken, meant, text, said, stops)) = inr (is, broken, meant, text, into meant text said, stops)

pub tells_and_writes_as : {A Z O : Type 0} (says others : List ℕ → Ended → List ℕ → Type 0) (contents : A → Option (List ℕ)) (file : O → Option (List ℕ)) (start new : Watched (BufWriter A Z))
    (old last : Watched O) (ended : Ended) → ((bytes : List ℕ) (ended : Ended) (text : List ℕ) → says bytes ended text → others bytes ended text)
    → TellsAndWrites says contents file start old ended new last → TellsAndWrites others contents file start old ended new last
tells_and_writes_as says others contents file start new old last ended into (bytes, told, left) = (bytes, tells_as (says bytes) (others bytes) contents start new ended (into bytes) told, left)
