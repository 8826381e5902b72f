-- A run whose answers are passed on once more at its end.
use Rattle.std.proofs.Common.{◌≡◌, ℕ, ◌<◌, Bool, true, false, List, [], ◌++◌, length, take, if◌then◌else◌, Option, Result, Ok, Err, refl, sym, ap, ◌∙◌, subst, append-nil, length-append, arith, inl, inr}
use Rattle.std.proofs.lemmas.Bool.{ltb-true}
use Rattle.std.proofs.lemmas.List.{take_all}
use Rattle.std.proofs.KnownBytes.{Appends-kept}
use Rattle.hii_bytes.specs.Watching.{Pen, Writes, Flushes}
use Rattle.browser_rules.specs.Script.{SCRIPT_LIMIT, is_too_long, lines_run}
use Rattle.hii_commands.specs.code.Lines.{whole_lines}
use Rattle.browser_core.specs.Shown.{Shown}
use Rattle.browser_core.specs.Run.{text_of, too_long_text, lines_due, StopsAtLine, StopsAtLimit, Finishes, Overflows, Runs}
use Rattle.session_steps.specs.declared.reply.End.{End}
use Rattle.session_steps.specs.declared.reply.End.TheVariants.{Done, TooLong}
use Rattle.session_steps.specs.declared.reply.RunFault.{RunFault}
use Rattle.session_steps.specs.declared.reply.RunFault.TheVariants.{Read, Write}
use Rattle.browser_core.proofs.RunLemmas.{lines_due-few, lines_due-run, stops_behind, stops_flushed}
use Rattle.session_steps.proofs.FlushLemmas.{writes_flushed, breaks_flushed}

overflows_broken : (start now : Shown) (pen new : Pen) (reader left : Option (List ℕ)) → Overflows start pen reader now new left → new.broken ≡ true
overflows_broken start now pen new reader left h = elim h.stops [
  | inl stops ↦ stops.text.broken
  | inr (inl stops) ↦ stops.1.text.broken
  | inr (inr stops) ↦ stops.1.text.broken
]

-- ---- the answers are passed on

pub runs_passed : (start now : Shown) (pen mid new : Pen) (ran : Result End RunFault) (reader left : Option (List ℕ)) → Runs start pen reader ran now mid left → Flushes mid new → new.broken ≡ false
    → Runs start pen reader ran now new left
runs_passed start now pen mid new (Ok end) reader left h flushed sound = record {
  script = h.script;
  consumed = h.consumed;
  few = h.few;
  end_is = h.end_is;
  at_end = h.at_end;
  shown = h.shown;
  text = writes_flushed h.text flushed sound;
  sound = sound;
}
runs_passed start now pen mid new (Err Read) reader left h flushed sound = record {
  bytes = h.bytes;
  consumed = h.consumed;
  few = h.few;
  shown = h.shown;
  text = writes_flushed h.text flushed sound;
  sound = sound;
}
runs_passed start now pen mid new (Err Write) reader left h flushed sound =
    let bad : true ≡ false = sym (flushed.after_fault (overflows_broken start now pen mid reader left h)) ∙ sound in (cc)

-- ---- the answers fail as they are passed on

done_short : (b : Bool) → Done ≡ (if b then TooLong else Done) → b ≡ false
done_short true e = cc
done_short false e = refl

too_long : (b : Bool) → TooLong ≡ (if b then TooLong else Done) → b ≡ true
too_long true e = refl
too_long false e = cc

pub is_past : (script : List ℕ) → TooLong ≡ (if is_too_long script then TooLong else Done) → SCRIPT_LIMIT < length script
is_past script e = ltb-true SCRIPT_LIMIT (length script) (too_long (is_too_long script) e)

limit_flushed : (start now : Shown) (pen mid new : Pen) (lines : List (List ℕ)) → StopsAtLimit start pen lines now mid → Flushes mid new → StopsAtLimit start pen lines now new
limit_flushed start now pen mid new lines h flushed = record {
  shown = h.shown;
  text = record {
    part = h.text.part;
    within = h.text.within;
    appended = Appends-kept pen.known mid.known new.known (take h.text.part (text_of start lines ++ too_long_text)) h.text.appended flushed.kept;
    counted = flushed.counted ∙ h.text.counted;
    broken = flushed.after_fault h.text.broken;
  };
  all_before = h.all_before;
  after_fault = h.after_fault;
}

done_broken : (start now : Shown) (pen mid new : Pen) (reader left : Option (List ℕ)) → Finishes start pen reader Done now mid left → Flushes mid new → new.broken ≡ true
    → Overflows start pen reader now new left
done_broken start now pen mid new reader left h flushed broken =
    let lines = lines_run h.script in
    let short = done_short (is_too_long h.script) h.end_is in
    let text : Writes pen mid (text_of start lines) =
    subst (Writes pen mid) (ap (λ b. text_of start lines ++ (if b then too_long_text else [])) short ∙ append-nil (text_of start lines)) h.text in
    record {
      bytes = h.script;
      consumed = h.consumed;
      few = h.few;
      stops = inr (inl (h.at_end refl, stops_behind start now pen mid new (lines_due h.script) lines (lines_due-run h.script h.few) h.shown text h.sound flushed broken));
    }

past_broken : (start now : Shown) (pen mid new : Pen) (reader left : Option (List ℕ)) → Finishes start pen reader TooLong now mid left → Flushes mid new → new.broken ≡ true
    → Overflows start pen reader now new left
past_broken start now pen mid new reader left h flushed broken =
    let lines = lines_run h.script in
    let long = too_long (is_too_long h.script) h.end_is in
    let all = text_of start lines ++ too_long_text in
    let text : Writes pen mid all = subst (Writes pen mid) (ap (λ b. text_of start lines ++ (if b then too_long_text else [])) long) h.text in
    let breaks = breaks_flushed all text flushed broken refl in
    record {
      bytes = h.script;
      consumed = h.consumed;
      few = h.few;
      stops = inr (inr (
        ltb-true SCRIPT_LIMIT (length h.script) long,
        record {
          shown = h.shown;
          text = breaks.0;
          all_before = omega (arith, breaks.1, text.whole h.sound, length-append (text_of start lines) too_long_text);
          after_fault = breaks.2;
        },
      ));
    }

pub runs_broken : (start now : Shown) (pen mid new : Pen) (ran : Result End RunFault) (reader left : Option (List ℕ)) → Runs start pen reader ran now mid left → Flushes mid new → new.broken ≡ true
    → Overflows start pen reader now new left
runs_broken start now pen mid new (Ok Done) reader left h flushed broken = done_broken start now pen mid new reader left h flushed broken
runs_broken start now pen mid new (Ok TooLong) reader left h flushed broken = past_broken start now pen mid new reader left h flushed broken
runs_broken start now pen mid new (Err Read) reader left h flushed broken =
    let all : take SCRIPT_LIMIT h.bytes ≡ h.bytes = take_all SCRIPT_LIMIT h.bytes h.few in
    record {
      bytes = h.bytes;
      consumed = h.consumed;
      few = omega (arith, h.few);
      stops =
          let stops = stops_behind start now pen mid new (lines_due h.bytes) (whole_lines h.bytes) (lines_due-few h.bytes) h.shown h.text h.sound flushed broken in
          inl (subst (λ b. StopsAtLine start pen (lines_due h.bytes) (whole_lines b) now new) (sym all) stops);
    }
runs_broken start now pen mid new (Err Write) reader left h flushed broken = record {
  bytes = h.bytes;
  consumed = h.consumed;
  few = h.few;
  stops = elim h.stops [
    | inl stops ↦ inl (stops_flushed start now pen mid new _ _ stops flushed)
    | inr (inl stops) ↦ inr (inl (stops.0, stops_flushed start now pen mid new _ _ stops.1 flushed))
    | inr (inr stops) ↦ inr (inr (stops.0, limit_flushed start now pen mid new _ stops.1 flushed))
  ];
}
