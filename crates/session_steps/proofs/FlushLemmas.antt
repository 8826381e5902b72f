-- A writer that passes on what it took.
use Rattle.std.proofs.Common.{◌≡◌, ℕ, true, false, List, take, refl, sym, ◌∙◌, subst, inl, inr}
use Rattle.std.proofs.lemmas.Bool.{cases_Bool}
use Rattle.std.proofs.KnownBytes.{Appends-kept, Keeps-refl}
use Rattle.hii_bytes.specs.Watching.{Pen, Writes, Flushes, BreaksWithin}

pub flushes_none : (a : Pen) → Flushes a a
flushes_none a = record { kept = Keeps-refl a.known; counted = refl; after_fault = λ h. h }

pub sound_before : (a b : Pen) → Flushes a b → b.broken ≡ false → a.broken ≡ false
sound_before a b flushed sound = elim (cases_Bool a.broken) [
  | inl broken ↦ let bad : true ≡ false = sym (flushed.after_fault broken) ∙ sound in (cc)
  | inr unbroken ↦ unbroken
]

-- a text is passed on
pub writes_flushed : {a b c : Pen} {s : List ℕ} → Writes a b s → Flushes b c → c.broken ≡ false → Writes a c s
writes_flushed {a} {b} {c} {s} p flushed sound = record {
  part = p.part;
  within = p.within;
  appended = Appends-kept a.known b.known c.known (take p.part s) p.appended flushed.kept;
  counted = flushed.counted ∙ p.counted;
  after_fault = λ h. let e = p.after_fault h in (e.0, flushed.after_fault e.1);
  whole = λ _. p.whole (sound_before b c flushed sound);
  short = λ _ broken. let bad : true ≡ false = sym broken ∙ sound in (cc);
}

-- the writer fails at a text, or as it passes the text on
pub breaks_flushed : {a b c : Pen} {s : List ℕ} (u : List ℕ) (p : Writes a b s) → Flushes b c → c.broken ≡ true → u ≡ s
    → (w : BreaksWithin a c u) × (w.part ≡ p.part) × (a.broken ≡ true → w.part ≡ 0)
breaks_flushed {a} {b} {c} {s} u p flushed broken e = subst (λ u. (w : BreaksWithin a c u) × (w.part ≡ p.part) × (a.broken ≡ true → w.part ≡ 0)) (sym e) (
  record {
    part = p.part;
    within = p.within;
    appended = Appends-kept a.known b.known c.known (take p.part s) p.appended flushed.kept;
    counted = flushed.counted ∙ p.counted;
    broken = broken;
  },
  refl,
  λ h. (p.after_fault h).0,
)
