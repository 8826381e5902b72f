-- What is held of a text that was written.
use Rattle.std.proofs.Common.{◌≡◌, ◌∙◌, ℕ, ◌<◌, true, false, Some, List, [], length, take, ap, arith, refl, subst, sym}
use Rattle.std.proofs.KnownBytes.{Appends-nil}
use Rattle.std.proofs.Math.Seq.{take-length}
use Rattle.std.proofs.lemmas.List.{length-take-le}
use Rattle.hii_bytes.specs.Watching.{Pen, Writes}
use Rattle.hii_bytes.specs.code.Writing.{Stands}
use Rattle.hii_bytes.proofs.WritingLemmas.{writes_trans}

-- a writer that has failed takes no more
untaken : (a : Pen) (rest : List ℕ) → a.broken ≡ true → Writes a a rest
untaken a rest broken = record {
  part = 0;
  within = omega arith;
  appended = Appends-nil a.known;
  counted = omega arith;
  after_fault = λ h. (refl, h);
  whole = λ sound. let bad : true ≡ false = cc in (cc);
  short = λ sound h. let bad : true ≡ false = cc in (cc);
}

-- so of what stands to be written it takes nothing
pub stands_broken : {a b : Pen} {text rest : List ℕ} → Stands a b text rest → b.broken ≡ true → Writes a b text
stands_broken {a} {b} {text} {rest} s broken = subst (Writes a b) (sym s.parts) (writes_trans s.written (untaken b rest broken))

-- what a writer holds that held nothing
module _ {a b : Pen} {text : List ℕ} (held : List ℕ) (w : Writes a b text) (none : a.known ≡ Some []) (has : b.known ≡ Some held) where
  front : held ≡ take w.part text
  front = rw (none, has) at w.appended

  pub held_long : (limit : ℕ) → limit < length held → limit < length text
  held_long limit long = omega (arith, long, ap length front, length-take-le w.part text w.within, w.within)

  pub held_whole : b.broken ≡ false → held ≡ text
  held_whole sound = front ∙ ap (λ n. take n text) (w.whole sound) ∙ take-length text
