-- Texts written one after the other.
use Rattle.std.proofs.Common.{◌≡◌, ℕ, ◌+◌, ◌<◌, ◌≤◌, Bool, true, false, List, [], ◌++◌, length, take, drop, refl, sym, ap, ◌∙◌, subst, arith, length-append, inl, inr, ◌⊎◌, append-nil, append_assoc, add-zero, take-append-drop, replicate}
use Rattle.std.proofs.lemmas.List.{take-append-le, length-take, replicate-append-replicate}
use Rattle.std.proofs.Math.Seq.{take-append-add, take-length}
use Rattle.std.proofs.KnownBytes.{Appends-trans, Appends-nil, Appends-kept}
use Rattle.std.specs.Io.KnownBytes.{Appends, Keeps}
use Rattle.hii_bytes.specs.Watching.{Pen, Writes, saturating_sum}
use Rattle.hii_bytes.specs.code.Writing.{Stands}

either_way : (b : Bool) → (b ≡ true) ⊎ (b ≡ false)
either_way true = inl refl
either_way false = inr refl

-- nothing is written
pub writes_nil : (a : Pen) → Writes a a []
writes_nil a = record {
  part = 0;
  within = omega arith;
  appended = Appends-nil a.known;
  counted = omega arith;
  after_fault = λ h. (refl, h);
  whole = λ _. refl;
  short = λ h k. cc;
}

-- the bytes taken of two texts are the front of both together
taken_of_both : (a b c : Pen) (s t : List ℕ) (p : Writes a b s) (q : Writes b c t) → take p.part s ++ take q.part t ≡ take (p.part + q.part) (s ++ t)
taken_of_both a b c s t p q = elim (either_way b.broken) [
  | inl h ↦ let within = p.within in rw ((q.after_fault h).0, add-zero) (append-nil (take p.part s) ∙ sym (take-append-le p.part s t within))
  | inr h ↦ rw (p.whole h) (ap (λ l. l ++ take q.part t) (take-length s) ∙ sym (take-append-add s t q.part))
]

pub writes_trans : {a b c : Pen} {s t : List ℕ} → Writes a b s → Writes b c t → Writes a c (s ++ t)
writes_trans {a} {b} {c} {s} {t} p q =
    let both : length (s ++ t) ≡ length s + length t = length-append s t in
    record {
      part = p.part + q.part;
      within = omega (arith, p.within, q.within);
      appended = subst (Appends a.known c.known) (taken_of_both a b c s t p q) (Appends-trans a.known b.known c.known (take p.part s) (take q.part t) p.appended q.appended);
      counted = omega (arith, p.counted, q.counted);
      after_fault = λ h. let e = (p.after_fault h) in let f = q.after_fault e.1 in (omega (arith, e.0, f.0), f.1);
      whole = λ h. elim (either_way b.broken) [ inl k ↦ let bad : true ≡ false = cc (q.after_fault k).1 in (cc) | inr k ↦ omega (arith, p.whole k, q.whole h) ];
      short = λ h k. elim (either_way b.broken) [ inl j ↦ omega (arith, p.short h j, (q.after_fault j).0) | inr j ↦ omega (arith, p.within, q.short j k) ];
    }

-- the writer takes nothing of what stands
pub Writes-none : (a b : Pen) (rest : List ℕ) → Appends a.known b.known [] → b.count ≡ saturating_sum a.count 0 → b.broken ≡ true → 0 < length rest → Writes a b rest
Writes-none a b rest nothing count broken some = record {
  part = 0;
  within = omega arith;
  appended = nothing;
  counted = count;
  after_fault = λ h. (refl, broken);
  whole = λ h. let bad : true ≡ false = cc in (cc);
  short = λ h k. some;
}

-- the writer errs
pub Writes-erred : (a b : Pen) (rest : List ℕ) → Keeps a.known b.known → b.count ≡ a.count → b.broken ≡ true → 0 < length rest → Writes a b rest
Writes-erred a b rest kept count broken some =
    Writes-none a b rest (Appends-kept a.known a.known b.known [] (Appends-nil a.known) kept) (omega arith) broken some

-- the writer takes the first n bytes of what stands
pub Writes-taken : (a b : Pen) (rest : List ℕ) (n : ℕ) → n ≤ length rest → Appends a.known b.known (take n rest) → b.count ≡ saturating_sum a.count n → a.broken ≡ false → b.broken ≡ false → Writes a b (take n rest)
Writes-taken a b rest n within appended count sound_before sound =
    let size : length (take n rest) ≡ n = simp length-take (omega arith) in
    record {
      part = length (take n rest);
      within = omega arith;
      appended = subst (Appends a.known b.known) (sym (take-length (take n rest))) appended;
      counted = count ∙ ap (saturating_sum a.count) (sym size);
      after_fault = λ h. let bad : true ≡ false = cc in (cc);
      whole = λ h. refl;
      short = λ h k. let bad : true ≡ false = cc in (cc);
    }

pub Stands-start : (a : Pen) (text : List ℕ) → Stands a a text text
Stands-start a text = record { front = []; parts = refl; written = writes_nil a }

pub Stands-more : (a b c : Pen) (text rest : List ℕ) (n : ℕ) → Stands a b text rest → Writes b c (take n rest) → Stands a c text (drop n rest)
Stands-more a b c text rest n p q = record {
  front = p.front ++ take n rest;
  parts = p.parts ∙ ap (λ l. p.front ++ l) (sym (take-append-drop n rest)) ∙ sym (append_assoc p.front (take n rest) (drop n rest));
  written = writes_trans p.written q;
}

pub Stands-end : (a b c : Pen) (text rest : List ℕ) → Stands a b text rest → Writes b c rest → Writes a c text
Stands-end a b c text rest p q = subst (Writes a c) (sym p.parts) (writes_trans p.written q)

pub Stands-all : (a b : Pen) (text rest : List ℕ) → Stands a b text rest → rest ≡ [] → Writes a b text
Stands-all a b text rest p none = subst (Writes a b) (sym (p.parts ∙ ap (λ l. p.front ++ l) none ∙ append-nil p.front)) p.written

-- past one more piece of a text
pub past_piece : (a b c : Pen) (text rest front more : List ℕ) → rest ≡ front ++ more → Stands a b text rest → Writes b c front → Stands a c text more
past_piece a b c text rest front more e s w = record {
  front = s.front ++ front;
  parts = s.parts ∙ ap (λ (l : List ℕ). s.front ++ l) e ∙ sym (append_assoc s.front front more);
  written = writes_trans s.written w;
}

-- one text, and then another
infixl 10 ◌⨾◌
pub ◌⨾◌ : {a b c : Pen} {s t : List ℕ} → Writes a b s → Writes b c t → Writes a c (s ++ t)
p ⨾ q = writes_trans p q

-- a first text that was written whole is in what was written of both
pub writes_past : {a b c : Pen} {s t : List ℕ} (u : List ℕ) → Writes a b s → Writes b c t → b.broken ≡ false → u ≡ s ++ t → (w : Writes a c u) × (length s ≤ w.part)
unfolding writes_trans
writes_past {a} {b} {c} {s} {t} u p q sound e =
    let past : length s ≤ p.part + q.part = omega (arith, p.whole sound) in
    subst (λ u. (w : Writes a c u) × (length s ≤ w.part)) (sym e) (writes_trans p q, past)

-- spaces behind spaces
pub spaces_more : {a b c : Pen} (n m : ℕ) → Writes a b (replicate n 32) → Writes b c (replicate m 32) → Writes a c (replicate (n + m) 32)
spaces_more {a} {b} {c} n m p q = subst (Writes a c) (replicate-append-replicate n m 32) (writes_trans p q)

-- what was written whole stands at the end of the known bytes
pub appended_whole : {a b : Pen} {s : List ℕ} → Writes a b s → b.broken ≡ false → Appends a.known b.known s
appended_whole {a} {b} {s} p sound = subst (Appends a.known b.known) (ap (λ n. take n s) (p.whole sound) ∙ take-length s) p.appended
