-- The beginning of a text was written.
use Rattle.std.proofs.Common.{◌≡◌, ℕ, List, ◌++◌, refl, sym, ap, subst, ◌∙◌, append_assoc}
use Rattle.std.specs.Prelude.{OnErr, Result, Ok, Err}
use Rattle.hii_bytes.specs.Watching.{Pen, Writes}
use Rattle.hii_bytes.specs.code.Writing.{Stands}
use Rattle.hii_bytes.proofs.WritingLemmas.{writes_trans}
use Rattle.question_audit.specs.code.Beginnings.{Begins}

-- what stands of a text is its beginning
pub stands_begun : {a b : Pen} {text rest : List ℕ} → Stands a b text rest → Begins a b text
stands_begun {a} {b} {text} {rest} s = record { front = s.front; rest = rest; parts = s.parts; written = s.written }

-- the first of two texts was written
pub first_begun : {a b : Pen} {s : List ℕ} (t : List ℕ) → Writes a b s → Begins a b (s ++ t)
first_begun {a} {b} {s} t w = record { front = s; rest = t; parts = refl; written = w }

-- the first of two texts was begun
pub begun_before : {a b : Pen} {s : List ℕ} (t : List ℕ) → Begins a b s → Begins a b (s ++ t)
begun_before {a} {b} {s} t w = record {
  front = w.front;
  rest = w.rest ++ t;
  parts = ap (λ (l : List ℕ). l ++ t) w.parts ∙ append_assoc w.front w.rest t;
  written = w.written;
}

-- the first of two texts was written, and the second was begun
pub begun_behind : {a b c : Pen} {s t : List ℕ} → Writes a b s → Begins b c t → Begins a c (s ++ t)
begun_behind {a} {b} {c} {s} {t} p w = record {
  front = s ++ w.front;
  rest = w.rest;
  parts = ap (λ (l : List ℕ). s ++ l) w.parts ∙ sym (append_assoc s w.front w.rest);
  written = writes_trans p w.written;
}

-- the next piece of a text was begun
pub piece_begun : {a b c : Pen} {text rest piece : List ℕ} (more : List ℕ) → rest ≡ piece ++ more → Stands a b text rest → Begins b c piece → Begins a c text
piece_begun {a} {b} {c} {text} {rest} {piece} more e s w =
    let parts : text ≡ s.front ++ piece ++ more = s.parts ∙ ap (λ (l : List ℕ). s.front ++ l) e ∙ sym (append_assoc s.front piece more) in
    subst (Begins a c) (sym parts) (begun_before more (begun_behind s.written w))

-- what holds, holds where a result is an error
pub at_error : {T E P : Type 0} (r : Result T E) → P → OnErr r P
at_error (Ok x) p = tt
at_error (Err e) p = p
