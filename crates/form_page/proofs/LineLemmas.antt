-- Lines that are gathered before they are written.
use Rattle.std.proofs.Common.{◌≡◌, ℕ, List, [], ◌++◌, append_assoc, append-nil, refl, sym, ap, ◌∙◌, subst}
use Rattle.hii_bytes.specs.Watching.{Pen, Writes}
use Rattle.hii_bytes.proofs.WritingLemmas.{writes_nil, writes_trans}
use Rattle.form_page.specs.code.Lines.{Adds, Gathers}
use Rattle.form_page.specs.declared.line.Line.{Line}

-- bytes that are held with those before them
pub held_more : (start now : Pen) (line longer : Line) (text bytes : List ℕ) → longer.held.items ≡ line.held.items ++ bytes → Gathers start now line text → Gathers start now longer (text ++ bytes)
held_more start now line longer text bytes more g = record {
  front = g.front;
  parts = ap (λ (l : List ℕ). l ++ bytes) g.parts ∙ append_assoc g.front line.held.items bytes ∙ ap (λ (l : List ℕ). g.front ++ l) (sym more);
  written = g.written;
}

-- what was held is written
pub passed_on : (start old new : Pen) (line emptied : Line) (text : List ℕ) → emptied.held.items ≡ [] → Writes old new line.held.items → Gathers start old line text → Gathers start new emptied text
passed_on start old new line emptied text none told g = record {
  front = g.front ++ line.held.items;
  parts = g.parts ∙ sym (append-nil (g.front ++ line.held.items)) ∙ ap (λ (l : List ℕ). (g.front ++ line.held.items) ++ l) (sym none);
  written = writes_trans g.written told;
}

-- bytes that are written at once, where nothing is held
pub written_at_once : (start old new : Pen) (emptied same : Line) (text bytes : List ℕ) → emptied.held.items ≡ [] → same.held.items ≡ [] → Writes old new bytes → Gathers start old emptied text → Gathers start new same (text ++ bytes)
written_at_once start old new emptied same text bytes none none_2 told g =
    let whole : text ≡ g.front = g.parts ∙ ap (λ (l : List ℕ). g.front ++ l) none ∙ append-nil g.front in
    record {
      front = text ++ bytes;
      parts = sym (append-nil (text ++ bytes)) ∙ ap (λ (l : List ℕ). (text ++ bytes) ++ l) (sym none_2);
      written = writes_trans (subst (Writes start old) (sym whole) g.written) told;
    }

-- ---- one after the other

infixl 10 ◌▹◌
pub ◌▹◌ : {a b c : Pen} {l m n : Line} {s t : List ℕ} → Adds a l b m s → Adds b m c n t → Adds a l c n (s ++ t)
◌▹◌ {a} {b} {c} {l} {m} {n} {s} {t} p q = λ start text g. subst (Gathers start c n) (append_assoc text s t) (q start (text ++ s) (p start text g))

-- five pieces behind others, which are added together
pub five_more : {a b c : Pen} {l m n : Line} {s : List ℕ} (p q r t u : List ℕ) → Adds a l b m s → Adds b m c n (p ++ q ++ r ++ t ++ u) → Adds a l c n (s ++ p ++ q ++ r ++ t ++ u)
five_more {a} {b} {c} {l} {m} {n} {s} p q r t u first more =
    let parts : s ++ (p ++ q ++ r ++ t ++ u) ≡ s ++ p ++ q ++ r ++ t ++ u =
    sym (append_assoc s (p ++ q ++ r ++ t) u) ∙ ap (λ (l : List ℕ). l ++ u) (sym (append_assoc s (p ++ q ++ r) t)
    ∙ ap (λ (l : List ℕ). l ++ t) (sym (append_assoc s (p ++ q) r) ∙ ap (λ (l : List ℕ). l ++ r) (sym (append_assoc s p q)))) in
    λ start text g. subst (λ (l : List ℕ). Gathers start c n (text ++ l)) parts ((first ▹ more) start text g)

-- a whole line, which is written at its end
pub whole_line : (a b c : Pen) (line full : Line) (text : List ℕ) → line.held.items ≡ [] → Adds a line b full text → Writes b c full.held.items → Writes a c text
whole_line a b c line full text none added told =
    let g = added a [] (record { front = []; parts = sym none; written = writes_nil a }) in
    subst (Writes a c) (sym g.parts) (writes_trans g.written told)

pub nothing_added : (pen : Pen) (line : Line) → Adds pen line pen line []
nothing_added pen line = λ start before g. subst (Gathers start pen line) (sym (append-nil before)) g

-- ---- row by row

-- what was gathered of a text so far, and what is left
pub record GathersFront (start now : Pen) (line : Line) (text left : List ℕ) : Type 0 where
  pub front : List ℕ
  pub parts : text ≡ front ++ left
  pub gathered : Gathers start now line front

pub none_gathered : (pen : Pen) (line : Line) (text : List ℕ) → line.held.items ≡ [] → GathersFront pen pen line text text
none_gathered pen line text none = record { front = []; parts = refl; gathered = record { front = []; parts = sym none; written = writes_nil pen } }

pub one_gathered : (start old now : Pen) (line longer : Line) (text left front later : List ℕ) → left ≡ front ++ later → GathersFront start old line text left → Adds old line now longer front
    → GathersFront start now longer text later
one_gathered start old now line longer text left front later e so_far more = record {
  front = so_far.front ++ front;
  parts = so_far.parts ∙ ap (λ (l : List ℕ). so_far.front ++ l) e ∙ sym (append_assoc so_far.front front later);
  gathered = more start so_far.front so_far.gathered;
}

-- nothing is left, and what is held is written
pub all_gathered : (start old now : Pen) (line : Line) (text left : List ℕ) → left ≡ [] → GathersFront start old line text left → Writes old now line.held.items → Writes start now text
all_gathered start old now line text left none so_far told =
    let whole = so_far.parts ∙ ap (λ (l : List ℕ). so_far.front ++ l) none ∙ append-nil so_far.front ∙ so_far.gathered.parts in
    subst (Writes start now) (sym whole) (writes_trans so_far.gathered.written told)

-- ---- character by character

-- what was added of a text so far, and what is left
pub record AddsFront (old now : Pen) (line longer : Line) (text left : List ℕ) : Type 0 where
  pub front : List ℕ
  pub parts : text ≡ front ++ left
  pub added : Adds old line now longer front

pub none_added : (pen : Pen) (line : Line) (text : List ℕ) → AddsFront pen pen line line text text
none_added pen line text = record { front = []; parts = refl; added = nothing_added pen line }

pub one_added : (old mid now : Pen) (line longer full : Line) (text left front later : List ℕ) → left ≡ front ++ later → AddsFront old mid line longer text left → Adds mid longer now full front → AddsFront old now line full text later
one_added old mid now line longer full text left front later e so_far more = record {
  front = so_far.front ++ front;
  parts = so_far.parts ∙ ap (λ (l : List ℕ). so_far.front ++ l) e ∙ sym (append_assoc so_far.front front later);
  added = so_far.added ▹ more;
}
