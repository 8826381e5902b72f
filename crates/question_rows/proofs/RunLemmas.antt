-- Items are written one behind the other.
use Rattle.std.proofs.Common.{◌≡◌, ℕ, Bool, true, false, List, [], ◌∷◌, ◌++◌, map, refl, sym, ap, ap₂, subst, ◌∙◌, append_assoc}
use Rattle.std.specs.Prelude.{◌&&◌, filter, if◌then◌else◌}
use Rattle.std.proofs.lemmas.Bool.{cond-true, cond-false}
use Rattle.hii_bytes.specs.Watching.{Pen, Writes}
use Rattle.hii_bytes.specs.code.Writing.{Stands}
use Rattle.hii_bytes.proofs.WritingLemmas.{Stands-all, Stands-start, past_piece, writes_trans}
use Rattle.question_rows.specs.Elements.{end_of, has_none, listed, run}

-- Of some items these are left, behind others or as the first ones.
pub record Runs (start between : List ℕ) (before : Bool) (all : List (List ℕ)) (is_first : Bool) (left : List (List ℕ)) (old new : Pen) : Type 0 where
  pub stands : Stands old new (run start between before all) (run start between is_first left)
  pub first : (is_first && has_none left) ≡ (before && has_none all)

-- at first all are
pub runs_start : {X : Type 0} (start between : List ℕ) (before : Bool) (item : X → List ℕ) (a : Pen) (all left : List X) → left ≡ all → Runs start between before (map item all) before (map item left) a a
runs_start start between before item a all left e =
    subst (λ (l : List _). Runs start between before (map item all) before (map item l) a a) (sym e)
    (record { stands = Stands-start a (run start between before (map item all)); first = refl })

both_false : (b : Bool) → (b && false) ≡ false
both_false true = refl
both_false false = refl

both_true : (b : Bool) → (b && true) ≡ b
both_true true = refl
both_true false = refl

-- past one more
pub runs_next : {X : Type 0} {start between : List ℕ} {before : Bool} {all : List (List ℕ)} {is_first : Bool} {left rest : List X} {a b c d : Pen} (item : X → List ℕ) (x : X) → left ≡ x ∷ rest
    → Runs start between before all is_first (map item left) a b → Writes b c (if is_first then start else between) → Writes c d (item x) → Runs start between before all false (map item rest) a d
runs_next {X} {start} {between} {before} {all} {is_first} {left} {rest} {a} {b} {c} {d} item x e r w v = record {
  stands = past_piece a b d (run start between before all) (run start between is_first (map item left)) ((if is_first then start else between) ++ item x) (run start between false (map item rest))
      (ap (λ (xs : List X). run start between is_first (map item xs)) e) r.stands (writes_trans w v);
  first = sym (both_false is_first) ∙ ap (λ (xs : List X). is_first && has_none (map item xs)) (sym e) ∙ r.first;
}

-- at last none is left
pub runs_end : {X : Type 0} {start between : List ℕ} {before : Bool} {all : List (List ℕ)} {is_first : Bool} {left : List X} {a b : Pen} (item : X → List ℕ) → left ≡ []
    → Runs start between before all is_first (map item left) a b → Writes a b (run start between before all)
runs_end {X} {start} {between} {before} {all} {is_first} {left} {a} {b} item e r = Stands-all a b (run start between before all) (run start between is_first (map item left)) r.stands (ap (λ (xs : List X). run start between is_first (map item xs)) e)

pub runs_first : {X : Type 0} {start between : List ℕ} {before : Bool} {all : List (List ℕ)} {is_first : Bool} {left : List X} {a b : Pen} (item : X → List ℕ) → left ≡ []
    → Runs start between before all is_first (map item left) a b → is_first ≡ (before && has_none all)
runs_first {X} {start} {between} {before} {all} {is_first} {left} {a} {b} item e r = sym (both_true is_first) ∙ ap (λ (xs : List X). is_first && has_none (map item xs)) (sym e) ∙ r.first

-- where those alone are items that pass a test
pub runs_passing : {X : Type 0} {start between : List ℕ} {before : Bool} {all : List (List ℕ)} {is_first : Bool} {left rest : List X} {a b c d : Pen} (item : X → List ℕ) (test : X → Bool) (x : X) → left ≡ x ∷ rest
    → test x ≡ true → Runs start between before all is_first (map item (filter test left)) a b → Writes b c (if is_first then start else between) → Writes c d (item x)
    → Runs start between before all false (map item (filter test rest)) a d
runs_passing {X} {start} {between} {before} {all} {is_first} {left} {rest} item test x e is r w v = runs_next item x (ap (filter test) e ∙ cond-true (test x) (x ∷ filter test rest) (filter test rest) is) r w v

pub runs_failing : {X : Type 0} {start between : List ℕ} {before : Bool} {all : List (List ℕ)} {is_first : Bool} {left rest : List X} {a b : Pen} (item : X → List ℕ) (test : X → Bool) (x : X) → left ≡ x ∷ rest
    → test x ≡ false → Runs start between before all is_first (map item (filter test left)) a b → Runs start between before all is_first (map item (filter test rest)) a b
runs_failing {X} {start} {between} {before} {all} {is_first} {left} {rest} {a} {b} item test x e other r =
    subst (λ (xs : List X). Runs start between before all is_first (map item xs) a b) (ap (filter test) e ∙ cond-false (test x) (x ∷ filter test rest) (filter test rest) other) r

-- ---- some items, and then others

none_of_both : (items others : List (List ℕ)) → has_none (items ++ others) ≡ (has_none items && has_none others)
none_of_both [] others = refl
none_of_both (item ∷ items) others = refl

run_behind : (start between : List ℕ) (items others : List (List ℕ)) → run start between false (items ++ others) ≡ run start between false items ++ run start between false others
run_behind start between [] others = refl
run_behind start between (item ∷ items) others =
    ap (λ (l : List ℕ). (between ++ item) ++ l) (run_behind start between items others)
    ∙ sym (append_assoc (between ++ item) (run start between false items) (run start between false others))

run_both : (start between : List ℕ) (items others : List (List ℕ)) → run start between true (items ++ others) ≡ run start between true items ++ run start between (has_none items) others
run_both start between [] others = refl
run_both start between (item ∷ items) others =
    ap (λ (l : List ℕ). (start ++ item) ++ l) (run_behind start between items others)
    ∙ sym (append_assoc (start ++ item) (run start between false items) (run start between false others))

pub listed_both : (start between end : List ℕ) (items others : List (List ℕ))
    → (run start between true items ++ run start between (has_none items) others) ++ end_of end (has_none items && has_none others) ≡ listed start between end (items ++ others)
listed_both start between end items others =
    ap₂ (λ (l : List ℕ) (n : Bool). l ++ end_of end n) (sym (run_both start between items others)) (sym (none_of_both items others))
