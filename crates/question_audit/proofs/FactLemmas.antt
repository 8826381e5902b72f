-- Facts are written line by line.
use Rattle.std.proofs.Common.{◌≡◌, ℕ, Bool, true, false, Option, Some, None, List, [], ◌∷◌, codes, refl, sym, ap, subst, ◌∙◌, inl, inr}
use Rattle.std.specs.Prelude.{MatchOption, filter, is_some}
use Rattle.std.specs.List.{flat_map}
use Rattle.std.proofs.lemmas.Bool.{cases_Bool, cond-true, cond-false}
use Rattle.hii_bytes.specs.Watching.{Pen, Writes}
use Rattle.hii_bytes.specs.code.Writing.{Stands}
use Rattle.hii_bytes.proofs.WritingLemmas.{Stands-start, Stands-all, past_piece}
use Rattle.audit_text.specs.Texts.{safe_text}
use Rattle.question_audit.specs.QuestionLines.{word_where}
use Rattle.question_audit.specs.ConditionFacts.{fact}
use Rattle.question_audit.specs.QuestionFacts.{help_fact}

-- one more item is written
pub past_item : {X : Type 0} (line : X → List ℕ) (a b c : Pen) (text : List ℕ) (left rest : List X) (x : X) → left ≡ x ∷ rest
    → Stands a b text (flat_map line left) → Writes b c (line x) → Stands a c text (flat_map line rest)
past_item line a b c text left rest x e s w = past_piece a b c text (flat_map line left) (line x) (flat_map line rest) (ap (flat_map line) e) s w

-- one that passes a test is, and one that fails is passed over
pub past_passing : {X : Type 0} (line : X → List ℕ) (test : X → Bool) (a b c : Pen) (text : List ℕ) (left rest : List X) (x : X) → left ≡ x ∷ rest → test x ≡ true
    → Stands a b text (flat_map line (filter test left)) → Writes b c (line x) → Stands a c text (flat_map line (filter test rest))
past_passing line test a b c text left rest x e is s w =
    past_item line a b c text (filter test left) (filter test rest) x (ap (filter test) e ∙ cond-true (test x) (x ∷ filter test rest) (filter test rest) is) s w

pub past_failing : {X : Type 0} (line : X → List ℕ) (test : X → Bool) (a b : Pen) (text : List ℕ) (left rest : List X) (x : X) → left ≡ x ∷ rest → test x ≡ false
    → Stands a b text (flat_map line (filter test left)) → Stands a b text (flat_map line (filter test rest))
past_failing line test a b text left rest x e is s =
    subst (λ (l : List _). Stands a b text (flat_map line l)) (ap (filter test) e ∙ cond-false (test x) (x ∷ filter test rest) (filter test rest) is) s

-- a help text that has a first character
pub told_help : (text after : List ℕ) (r : Option ℕ) → MatchOption r ((text ≡ []) × (after ≡ [])) (λ c. text ≡ c ∷ after) → is_some r ≡ true → fact (codes "help") (safe_text text) ≡ help_fact text
told_help text after None m e = absurd cc
told_help text after (Some c) m e = rw m refl

-- at first all items are left, and at last none
pub all_left : {X : Type 0} (line : X → List ℕ) (a : Pen) (all left : List X) → left ≡ all → Stands a a (flat_map line all) (flat_map line left)
all_left line a all left e = subst (λ (l : List _). Stands a a (flat_map line all) (flat_map line l)) (sym e) (Stands-start a (flat_map line all))

pub none_left : {X : Type 0} (line : X → List ℕ) (a b : Pen) (text : List ℕ) (left : List X) → left ≡ [] → Stands a b text (flat_map line left) → Writes a b text
none_left line a b text left e s = Stands-all a b text (flat_map line left) s (ap (flat_map line) e)

-- one that is written where it passes a test
pub past_either : {X : Type 0} (line : X → List ℕ) (test : X → Bool) (a b c : Pen) (text : List ℕ) (left rest : List X) (x : X) → left ≡ x ∷ rest
    → Stands a b text (flat_map line (filter test left)) → Writes b c (word_where (test x) (line x)) → Stands a c text (flat_map line (filter test rest))
past_either line test a b c text left rest x e s w = elim (cases_Bool (test x)) [
  | inl is ↦ past_passing line test a b c text left rest x e is s (subst (Writes b c) (cond-true (test x) (line x) [] is) w)
  | inr other ↦ past_piece a b c text _ [] _ refl (past_failing line test a b text left rest x e other s) (subst (Writes b c) (cond-false (test x) (line x) [] other) w)
]
