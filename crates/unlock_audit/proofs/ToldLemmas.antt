-- What is told of a question and of its answer.
use Rattle.std.proofs.Common.{◌≡◌, ℕ, ◌-◌, Bool, true, false, Bor, Option, Some, None, List, [], ◌∷◌, ◌++◌, codes, map, refl, sym, ap, ◌∙◌, append-nil, append_assoc, arith, inl, inr, subst}
use Rattle.std.specs.Prelude.{◌==◌, if◌then◌else◌, filter, is_err, is_some, min, option_copied, option_map}
use Rattle.std.proofs.lemmas.Bool.{cases_Bool, cond-false, cond-true}
use Rattle.std.proofs.lemmas.List.{map-append}
use Rattle.hii_bytes.specs.Watching.{Pen, Writes}
use Rattle.hii_bytes.specs.code.Writing.{Stands}
use Rattle.hii_bytes.proofs.WritingLemmas.{past_piece, writes_trans}
use Rattle.audit_json.specs.Objects.{array_begun, before_item}
use Rattle.audit_json.specs.declared.telling.Telling.{Telling}
use Rattle.audit_json.proofs.ArrayLemmas.{Lists}
use Rattle.question_objects.proofs.ListingLemmas.{value_next}
use Rattle.condition_text.specs.code.Conditions.{words_of}
use Rattle.condition_text.specs.declared.condition.ConditionText.{ConditionText}
use Rattle.ifr_opcodes.specs.Fields.{question_id}
use Rattle.hii_questions.specs.Fields.{Asked}
use Rattle.guard_policy.specs.Policy.{fixed, is_never_changed}
use Rattle.guard_policy.specs.World.{World}
use Rattle.guard_policy.specs.code.Answers.{unless}
use Rattle.guard_policy.specs.declared.denial.Denial.{Denial}
use Rattle.question_audit.specs.FormLines.{denial_text}
use Rattle.question_audit.specs.ScriptValues.{behind}
use Rattle.session_steps.specs.State.{State}
use Rattle.unlock_audit.specs.Told.{each_told, reason_text, unlock_told}
use Rattle.unlock_audit.specs.Unlock.{is_asked_over, most_tries, never, unlock}
use Rattle.unlock_audit.specs.code.Answers.{answer_meant}
use Rattle.unlock_audit.specs.code.Details.{AreDetails}
use Rattle.unlock_audit.specs.declared.answer.Answer.{Answer}
use Rattle.unlock_audit.specs.declared.answer.Answer.TheVariants.{Never}
use Rattle.unlock_audit.specs.declared.words.Details.{Details}

-- ---- a reason with its condition

condition_told : (o : Option (Bor ConditionText)) → behind (codes ": ") (option_map (λ (text : Bor ConditionText). words_of text.now) o) ≡ behind (codes ": ") (option_map words_of (option_copied o))
condition_told None = refl
condition_told (Some text) = refl

reason_told : (s : State) (q : Asked) (reason : Denial) (d : Details) (o : Option (Bor ConditionText)) → option_copied o ≡ d.condition → AreDetails s q (never reason) d
    → denial_text reason ++ behind (codes ": ") (option_map (λ (text : Bor ConditionText). words_of text.now) o) ≡ reason_text q.node reason
reason_told s q reason d o e are =
    ap (λ (l : List ℕ). denial_text reason ++ l) (condition_told o ∙ ap (λ (c : Option ConditionText). behind (codes ": ") (option_map words_of c)) e ∙ are)

pub never_told : (s : State) (q : Asked) (d : Details) (o : Option (Bor ConditionText)) {answer : Answer} {reason : Denial} → option_copied o ≡ d.condition → answer ≡ Never reason → AreDetails s q (answer_meant answer) d
    → denial_text reason ++ behind (codes ": ") (option_map (λ (text : Bor ConditionText). words_of text.now) o) ≡ reason_text q.node reason
never_told s q d o {answer} {reason} e is are = reason_told s q reason d o e (subst (λ (a : Answer). AreDetails s q (answer_meant a) d) is are)

-- ---- the questions that are asked

pub denied_is : (o : Option Denial) → is_err (unless o) ≡ is_some o
denied_is None = refl
denied_is (Some denial) = refl

pub asked_where : (w : World) (q : Asked) → (question_id q.node.op == 0) ≡ false → is_never_changed q ≡ false → is_asked_over w q ≡ is_some (fixed w q.node)
asked_where w q id changes = rw (id, changes) refl

pub no_id : (w : World) (q : Asked) → (question_id q.node.op == 0) ≡ true → is_asked_over w q ≡ false
no_id w q none = rw none refl

pub never_asked : (w : World) (q : Asked) → is_never_changed q ≡ true → is_asked_over w q ≡ false
never_asked w q is = elim (cases_Bool (question_id q.node.op == 0)) [ inl none ↦ rw none refl | inr some ↦ rw (some, is) refl ]

module _ {X Y : Type 0} (view : X → Y) (test : Y → Bool) where
  -- one more that passes a test is added, and one that fails is not
  pub passing_added : (items later : List X) (left rest all : List Y) (x : X) → later ≡ items ++ x ∷ [] → left ≡ view x ∷ rest → test (view x) ≡ true → map view items ++ filter test left ≡ all → map view later ++ filter test rest ≡ all
  passing_added items later left rest all x e steps is inv =
      ap (λ (l : List X). map view l ++ filter test rest) e ∙ ap (λ (l : List Y). l ++ filter test rest) (map-append view items (x ∷ [])) ∙ append_assoc (map view items) (view x ∷ []) (filter test rest)
      ∙ ap (λ (l : List Y). map view items ++ l) (sym (cond-true (test (view x)) (view x ∷ filter test rest) (filter test rest) is)) ∙ ap (λ (l : List Y). map view items ++ filter test l) (sym steps) ∙ inv

  pub failing_left : (items : List X) (left rest all : List Y) (x : X) → left ≡ view x ∷ rest → test (view x) ≡ false → map view items ++ filter test left ≡ all → map view items ++ filter test rest ≡ all
  failing_left items left rest all x steps is inv =
      ap (λ (l : List Y). map view items ++ l) (sym (cond-false (test (view x)) (view x ∷ filter test rest) (filter test rest) is)) ∙ ap (λ (l : List Y). map view items ++ filter test l) (sym steps) ∙ inv

-- ---- the tries are shared

pub most_is : (left : ℕ) → min left 4096 ≡ min 4096 left
most_is left = omega arith

-- one more question is told
question_next : {a b c : Pen} {text : List ℕ} (telling : Telling) (s : State) (left tried : ℕ) (qs rest : List Asked) (q : Asked) → qs ≡ q ∷ rest → Stands a b text (each_told telling s left qs)
    → (tried ≡ (unlock s (most_tries left) q).tried) × Writes b c (unlock_told telling s q (unlock s (most_tries left) q)) → Stands a c text (each_told telling s (left - tried) rest)
question_next {a} {b} {c} {text} telling s left tried qs rest q e stands told =
    let u = unlock s (most_tries left) q in
    let parts : each_told telling s left qs ≡ unlock_told telling s q u ++ each_told telling s (left - tried) rest =
    ap (each_told telling s left) e ∙ ap (λ (n : ℕ). unlock_told telling s q u ++ each_told telling s (left - n) rest) (sym told.0) in
    past_piece a b c text (each_told telling s left qs) (unlock_told telling s q u) (each_told telling s (left - tried) rest) parts stands told.1

pub question_more : {a b c : Pen} {text : List ℕ} (telling : Telling) (s st : State) (left tried : ℕ) (qs rest : List Asked) (q : Asked) → st ≡ s → qs ≡ q ∷ rest → Stands a b text (each_told telling s left qs)
    → (tried ≡ (unlock st (most_tries left) q).tried) × Writes b c (unlock_told telling st q (unlock st (most_tries left) q)) → Stands a c text (each_told telling s (left - tried) rest)
question_more {a} {b} {c} {text} telling s st left tried qs rest q same e stands told =
    question_next telling s left tried qs rest q e stands (subst (λ (x : State). (tried ≡ (unlock x (most_tries left) q).tried) × Writes b c (unlock_told telling x q (unlock x (most_tries left) q))) same told)

-- ---- a `submit` behind commands

pub submitted : {key : List ℕ} {all : List (List ℕ)} {is_first : Bool} {a b c : Pen} (again : Bool) (item : List ℕ) → Lists key all (if again then item ∷ [] else []) is_first a b
    → Writes b c (if again then before_item key is_first ++ item else []) → Lists key all [] (if again then false else is_first) a c
submitted true item l w = value_next item l refl w
submitted {key} {all} {is_first} {a} {b} {c} false item l w = record {
  done = l.done;
  whole = l.whole;
  first = l.first;
  written = subst (Writes a c) (append-nil (array_begun key l.done)) (writes_trans l.written w);
}
