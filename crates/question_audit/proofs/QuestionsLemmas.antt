-- The questions among the statements of a form, and the forms of a package.
use Rattle.std.proofs.Common.{◌≡◌, ℕ, zero, suc, Bool, true, false, Some, None, List, [], ◌∷◌, ◌++◌, if◌then◌else◌, map, refl, ap, subst, ◌∙◌, arith, inl, inr}
use Rattle.std.specs.Prelude.{Contains, filter}
use Rattle.std.specs.List.{flat_map}
use Rattle.std.proofs.lemmas.Bool.{cases_Bool}
use Rattle.std.proofs.lemmas.List.Elements.{All-filter}
use Rattle.ifr_opcodes.specs.Forest.{Node}
use Rattle.ifr_nodes.specs.Accepted.{IsAccepted}
use Rattle.ifr_nodes.specs.Nodes.{is_form, is_question, nodes_of}
use Rattle.ifr_nodes.specs.code.Checked.{AreNodesOf, IsNodeOf}
use Rattle.ifr_nodes.proofs.ScopeLemmas.{all_nodes}
use Rattle.ifr_nodes.proofs.ViewLemmas.{contains_found}
use Rattle.hii_varstore.specs.Layout.{Shape}
use Rattle.hii_questions.specs.Fields.{Asked, asked, questions}
use Rattle.hii_questions.specs.code.LyingIn.{LieIn, LiesIn}
use Rattle.guard_policy.specs.code.Views.{bytes_of}
use Rattle.guard_policy.specs.declared.policy.Policy.{Policy}

-- what a statement says that is a question, and one that is none
pub question_of : (asks : Bool) (q r : Asked) → Some q ≡ (if asks then Some r else None) → (asks ≡ true) × (q ≡ r)
question_of true q r e = (refl, cc)
question_of false q r e = absurd cc

-- the question that a statement is, over the package of another policy that is the same
pub said_of : (n : Node) (q : Asked) (other policy : Policy) → other ≡ policy → Some q ≡ (if is_question n then Some (asked (nodes_of (bytes_of other)) n) else None)
    → (is_question n ≡ true) × (q ≡ asked (nodes_of (bytes_of policy)) n)
said_of n q other policy same e =
    question_of (is_question n) q (asked (nodes_of (bytes_of policy)) n)
    (subst (λ (p : Policy). Some q ≡ (if is_question n then Some (asked (nodes_of (bytes_of p)) n) else None)) same e)

pub no_question_of : (asks : Bool) (r : Asked) → None ≡ (if asks then Some r else None) → asks ≡ false
no_question_of true r e = absurd cc
no_question_of false r e = refl

-- what is left to tell before and behind a statement
pub with_question : (told : Node → List ℕ) (n : Node) (left after : List Node) → left ≡ n ∷ after → is_question n ≡ true
    → flat_map told (filter is_question left) ≡ told n ++ flat_map told (filter is_question after)
with_question told n left after e is = ap (λ (l : List Node). flat_map told (filter is_question l)) e ∙ here
  where
    here : flat_map told (filter is_question (n ∷ after)) ≡ told n ++ flat_map told (filter is_question after)
    here = rw is refl

pub without_question : (told : Node → List ℕ) (n : Node) (left after : List Node) → left ≡ n ∷ after → is_question n ≡ false
    → flat_map told (filter is_question left) ≡ flat_map told (filter is_question after)
without_question told n left after e is = ap (λ (l : List Node). flat_map told (filter is_question l)) e ∙ here
  where
    here : flat_map told (filter is_question (n ∷ after)) ≡ flat_map told (filter is_question after)
    here = rw is refl

-- where the questions of some nodes lie in their stores, one of these does
lies_among : (shape : Shape) (view : Node → Asked) (ns : List Node) (n : Node) → LieIn shape (map view (filter is_question ns)) → Contains ns n → is_question n ≡ true → LiesIn shape (view n)
lies_among shape view [] n lie (k, lt, e) is = absurd (omega arith)
lies_among shape view (m ∷ ns) n lie (zero, lt, e) is =
    let asks : is_question m ≡ true = ap is_question e ∙ is in
    subst (λ (x : Node). LiesIn shape (view x)) e (rw asks at lie).0
lies_among shape view (m ∷ ns) n lie (suc k, lt, e) is = elim (cases_Bool (is_question m)) [
  | inl asks ↦ lies_among shape view ns n (rw asks at lie).1 (k, omega arith, e) is
  | inr other ↦ lies_among shape view ns n (rw other at lie) (k, omega arith, e) is
]

pub question_lies : (shape : Shape) (bytes : List ℕ) (n : Node) → LieIn shape (questions (nodes_of bytes)) → IsNodeOf bytes n → is_question n ≡ true → LiesIn shape (asked (nodes_of bytes) n)
question_lies shape bytes n lie node is = lies_among shape (asked (nodes_of bytes)) (nodes_of bytes) n lie (contains_found (nodes_of bytes) n.place n node) is

-- ---- the forms of a package

pub forms_are_nodes : (bytes : List ℕ) → IsAccepted bytes → AreNodesOf bytes (filter is_form (nodes_of bytes))
forms_are_nodes bytes accepted = All-filter is_form (IsNodeOf bytes) (nodes_of bytes) (all_nodes bytes accepted.checked.spelled)
