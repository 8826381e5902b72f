-- Each question of an accepted package stands in the scope of one form, and the places of questions rise.
use Rattle.std.proofs.Common.{◌≡◌, ℕ, ◌+◌, ◌<◌, Bool, true, false, List, [], ◌∷◌, ◌++◌, length, get_or, refl, sym, ap, ◌∙◌, inl, inr, arith, length-append}
use Rattle.std.specs.Prelude.{◌==◌, Contains, filter}
use Rattle.std.specs.List.{flat_map}
use Rattle.std.proofs.lemmas.Bool.{cases_Bool, cond-true, cond-false, eqb-true}
use Rattle.std.proofs.lemmas.Grind.{flat_map-append}
use Rattle.std.proofs.lemmas.List.Elements.{filter-append, Contains-append_left, Contains-append_right, Contains-get_or}
use Rattle.ifr_opcodes.specs.declared.codes.TheConstants.{FORM}
use Rattle.ifr_opcodes.specs.Opcode.{number}
use Rattle.ifr_opcodes.specs.Forest.{Forest, none, node, flat, Ancestor, Node, as_ancestor, nodes_at, places}
use Rattle.ifr_opcodes.specs.Reading.{tree_of}
use Rattle.ifr_opcodes.proofs.StatementLemmas.{question_is_statement}
use Rattle.ifr_nodes.specs.Accepted.{IsAccepted}
use Rattle.ifr_nodes.specs.Checked.{IsChecked}
use Rattle.ifr_nodes.specs.Nodes.{nodes_of, is_form, is_question}
use Rattle.ifr_nodes.specs.Rules.{forms_among}
use Rattle.ifr_scopes.proofs.FormFacts.{statement_form}
use Rattle.ifr_nodes.proofs.PlaceLemmas.{nodes_within, rise}
use Rattle.ifr_nodes.proofs.RuleFacts.{no_form_around}
use Rattle.ifr_nodes.proofs.ScopeLemmas.{path_inside}
use Rattle.ifr_nodes.proofs.ViewLemmas.{further}
use Rattle.hii_values.proofs.OrderLemmas.{filter_none}
use Rattle.hii_questions.proofs.PartLemmas.{some_within}
use Rattle.hii_questions.proofs.QuestionLemmas.{among_statements}
use Rattle.question_audit.specs.FormLines.{form_questions}

-- ---- the questions of forms, form by form

-- the questions of the forms among nodes, form by form
abbrev by_form : List Node → List Node
by_form ns = flat_map form_questions (filter is_form ns)

by_form-append : (xs ys : List Node) → by_form (xs ++ ys) ≡ by_form xs ++ by_form ys
by_form-append xs ys = ap (flat_map form_questions) (filter-append is_form xs ys) ∙ flat_map-append form_questions (filter is_form xs) (filter is_form ys)

-- no path with a form on it is without forms
form_on : (path inside : List Ancestor) (a : Ancestor) → (number a.op == FORM) ≡ true → forms_among ((path ++ a ∷ []) ++ inside) ≡ [] → ⊥
form_on path inside a form bare =
    let test : Ancestor → Bool = λ b. number b.op == FORM in
    let parts : forms_among ((path ++ a ∷ []) ++ inside) ≡ (forms_among path ++ forms_among (a ∷ [])) ++ forms_among inside = filter-append test (path ++ a ∷ []) inside ∙ ap (λ (l : List Ancestor). l ++ forms_among inside) (filter-append test path (a ∷ [])) in
    let itself : forms_among (a ∷ []) ≡ a ∷ [] = cond-true (test a) _ _ form in
    omega (arith, ap (λ (l : List Ancestor). length l) (sym bare ∙ parts), ap (λ (l : List Ancestor). length l) itself, length-append (forms_among path ++ forms_among (a ∷ [])) (forms_among inside), length-append (forms_among path) (forms_among (a ∷ [])))

-- Of these nodes each question has a form around it, and no form has one.
record AreHeld (ns : List Node) : Type 0 where
  pub questions : (n : Node) → Contains ns n → is_question n ≡ true → forms_among n.path ≡ [] → ⊥
  pub forms : (n : Node) → Contains ns n → is_form n ≡ true → forms_among n.path ≡ []

-- outside of forms, the questions of a forest are those of its forms
one_form : (f : Forest) (at : ℕ) (path : List Ancestor) → forms_among path ≡ [] → AreHeld (nodes_at at path f) → by_form (nodes_at at path f) ≡ filter is_question (nodes_at at path f)
one_form none at path bare held = refl
one_form (node op children rest) at path bare held =
    let behind = at + length (flat (node op children none)) in
    let n : Node = record { place = at; op = op; path = path; children = children } in
    let a = as_ancestor n in
    let entered = path ++ a ∷ [] in
    let its = nodes_at (at + length op) entered children in
    let after = nodes_at behind path rest in
    let in_its : (m : Node) → Contains its m → Contains (n ∷ (its ++ after)) m = λ m w. further n (its ++ after) m (Contains-append_left its after m w) in
    let in_after : (m : Node) → Contains after m → Contains (n ∷ (its ++ after)) m = λ m w. further n (its ++ after) m (Contains-append_right its after m w) in
    let later : by_form after ≡ filter is_question after =
    one_form rest behind path bare (record { questions = λ m w. held.questions m (in_after m w); forms = λ m w. held.forms m (in_after m w) }) in
    let silent : is_question n ≡ false = elim (cases_Bool (is_question n)) [
      | inl asks ↦ absurd (held.questions n (0, omega arith, refl) asks bare)
      | inr other ↦ other
    ] in
    let asked : filter is_question (n ∷ (its ++ after)) ≡ filter is_question its ++ filter is_question after = cond-false (is_question n) _ _ silent ∙ filter-append is_question its after in
    elim (cases_Bool (is_form n)) [
      | inl form ↦
          let form_free : filter is_form its ≡ [] = filter_none is_form its (λ k d lt.
          let m = get_or its k d in
          let w = Contains-get_or its k d lt in
          elim (cases_Bool (is_form m)) [
            | inl is ↦
                let inside = path_inside children (at + length op) entered m w in
                absurd (form_on path inside.0 a form (ap forms_among (sym inside.1) ∙ held.forms m (in_its m w) is))
            | inr other ↦ other
          ]) in
          let forms : filter is_form (n ∷ (its ++ after)) ≡ n ∷ filter is_form after =
          cond-true (is_form n) _ _ form ∙ ap (λ (l : List Node). n ∷ l) (filter-append is_form its after ∙ ap (λ (l : List Node). l ++ filter is_form after) form_free) in
          ap (flat_map form_questions) forms ∙ ap (λ (l : List Node). l ++ by_form after) (among_statements its) ∙ ap (λ (l : List Node). filter is_question its ++ l) later ∙ sym asked
      | inr plain ↦
          let still : forms_among entered ≡ [] = filter-append (λ (b : Ancestor). number b.op == FORM) path (a ∷ []) ∙ ap (λ (l : List Ancestor). l ++ forms_among (a ∷ [])) bare ∙ cond-false (is_form n) _ _ plain in
          let inner : by_form its ≡ filter is_question its =
          one_form children (at + length op) entered still (record { questions = λ m w. held.questions m (in_its m w); forms = λ m w. held.forms m (in_its m w) }) in
          ap (flat_map form_questions) (cond-false (is_form n) _ _ plain) ∙ by_form-append its after ∙ ap (λ (l : List Node). l ++ by_form after) inner ∙ ap (λ (l : List Node). filter is_question its ++ l) later ∙ sym asked
    ]

-- a question of a checked package has a form around it
form_around : (bytes : List ℕ) (n : Node) → IsChecked bytes → Contains (nodes_of bytes) n → is_question n ≡ true → forms_among n.path ≡ [] → ⊥
form_around bytes n checked within asks bare =
    let h = statement_form bytes n checked within (question_is_statement (number n.op) asks) in
    let form = h.form in
    let inside = path_inside form.children (form.place + length form.op) (form.path ++ as_ancestor form ∷ []) n h.below in
    form_on form.path inside.0 (as_ancestor form) h.is (ap forms_among (sym inside.1) ∙ bare)

-- The questions of the forms of an accepted package, form by form, are all its questions by place.
pub questions_by_form : (bytes : List ℕ) → IsAccepted bytes → flat_map form_questions (filter is_form (nodes_of bytes)) ≡ filter is_question (nodes_of bytes)
questions_by_form bytes accepted =
    let checked = accepted.checked in
    one_form (tree_of bytes) 4 [] refl (record {
      questions = λ n within. form_around bytes n checked within;
      forms = λ n within form. no_form_around bytes n checked within (eqb-true (number n.op) FORM form);
    })

-- ---- their places

-- The places of the questions of an accepted package rise.
pub questions_rise : (bytes : List ℕ) (i j : ℕ) → IsAccepted bytes → i < j → j < length (filter is_question (nodes_of bytes))
    → get_or (places (filter is_question (nodes_of bytes))) i 0 < get_or (places (filter is_question (nodes_of bytes))) j 0
questions_rise bytes i j accepted less lt =
    let f = tree_of bytes in
    let high = 4 + length (flat f) in
    rise (filter is_question (nodes_of bytes)) 4 high i j (some_within is_question (nodes_of bytes) 4 high (nodes_within f 4 [] accepted.checked.spelled.are_nodes)) less lt
