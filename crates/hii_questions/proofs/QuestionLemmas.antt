-- The questions of a package among its nodes.
use Rattle.std.proofs.Common.{◌≡◌, ℕ, Bool, true, false, eqb, cond, Some, None, List, [], ◌∷◌, map, refl, sym, ap, ◌∙◌, inl, inr}
use Rattle.std.specs.Prelude.{◌&&◌, ◌==◌, Option, option_and_then, option_map, filter}
use Rattle.std.specs.List.{find}
use Rattle.std.proofs.lemmas.Bool.{cases_Bool, cond-false}
use Rattle.ifr_opcodes.specs.Fields.{question_id}
use Rattle.ifr_opcodes.specs.Forest.{Node}
use Rattle.ifr_opcodes.specs.Opcode.{number}
use Rattle.ifr_opcodes.proofs.StatementLemmas.{question_is_statement as number_is_statement}
use Rattle.ifr_nodes.specs.Nodes.{is_question, is_statement}
use Rattle.hii_varstore.specs.Layout.{Shape}
use Rattle.hii_questions.specs.Fields.{Asked, asked, asked_at, field_of, question_with}
use Rattle.hii_questions.specs.code.Tables.{first_with}

-- what is found among those that pass a first test
pub found_among : {X : Type 0} (p q : X → Bool) (xs : List X) → find q (filter p xs) ≡ find (λ x. p x && q x) xs
found_among p q [] = refl
found_among p q (x ∷ xs) = elim (cases_Bool (p x)) [
  | inl here ↦ rw here (ap (cond (q x) (Some x)) (found_among p q xs))
  | inr other ↦ rw other (found_among p q xs)
]

-- what is found among things that are seen
pub found_mapped : {X Y : Type 0} (f : X → Y) (p : Y → Bool) (xs : List X) → find p (map f xs) ≡ option_map f (find (λ x. p (f x)) xs)
found_mapped f p [] = refl
found_mapped f p (x ∷ xs) = elim (cases_Bool (p (f x))) [
  | inl here ↦ rw here refl
  | inr other ↦ rw other (found_mapped f p xs)
]

-- the first question of an id that is not 0 is the question of this id
pub first_is_with : (shape : Shape) (ns : List Node) (id : ℕ) → eqb id 0 ≡ false
    → first_with (map (asked_at shape) (filter is_question ns)) id ≡ option_map (asked_at shape) (question_with ns id)
first_is_with shape ns id some =
    found_mapped (asked_at shape) (λ (q : Asked). question_id q.node.op == id) (filter is_question ns)
    ∙ ap (option_map (asked_at shape)) (found_among is_question (λ n. question_id n.op == id) ns ∙ sym (cond-false (eqb id 0) None _ some))

-- What passes a second test passes a first.
filter_twice : (p q : Node → Bool) (ns : List Node) → ((n : Node) → q n ≡ true → p n ≡ true) → filter q (filter p ns) ≡ filter q ns
filter_twice p q [] stronger = refl
filter_twice p q (n ∷ ns) stronger = elim (cases_Bool (q n)) [
  | inl here ↦ let first = stronger n here in rw (first, here) (ap (λ (l : List Node). n ∷ l) (filter_twice p q ns stronger))
  | inr other ↦ elim (cases_Bool (p n)) [
    | inl first ↦ rw (first, other) (filter_twice p q ns stronger)
    | inr none ↦ rw (none, other) (filter_twice p q ns stronger)
  ]
]

-- a question is a statement
pub question_is_statement : (n : Node) → is_question n ≡ true → is_statement n ≡ true
question_is_statement n is = number_is_statement (number n.op) is

pub among_statements : (ns : List Node) → filter is_question (filter is_statement ns) ≡ filter is_question ns
among_statements ns = filter_twice is_statement is_question ns question_is_statement

-- the field of a question, if there is one
pub field_found : (ns : List Node) (o : Option Node) → option_and_then (λ (q : Asked). q.field) (option_map (asked ns) o) ≡ option_and_then (field_of ns) o
field_found ns None = refl
field_found ns (Some n) = refl
