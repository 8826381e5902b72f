-- A statement that does not give a default has none, for whatever class.
use Rattle.std.proofs.Common.{◌≡◌, ℕ, Bool, true, false, cond, eqb, None, List, [], ◌∷◌, refl, sym, ap, ◌∙◌, inl, inr}
use Rattle.std.specs.Prelude.{◌||◌, ◌==◌, option_map, filter}
use Rattle.std.specs.List.{find, list_any}
use Rattle.std.proofs.lemmas.Bool.{cases_Bool, eqb-true, false≢true, cond-true, cond-false}
use Rattle.ifr_opcodes.specs.declared.codes.TheConstants.{CHECKBOX, DEFAULT, ONE_OF, ONE_OF_OPTION}
use Rattle.ifr_opcodes.specs.Fields.{default_id, option_value, is_default_option, is_manufacturing_option, is_default_checkbox, is_manufacturing_checkbox}
use Rattle.ifr_opcodes.specs.Forest.{Node, below}
use Rattle.ifr_opcodes.specs.Opcode.{number}
use Rattle.ifr_nodes.specs.Nodes.{is_default, is_option, is_question, is_statement}
use Rattle.ifr_index.specs.code.Giving.{is_giving, gives_default}
use Rattle.ifr_index.proofs.GivingFacts.{checkbox_gives, default_gives, option_gives}
use Rattle.hii_values.specs.Inputs.{raw}
use Rattle.ifr_defaults.specs.Defaults.{Sources, default_of, default_with, flagged, given_or_flagged, is_checked_for, is_chosen_for}
use Rattle.ifr_defaults.specs.declared.classes.TheConstants.{DEFAULT_CLASS_STANDARD, DEFAULT_CLASS_MANUFACTURING}

-- ---- flags

-- what is flagged for one of two classes is flagged for a class
of_class : (class : ℕ) (standard manufacturing : Bool) → cond (eqb class DEFAULT_CLASS_STANDARD) standard (cond (eqb class DEFAULT_CLASS_MANUFACTURING) manufacturing false) ≡ true → (standard || manufacturing) ≡ true
of_class class true manufacturing is = refl
of_class class false manufacturing is = elim (cases_Bool (eqb class DEFAULT_CLASS_STANDARD)) [
  | inl first ↦ let bad : false ≡ true = rw first at is in absurd (false≢true bad)
  | inr other ↦ elim (cases_Bool (eqb class DEFAULT_CLASS_MANUFACTURING)) [
    | inl second ↦ rw (other, second) at is
    | inr neither ↦ let bad : false ≡ true = rw (other, neither) at is in absurd (false≢true bad)
  ]
]

chosen_gives : (class : ℕ) (n : Node) → is_option n ≡ true → is_chosen_for class n.op ≡ true → gives_default n ≡ true
chosen_gives class n is chosen = option_gives n (eqb-true (number n.op) ONE_OF_OPTION is) ∙ of_class class (is_default_option n.op) (is_manufacturing_option n.op) chosen

checked_gives : (class : ℕ) (n : Node) → eqb (number n.op) CHECKBOX ≡ true → is_checked_for class n.op ≡ true → gives_default n ≡ true
checked_gives class n is checked = checkbox_gives n (eqb-true (number n.op) CHECKBOX is) ∙ of_class class (is_default_checkbox n.op) (is_manufacturing_checkbox n.op) checked

-- ---- among nodes of which none gives one

first_none : (n : Node) (ns : List Node) → list_any gives_default (n ∷ ns) ≡ false → (gives_default n ≡ false) × (list_any gives_default ns ≡ false)
first_none n ns none = elim (cases_Bool (gives_default n)) [
  | inl is ↦ let bad : true ≡ false = rw is at none in absurd (false≢true (sym bad))
  | inr other ↦ (other, rw other at none)
]

no_defaults : (ns : List Node) → list_any gives_default ns ≡ false → filter is_default ns ≡ []
no_defaults [] none = refl
no_defaults (n ∷ ns) none = elim (cases_Bool (is_default n)) [
  | inl is ↦ absurd (false≢true (sym (first_none n ns none).0 ∙ default_gives n (eqb-true (number n.op) DEFAULT is)))
  | inr other ↦ rw other (no_defaults ns (first_none n ns none).1)
]

none_chosen : (class : ℕ) (ns : List Node) → list_any gives_default ns ≡ false → find (λ o. is_chosen_for class o.op) (filter is_option ns) ≡ None
none_chosen class [] none = refl
none_chosen class (n ∷ ns) none = elim (cases_Bool (is_option n)) [
  | inl is ↦ elim (cases_Bool (is_chosen_for class n.op)) [
    | inl chosen ↦ absurd (false≢true (sym (first_none n ns none).0 ∙ chosen_gives class n is chosen))
    | inr plain ↦ rw (is, plain) (none_chosen class ns (first_none n ns none).1)
  ]
  | inr other ↦ rw other (none_chosen class ns (first_none n ns none).1)
]

-- ---- of a statement

-- Neither it gives one, nor what stands in its scope.
record GivesNone (n : Node) : Type 0 where
  itself : gives_default n ≡ false
  inside : is_question n ≡ true → list_any gives_default (below n) ≡ false

gives_none : (n : Node) → is_statement n ≡ true → is_giving n ≡ false → GivesNone n
unfolding is_giving
gives_none n states none = elim (cases_Bool (gives_default n)) [
  | inl is ↦ let bad : true ≡ false = rw (states, is) at none in absurd (false≢true (sym bad))
  | inr other ↦ record { itself = other; inside = λ asks. rw (states, other, asks) at none }
]

no_opcode : (n : Node) (class : ℕ) → GivesNone n → default_with n class ≡ None
no_opcode n class none = elim (cases_Bool (is_question n)) [
  | inl asks ↦ ap (find (λ d. default_id d.op == class)) (cond-true (is_question n) _ _ asks ∙ no_defaults (below n) (none.inside asks))
  | inr other ↦ ap (find (λ d. default_id d.op == class)) (cond-false (is_question n) _ _ other)
]

no_flag : (n : Node) (class : ℕ) → GivesNone n → flagged n class ≡ None
no_flag n class none = elim (cases_Bool (eqb (number n.op) ONE_OF)) [
  | inl one ↦ rw one (ap (option_map (λ (o : Node). option_value o.op)) (elim (cases_Bool (is_question n)) [
    | inl asks ↦ ap (find (λ o. is_chosen_for class o.op)) (cond-true (is_question n) _ _ asks) ∙ none_chosen class (below n) (none.inside asks)
    | inr other ↦ ap (find (λ o. is_chosen_for class o.op)) (cond-false (is_question n) _ _ other)
  ]))
  | inr plain ↦ elim (cases_Bool (eqb (number n.op) CHECKBOX)) [
    | inl box ↦ elim (cases_Bool (is_checked_for class n.op)) [
      | inl checked ↦ absurd (false≢true (sym none.itself ∙ checked_gives class n box checked))
      | inr free ↦ rw (plain, box, free) refl
    ]
    | inr other ↦ rw (plain, other) refl
  ]
]

pub no_default : (s : Sources) (n : Node) (class : ℕ) → is_statement n ≡ true → is_giving n ≡ false → default_of s n class ≡ None
no_default s n class states none =
    let its = gives_none n states none in
    ap (given_or_flagged s n class) (no_opcode n class its) ∙ ap (option_map raw) (no_flag n class its)
