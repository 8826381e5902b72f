-- The value of a field that is a text has whole units.
use Rattle.std.proofs.Common.{◌≡◌, ℕ, ◌*◌, ◌%◌, eqb, Option, Some, None, List, length, sym, ◌∙◌, inl, inr, arith, length-take}
use Rattle.std.proofs.lemmas.Bool.{cases_Bool, cond-true, cond-false}
use Rattle.ifr_expr.specs.Values.{text as text_value}
use Rattle.ifr_opcodes.specs.Forest.{Node}
use Rattle.hii_varstore.specs.Stores.{StoreMap, bytes_of_field as field_bytes}
use Rattle.hii_values.specs.Answers.{answer_in}
use Rattle.hii_values.specs.FieldTypes.{FieldType, checkbox, numeric, one_of, text, ordered_list, size_of_type}
use Rattle.hii_values.specs.Items.{items_in, bytes_of_items}
use Rattle.hii_values.specs.Types.{type_of}
use Rattle.hii_values.proofs.ItemLemmas.{items_within}
use Rattle.hii_questions.specs.Answers.{value_of_bytes, value_of_field}
use Rattle.hii_questions.specs.Fields.{Field}

whole : (bytes : List ℕ) → length (bytes_of_items 2 bytes) % 2 ≡ 0
whole bytes =
    let within = items_within 2 bytes in
    let taken = length-take (length (items_in 2 bytes) * 2) bytes in
    omega (arith, within, taken)

whole_in : (t : FieldType) (bytes units : List ℕ) → answer_in t bytes ≡ text_value units → length units % 2 ≡ 0
whole_in checkbox bytes units e = absurd cc
whole_in (numeric signed width minimum maximum) bytes units e = absurd cc
whole_in (one_of width values) bytes units e = absurd cc
whole_in (text minimum maximum) bytes units e = let same : bytes_of_items 2 bytes ≡ units = cc in rw (sym same) (whole bytes)
whole_in (ordered_list width most unique some values) bytes units e = absurd cc

whole_of : (t : Option FieldType) (b : Option (List ℕ)) (units : List ℕ) → value_of_bytes t b ≡ text_value units → length units % 2 ≡ 0
whole_of None b units e = absurd cc
whole_of (Some t) None units e = absurd cc
whole_of (Some t) (Some bytes) units e = elim (cases_Bool (eqb (length bytes) (size_of_type t))) [
  | inl fits ↦ whole_in t bytes units (sym (cond-true (eqb (length bytes) (size_of_type t)) _ _ fits) ∙ e)
  | inr cut ↦ let none = sym (cond-false (eqb (length bytes) (size_of_type t)) (answer_in t bytes) _ cut) ∙ e in absurd cc
]

pub whole_texts : (stores : StoreMap) (n : Node) (field : Option Field) (units : List ℕ) → value_of_field stores n field ≡ text_value units → length units % 2 ≡ 0
whole_texts stores n None units e = absurd cc
whole_texts stores n (Some field) units e = whole_of (type_of n) (field_bytes stores field.store field.offset field.width) units e
