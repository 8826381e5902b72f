-- Some worked cases, computed from the definitions: the defaults of small questions.
use Rattle.std.proofs.Common.{◌≡◌, ℕ, ◌+◌, ◌==◌, None, Some, Option, List, [], ◌∷◌, ◌++◌, refl}
use Rattle.std.specs.Prelude.{if◌then◌else◌, option_and_then, replicate}
use Rattle.hii_bytes.specs.Numbers.{number_in}
use Rattle.ifr_opcodes.specs.Forest.{node_at}
use Rattle.ifr_opcodes.specs.Rows.{row_of, operands, is_question_number}
use Rattle.ifr_opcodes.specs.Reading.{cut, levels, tree_of}
use Rattle.ifr_expr.specs.Meaning.{leaf_value}
use Rattle.ifr_expr.specs.Reading.{trees_of, tree_of_opcodes}
use Rattle.ifr_expr.specs.Values.{undefined, natural, constant_value, binary_value, number_value}
use Rattle.ifr_nodes.specs.Nodes.{nodes_of}
use Rattle.hii_values.specs.Inputs.{Offer, raw, units, elements}
use Rattle.ifr_defaults.specs.Defaults.{Sources, default_of}

-- Question 1 answers 9, and string id 7 has the text A.
abbrev sources : Sources
sources = record {
  rules = [];
  answers = λ id. if id == 1 then natural 9 else undefined;
  texts = λ id. if id == 7 then Some (0x41 ∷ 0 ∷ []) else None;
}

-- the default of the question whose opcode stands first, for a class
abbrev default_in : List ℕ → ℕ → Option Offer
default_in opcodes class =
    option_and_then (λ q. default_of sources q class) (node_at (nodes_of (replicate 4 0 ++ opcodes)) 4)

-- ---- opcodes

-- what question 1 has in common with each other, with the length of the opcode and what stands behind it
abbrev question : ℕ → ℕ → List ℕ → List ℕ
question code length_byte fields = code ∷ length_byte ∷ 3 ∷ 0 ∷ 0 ∷ 0 ∷ 1 ∷ 0 ∷ 1 ∷ 0 ∷ 0 ∷ 0 ∷ 0 ∷ fields

-- a NUMERIC of a byte, a CHECKBOX with flags, a ONE_OF of a byte, and an ORDERED_LIST of at most four
abbrev numeric : List ℕ
numeric = question 0x07 0x91 (0x10 ∷ 0 ∷ 9 ∷ 1 ∷ [])

abbrev checkbox : ℕ → List ℕ
checkbox flags = question 0x06 0x8E (flags ∷ [])

abbrev one_of : List ℕ
one_of = question 0x05 0x91 (0x10 ∷ 0 ∷ 9 ∷ 0 ∷ [])

abbrev ordered_list : List ℕ
ordered_list = question 0x23 0x8F (4 ∷ 0 ∷ [])

-- an option of two bytes with flags
abbrev option : ℕ → ℕ → List ℕ
option flags value = 0x09 ∷ 8 ∷ 4 ∷ 0 ∷ flags ∷ 1 ∷ value ∷ 0 ∷ []

-- a DEFAULT of a class and a Type, with the bytes of its value and their number
abbrev default_op : ℕ → ℕ → ℕ → List ℕ → List ℕ
default_op class kind count bytes = (0x5B ∷ (5 + count) ∷ class ∷ 0 ∷ kind ∷ []) ++ bytes

abbrev end : List ℕ
end = 0x29 ∷ 2 ∷ []

-- a DEFAULT of a class that is the value of an expression
abbrev default_value : ℕ → List ℕ → List ℕ
default_value class expression = (0x5B ∷ 0x85 ∷ class ∷ 0 ∷ 8 ∷ 0x5A ∷ 0x82 ∷ []) ++ expression ++ end ++ end

-- 4 and 3 added, THIS, and UNDEFINED
abbrev four_and_three : List ℕ
four_and_three = (0x42 ∷ 0x83 ∷ 4 ∷ 0x42 ∷ 0x03 ∷ 3 ∷ 0x3A ∷ 0x02 ∷ []) ++ end

abbrev this : List ℕ
this = 0x58 ∷ 0x02 ∷ []

abbrev nothing : List ℕ
nothing = 0x55 ∷ 0x02 ∷ []

-- ---- DEFAULTs

-- a number and an expression
both : List ℕ
both = numeric ++ default_op 0 0 1 (5 ∷ []) ++ default_value 1 four_and_three ++ end

of_class : (default_in both 0 ≡ Some (raw 5)) × (default_in both 1 ≡ Some (raw 7)) × (default_in both 2 ≡ None)
unfolding both cut levels tree_of number_in is_question_number operands trees_of tree_of_opcodes leaf_value constant_value binary_value number_value row_of
of_class = (refl, refl, refl)

-- THIS is the question, and an expression without a value gives nothing
evaluated : (default_in (numeric ++ default_value 0 this ++ end) 0 ≡ Some (raw 9)) × (default_in (numeric ++ default_value 0 nothing ++ end) 0 ≡ None)
unfolding cut levels tree_of number_in is_question_number operands trees_of tree_of_opcodes leaf_value constant_value row_of
evaluated = (refl, refl)

-- numbers of two bytes, Booleans, texts, and a Type that gives nothing
by_type : (default_in (numeric ++ default_op 0 1 2 (2 ∷ 1 ∷ []) ++ end) 0 ≡ Some (raw 258)) × (default_in (numeric ++ default_op 0 4 1 (2 ∷ []) ++ end) 0 ≡ Some (raw 1))
    × (default_in (numeric ++ default_op 0 4 1 (0 ∷ []) ++ end) 0 ≡ Some (raw 0)) × (default_in (numeric ++ default_op 0 7 2 (7 ∷ 0 ∷ []) ++ end) 0 ≡ Some (units (0x41 ∷ 0 ∷ [])))
    × (default_in (numeric ++ default_op 0 7 2 (8 ∷ 0 ∷ []) ++ end) 0 ≡ None) × (default_in (numeric ++ default_op 0 5 3 (1 ∷ 2 ∷ 3 ∷ []) ++ end) 0 ≡ None)
unfolding cut levels tree_of number_in is_question_number row_of
by_type = (refl, refl, refl, refl, refl, refl)

-- the elements of a list before the first that is 0, and without one that is cut
list_of : List ℕ → List ℕ
list_of bytes = ordered_list ++ option 0x10 6 ++ default_op 0 11 5 bytes ++ end

elements_of : (default_in (list_of (3 ∷ 0 ∷ 4 ∷ 0 ∷ 5 ∷ [])) 0 ≡ Some (elements (3 ∷ 0 ∷ 4 ∷ 0 ∷ []))) × (default_in (list_of (3 ∷ 0 ∷ 0 ∷ 0 ∷ 5 ∷ [])) 0 ≡ Some (elements (3 ∷ 0 ∷ [])))
    × (default_in (list_of (3 ∷ 0 ∷ 0 ∷ 0 ∷ 5 ∷ [])) 1 ≡ None)
unfolding list_of cut levels tree_of number_in is_question_number row_of
elements_of = (refl, refl, refl)

-- ---- flags

-- the first option that is flagged counts, and a DEFAULT comes before it, also behind it and without a value
chosen : List ℕ → List ℕ
chosen more = one_of ++ option 0 4 ++ option 0x10 5 ++ option 0x30 6 ++ more ++ end

of_options : (default_in (chosen []) 0 ≡ Some (raw 5)) × (default_in (chosen []) 1 ≡ Some (raw 6)) × (default_in (chosen []) 2 ≡ None)
    × (default_in (chosen (default_op 0 1 2 (4 ∷ 0 ∷ []))) 0 ≡ Some (raw 4)) × (default_in (chosen (default_value 0 nothing)) 0 ≡ None)
unfolding chosen cut levels tree_of number_in is_question_number operands trees_of tree_of_opcodes leaf_value constant_value row_of
of_options = (refl, refl, refl, refl, refl)

of_checkboxes : (default_in (checkbox 1 ++ end) 0 ≡ Some (raw 1)) × (default_in (checkbox 1 ++ end) 1 ≡ None) × (default_in (checkbox 2 ++ end) 1 ≡ Some (raw 1)) × (default_in (checkbox 3 ++ end) 2 ≡ None)
unfolding cut levels tree_of number_in is_question_number row_of
of_checkboxes = (refl, refl, refl, refl)
