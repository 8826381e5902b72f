-- Values that were worked out by hand.
use Rattle.std.proofs.Common.{◌≡◌, ℕ, true, false, List, [], ◌∷◌, refl}
use Rattle.hii_bytes.specs.Numbers.{number_in}
use Rattle.ifr_opcodes.specs.Forest.{Mark}
use Rattle.ifr_expr.specs.Meaning.{leaf_value, Rule, rule_values, value}
use Rattle.ifr_expr.specs.Trees.{Tree, leaf, one, two}
use Rattle.ifr_expr.specs.Values.{Value, undefined, boolean, natural, holds, unary_value, number_value, binary_value, constant_value}

abbrev at_place : ℕ → List ℕ → Mark
at_place place op = record { place = place; op = op }

abbrev byte : ℕ → Tree
byte n = leaf (at_place 0 (66 ∷ 3 ∷ n ∷ []))

abbrev plain : ℕ → Tree
plain code = leaf (at_place 0 (code ∷ 2 ∷ []))

abbrev both : ℕ → Tree → Tree → Tree
both code left right = two (at_place 0 (code ∷ 2 ∷ [])) left right

abbrev nobody : ℕ → Value
nobody id = undefined

abbrev alone : Tree → Value
alone tree = value [] nobody 0 tree

seven_by_three : alone (both 61 (byte 7) (byte 3)) ≡ natural 2
unfolding leaf_value number_value binary_value number_in
seven_by_three = refl

what_is_left : alone (both 62 (byte 7) (byte 3)) ≡ natural 1
unfolding leaf_value number_value binary_value number_in
what_is_left = refl

seven_by_nothing : alone (both 61 (byte 7) (byte 0)) ≡ undefined
unfolding leaf_value number_value binary_value number_in
seven_by_nothing = refl

one_by_64_places : alone (both 56 (plain 83) (byte 64)) ≡ natural 0
unfolding leaf_value number_value binary_value constant_value number_in
one_by_64_places = refl

ones_and_one : alone (both 58 (plain 84) (plain 83)) ≡ natural 0
unfolding leaf_value number_value binary_value constant_value
ones_and_one = refl

eight_less_nine : alone (both 47 (both 59 (byte 8) (byte 9)) (plain 84)) ≡ boolean true
unfolding leaf_value number_value binary_value constant_value number_in
eight_less_nine = refl

true_is_one : alone (both 47 (plain 70) (plain 83)) ≡ boolean true
unfolding leaf_value number_value binary_value constant_value
true_is_one = refl

one_and_false : alone (both 21 (plain 83) (plain 71)) ≡ undefined
unfolding leaf_value number_value binary_value constant_value
one_and_false = refl

-- a number of 8 bytes, the lowest first
abbrev wide : List ℕ → Tree
wide digits = leaf (at_place 0 (69 ∷ 10 ∷ digits))

eight_bytes : alone (wide (8 ∷ 7 ∷ 6 ∷ 5 ∷ 4 ∷ 3 ∷ 2 ∷ 1 ∷ [])) ≡ natural 0x0102030405060708
unfolding leaf_value number_in
eight_bytes = refl

-- 2 ^ 63
abbrev top : Tree
top = wide (0 ∷ 0 ∷ 0 ∷ 0 ∷ 0 ∷ 0 ∷ 0 ∷ 128 ∷ [])

one_less_top : alone (both 59 (byte 1) top) ≡ natural 0x8000000000000001
unfolding leaf_value number_value binary_value number_in
one_less_top = refl

top_times_two : alone (both 60 top (byte 2)) ≡ natural 0
unfolding leaf_value number_value binary_value number_in
top_times_two = refl

this_of_no_question : (answers : ℕ → Value) → value [] answers 0 (plain 88) ≡ undefined
unfolding leaf_value
this_of_no_question answers = refl

not_of_an_unknown_question : holds (alone (one (at_place 0 (23 ∷ 2 ∷ [])) (leaf (at_place 0 (18 ∷ 134 ∷ 9 ∷ 0 ∷ 0 ∷ 0 ∷ []))))) ≡ false
unfolding leaf_value unary_value number_in
not_of_an_unknown_question = refl

not_of_no_answer : alone (one (at_place 0 (23 ∷ 2 ∷ [])) (leaf (at_place 0 (18 ∷ 134 ∷ 9 ∷ 0 ∷ 0 ∷ 0 ∷ [])))) ≡ undefined
unfolding leaf_value unary_value number_in
not_of_no_answer = refl

no_answer_among_no_numbers : alone (leaf (at_place 0 (20 ∷ 6 ∷ 1 ∷ 0 ∷ 0 ∷ 0 ∷ []))) ≡ undefined
unfolding leaf_value number_in
no_answer_among_no_numbers = refl

abbrev yes_to_all : ℕ → Value
yes_to_all id = boolean true

one_of_no_numbers : value [] yes_to_all 0 (leaf (at_place 0 (20 ∷ 6 ∷ 1 ∷ 0 ∷ 0 ∷ 0 ∷ []))) ≡ boolean false
unfolding leaf_value number_in
one_of_no_numbers = refl

-- a rule of the id 5 that ends at 68, in a form that ends at 100; it is true
abbrev rule_5 : Rule
rule_5 = record { id = 5; ends = 68; form_ends = 100; tree = plain 70 }

abbrev reference : ℕ → ℕ → Value
reference id place = value (rule_5 ∷ []) nobody 0 (leaf (at_place place (63 ∷ 3 ∷ id ∷ [])))

named_behind : reference 5 70 ≡ boolean true
unfolding leaf_value rule_values constant_value number_in
named_behind = refl

not_named_before : reference 5 60 ≡ undefined
unfolding leaf_value rule_values number_in
not_named_before = refl

not_named_outside : reference 5 100 ≡ undefined
unfolding leaf_value rule_values number_in
not_named_outside = refl

another_id : reference 6 70 ≡ undefined
unfolding leaf_value rule_values number_in
another_id = refl
