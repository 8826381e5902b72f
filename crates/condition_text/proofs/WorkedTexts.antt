-- Texts of expressions that were worked out by hand.
use Rattle.std.proofs.Common.{◌≡◌, ℕ, List, [], ◌∷◌, refl}
use Rattle.std.specs.Prelude.{codes}
use Rattle.std.specs.Fmt.{digits}
use Rattle.hii_bytes.specs.Numbers.{number_in}
use Rattle.ifr_opcodes.specs.Forest.{Mark}
use Rattle.ifr_expr.specs.Trees.{Tree, leaf, one, two}
use Rattle.condition_text.specs.Senses.{leaf_sense, sense}
use Rattle.condition_text.specs.Texts.{text}

abbrev opcode : List ℕ → Mark
opcode op = record { place = 0; op = op }

abbrev said : Tree → List ℕ
said tree = text (sense tree)

-- an operator that has no fields, by its number
abbrev plain : ℕ → Mark
plain code = opcode (code ∷ 2 ∷ [])

-- whether the answer of question 32 is 0
abbrev first : Tree
first = leaf (opcode (0x12 ∷ 6 ∷ 32 ∷ 0 ∷ 0 ∷ 0 ∷ []))

-- whether that of question 34 is 666 or 667
abbrev listed : Tree
listed = leaf (opcode (0x14 ∷ 10 ∷ 34 ∷ 0 ∷ 2 ∷ 0 ∷ 154 ∷ 2 ∷ 155 ∷ 2 ∷ []))

abbrev answer_5 : Tree
answer_5 = leaf (opcode (0x40 ∷ 4 ∷ 5 ∷ 0 ∷ []))

abbrev byte_15 : Tree
byte_15 = leaf (opcode (0x42 ∷ 3 ∷ 15 ∷ []))

a_number_is_asked : said first ≡ codes "ideqval q32 == 0"
unfolding text leaf_sense number_in digits
a_number_is_asked = refl

two_answers_are_compared : said (leaf (opcode (0x13 ∷ 6 ∷ 1 ∷ 0 ∷ 2 ∷ 0 ∷ []))) ≡ codes "ideqid q1 == q2"
unfolding text leaf_sense number_in digits
two_answers_are_compared = refl

some_numbers_are_asked : said listed ≡ codes "ideqvallist q34 == 666 667"
unfolding text leaf_sense number_in digits
some_numbers_are_asked = refl

no_numbers_are_asked : said (leaf (opcode (0x14 ∷ 6 ∷ 34 ∷ 0 ∷ 0 ∷ 0 ∷ []))) ≡ codes "ideqvallist q34 =="
unfolding text leaf_sense number_in digits
no_numbers_are_asked = refl

an_answer : said answer_5 ≡ codes "questionref(5)"
unfolding text leaf_sense number_in digits
an_answer = refl

a_rule : said (leaf (opcode (0x3f ∷ 3 ∷ 3 ∷ []))) ≡ codes "ruleref(3)"
unfolding text leaf_sense number_in digits
a_rule = refl

a_byte : said byte_15 ≡ codes "15u8"
unfolding text leaf_sense number_in digits
a_byte = refl

eight_bytes : said (leaf (opcode (0x45 ∷ 10 ∷ 15 ∷ 0 ∷ 0 ∷ 0 ∷ 0 ∷ 0 ∷ 0 ∷ 0 ∷ []))) ≡ codes "15u64"
unfolding text leaf_sense number_in digits
eight_bytes = refl

a_word : said (leaf (plain 0x55)) ≡ codes "UNDEFINED"
unfolding text leaf_sense
a_word = refl

a_comparison_is_turned : said (one (plain 0x17) first) ≡ codes "not (ideqval q32 == 0)"
unfolding text leaf_sense number_in digits
a_comparison_is_turned = refl

bits_are_turned : said (one (plain 0x37) byte_15) ≡ codes "~15u8"
unfolding text leaf_sense number_in digits
bits_are_turned = refl

answers_are_joined : said (two (plain 0x15) first listed) ≡ codes "(ideqval q32 == 0) and (ideqvallist q34 == 666 667)"
unfolding text leaf_sense number_in digits
answers_are_joined = refl

left_first : said (two (plain 0x34) (two (plain 0x3b) answer_5 byte_15) (leaf (plain 0x58))) ≡ codes "(questionref(5) - 15u8) <= THIS"
unfolding text leaf_sense number_in digits
left_first = refl

right_behind : said (two (plain 0x3b) answer_5 (two (plain 0x38) byte_15 (leaf (plain 0x53)))) ≡ codes "questionref(5) - (15u8 << ONE)"
unfolding text leaf_sense number_in digits
right_behind = refl
