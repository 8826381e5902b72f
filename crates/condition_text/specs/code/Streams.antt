-- How a text is made from its front to its end, operator by operator, each with those that stand behind it.
use Rattle.std.specs.Prelude.{ℕ, zero, suc, Option, Some, None, List, [], ◌∷◌, ◌++◌, codes}
use Rattle.ifr_opcodes.specs.Opcode.{number}
use Rattle.ifr_opcodes.specs.Forest.{Mark}
use Rattle.ifr_expr.specs.Trees.{takes}
use Rattle.condition_text.specs.Senses.{Sense, leaf_sense}
use Rattle.condition_text.specs.Texts.{text, as_operand, word_in, unary_words, binary_words}

-- the word of an operator with two operands, with the spaces around
abbrev pub spaced_word : ℕ → List ℕ
spaced_word code = codes " " ++ word_in binary_words code ++ codes " "

-- The last operator of an expression stands without parentheses, as nothing stands behind it.
abbrev pub open_before : List Mark → List ℕ
open_before [] = []
open_before (op ∷ ops) = codes "("

abbrev pub close_before : List Mark → List ℕ
close_before [] = []
close_before (op ∷ ops) = codes ")"

-- The word before an operand, by the operators behind the first of its own, and how many values stand beside its own: that of the
-- operator whose right operand it is.
abbrev pub word_by : Option ℕ → ℕ → Mark → (ℕ → List ℕ) → List ℕ
word_by (Some zero) beside op others = others (suc beside)
word_by (Some (suc zero)) beside op others = others beside
word_by (Some (suc (suc n))) zero op others = spaced_word (number op.op)
word_by (Some (suc (suc n))) (suc beside) op others = others beside
word_by None beside op others = []

abbrev pub word_before : ℕ → List Mark → List ℕ
word_before beside [] = []
word_before beside (op ∷ ops) = word_by (takes op) beside op (λ count. word_before count ops)

-- what operators put before an operand with which their own first operand begins, the nearest first
abbrev pub openings_by : Option ℕ → ℕ → Mark → List Mark → (ℕ → List (List ℕ)) → List (List ℕ)
openings_by (Some zero) beside op ops others = others (suc beside)
openings_by (Some (suc zero)) zero op ops others =
    (open_before ops ++ word_in unary_words (number op.op)) ∷ others zero
openings_by (Some (suc zero)) (suc beside) op ops others = others (suc beside)
openings_by (Some (suc (suc n))) zero op ops others = []
openings_by (Some (suc (suc n))) (suc zero) op ops others = open_before ops ∷ others zero
openings_by (Some (suc (suc n))) (suc (suc beside)) op ops others = others (suc beside)
openings_by None beside op ops others = []

abbrev pub openings : ℕ → List Mark → List (List ℕ)
openings beside [] = []
openings beside (op ∷ ops) = openings_by (takes op) beside op ops (λ count. openings count ops)

-- texts, the last one first
abbrev pub from_last : List (List ℕ) → List ℕ
from_last [] = []
from_last (text ∷ texts) = from_last texts ++ text

-- the text of what an operator says with its operands, by those behind it
abbrev pub text_before : Sense → List Mark → List ℕ
text_before s [] = text s
text_before s (op ∷ ops) = as_operand s (text s)

-- what is written of an operator, by those behind it
abbrev pub said_by : Option ℕ → Mark → List Mark → List ℕ
said_by (Some zero) op ops = word_before 0 ops ++ (from_last (openings 0 ops) ++ text_before (leaf_sense op.op) ops)
said_by (Some (suc n)) op ops = close_before ops
said_by None op ops = []

abbrev pub said_of : Mark → List Mark → List ℕ
said_of op ops = said_by (takes op) op ops

-- what is written of all
abbrev pub said : List Mark → List ℕ
said [] = []
said (op ∷ ops) = said_of op ops ++ said ops
