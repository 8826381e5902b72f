-- What the code's words before operands stand for.
use Rattle.std.specs.Prelude.{ℕ, Bool, true, false, Option, Some, None, List, [], ◌∷◌, ◌++◌, codes}
use Rattle.ifr_opcodes.specs.Forest.{Mark}
use Rattle.ifr_opcodes.specs.code.Codes.{unary_code, binary_code}
use Rattle.ifr_opcodes.specs.declared.operators.Unary.{Unary}
use Rattle.ifr_opcodes.specs.declared.operators.Binary.{Binary}
use Rattle.condition_text.specs.Texts.{word_in, unary_words}
use Rattle.condition_text.specs.code.Streams.{spaced_word}
use Rattle.condition_text.specs.declared.opening.Opening.{Opening}

abbrev pub is_none_left : List Mark → Bool
is_none_left [] = true
is_none_left (op ∷ ops) = false

abbrev pub opening_parenthesis : Bool → List ℕ
opening_parenthesis true = codes "("
opening_parenthesis false = []

abbrev pub unary_text : Option Unary → List ℕ
unary_text None = []
unary_text (Some operator) = word_in unary_words (unary_code operator)

abbrev pub opening_text : Opening → List ℕ
opening_text opening = opening_parenthesis opening.enclosed ++ unary_text opening.word

abbrev pub spaced_text : Option Binary → List ℕ
spaced_text None = []
spaced_text (Some operator) = spaced_word (binary_code operator)
