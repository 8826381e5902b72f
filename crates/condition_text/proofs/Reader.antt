-- A reader of the texts of expressions.
use Rattle.std.proofs.Common.{ℕ, zero, suc, ◌&&◌, ◌||◌, ◌==◌, Bool, true, false, if◌then◌else◌, Option, Some, None, List, [], ◌∷◌, length, drop}
use Rattle.ifr_opcodes.specs.declared.codes.TheConstants.{NOT, BITWISE_NOT}
use Rattle.condition_text.specs.Senses.{Sense, eq_id_val, eq_id_id, eq_id_val_list, question_ref, rule_ref, uint, constant, unary, binary}
use Rattle.condition_text.specs.Texts.{Words, constant_words, binary_words}
use Rattle.condition_text.proofs.SplitLemmas.{split, head, is_digit, read_number}

-- what was read, and the bytes behind it
abbrev pub Read : Type 0
Read = Option (Sense × List ℕ)

-- a space, or a parenthesis that closes
abbrev pub ends_word : ℕ → Bool
ends_word b = (b == 32) || (b == 41)

abbrev pub are_same : List ℕ → List ℕ → Bool
are_same [] [] = true
are_same [] (y ∷ ys) = false
are_same (x ∷ xs) [] = false
are_same (x ∷ xs) (y ∷ ys) = (x == y) && are_same xs ys

-- the number of a word
abbrev pub code_in : Words → List ℕ → Option ℕ
code_in [] word = None
code_in (entry ∷ words) word = if are_same entry.1 word then Some entry.0 else code_in words word

-- numbers, each behind a space
abbrev pub read_values : ℕ → List ℕ → List ℕ × List ℕ
read_values zero bytes = ([], bytes)
read_values (suc n) bytes =
    if head bytes == 32
    then ((read_number (drop 1 bytes)).0 ∷ (read_values n (read_number (drop 1 bytes)).1).0, (read_values n (read_number (drop 1 bytes)).1).1)
    else ([], bytes)

abbrev pub then_number : (ℕ → ℕ → Sense) → ℕ → ℕ × List ℕ → Read
then_number say skip first = Some (say first.0 (read_number (drop skip first.1)).0, (read_number (drop skip first.1)).1)

abbrev pub then_values : ℕ × List ℕ → Read
then_values first =
    Some (eq_id_val_list first.0 (read_values (length first.1) (drop 3 first.1)).0, (read_values (length first.1) (drop 3 first.1)).1)

-- what stands behind ideqid, ideqval and ideqvallist
abbrev pub read_comparison : List ℕ → Read
read_comparison bytes =
    if head (drop 4 bytes) == 105 then then_number eq_id_id 5 (read_number (drop 8 bytes))
    else (if head (drop 7 bytes) == 32 then then_number eq_id_val 4 (read_number (drop 9 bytes))
    else then_values (read_number (drop 13 bytes)))

abbrev pub then_bits : ℕ × List ℕ → Read
then_bits value = then_number (λ value bits. uint bits value) 1 value

abbrev pub then_closed : (ℕ → Sense) → ℕ × List ℕ → Read
then_closed say id = Some (say id.0, drop 1 id.1)

abbrev pub constant_of : Option ℕ → List ℕ → Read
constant_of None rest = None
constant_of (Some code) rest = Some (constant code, rest)

abbrev pub read_constant : List ℕ × List ℕ → Read
read_constant word = constant_of (code_in constant_words word.0) word.1

abbrev pub closed : Read → Read
closed None = None
closed (Some r) = Some (r.0, drop 1 r.1)

-- an operand, by a reader of what stands in parentheses
abbrev pub read_operand : (List ℕ → Read) → List ℕ → Read
read_operand inner bytes =
    if is_digit (head bytes) then then_bits (read_number bytes)
    else (if head bytes == 40 then closed (inner (drop 1 bytes))
    else (if head bytes == 113 then then_closed question_ref (read_number (drop 12 bytes))
    else (if head bytes == 114 then then_closed rule_ref (read_number (drop 8 bytes))
    else read_constant (split ends_word bytes))))

abbrev pub said : ℕ → Read → Read
said code None = None
said code (Some r) = Some (unary code r.0, r.1)

abbrev pub both : Sense → Option ℕ → Read → Read
both left None right = None
both left (Some code) None = None
both left (Some code) (Some r) = Some (binary code left r.0, r.1)

abbrev pub behind_word : (List ℕ → Read) → Sense → List ℕ × List ℕ → Read
behind_word inner left word = both left (code_in binary_words word.0) (read_operand inner (drop 1 word.1))

-- what goes on behind an operand: an operator and another, or nothing
abbrev pub then_right : (List ℕ → Read) → Read → Read
then_right inner None = None
then_right inner (Some r) = if head r.1 == 32 then behind_word inner r.0 (split ends_word (drop 1 r.1)) else Some r

-- an expression, by a reader of what stands in parentheses
abbrev pub read_by : (List ℕ → Read) → List ℕ → Read
read_by inner bytes =
    if is_digit (head bytes) then then_right inner (read_operand inner bytes)
    else (if head bytes == 126 then said BITWISE_NOT (read_operand inner (drop 1 bytes))
    else (if head bytes == 110 then said NOT (read_operand inner (drop 4 bytes))
    else (if head bytes == 105 then read_comparison bytes
    else then_right inner (read_operand inner bytes))))

-- an expression of no more parts than this
unfoldable pub read : ℕ → List ℕ → Read
read zero bytes = None
read (suc n) bytes = read_by (read n) bytes
