-- What stands before an operand, operator by operator.
use Rattle.std.proofs.Common.{◌≡◌, ℕ, zero, suc, ◌+◌, ◌-◌, ◌*◌, ◌^◌, ◌<◌, ◌≤◌, Option, Some, None, List, [], ◌∷◌, ◌++◌, length, take, drop, refl, sym, ap, ◌∙◌, arith, append_assoc, append-nil}
use Rattle.std.proofs.lemmas.List.{take-append-drop, take-take, drop-take, length-drop}
use Rattle.ifr_opcodes.specs.Opcode.{number}
use Rattle.ifr_opcodes.specs.Forest.{Mark}
use Rattle.ifr_opcodes.specs.code.Codes.{unary_code, binary_code}
use Rattle.ifr_opcodes.specs.declared.operators.Unary.{Unary}
use Rattle.ifr_opcodes.specs.declared.operators.Binary.{Binary}
use Rattle.ifr_expr.specs.code.Expressions.{operators_left}
use Rattle.ifr_expr.specs.declared.operators.Operators.{Operators}
use Rattle.ifr_expr.specs.Trees.{takes}
use Rattle.ifr_expr.proofs.LengthLemmas.{few_marks}
use Rattle.condition_text.specs.Texts.{word_in, unary_words}
use Rattle.condition_text.specs.code.Openings.{unary_text, spaced_text}
use Rattle.condition_text.specs.code.Streams.{spaced_word, open_before, word_by, word_before, openings_by, openings, from_last}

-- there are fewer operators than bytes of a package
pub few_left : (it : Operators) → 2 * length (operators_left it) < 2 ^ 32
few_left it = omega (arith, few_marks it.ops.place it.ops.rest.now it.ops.opcodes, it.ops.small)

-- ---- the next operator

openings_step : (op : Mark) (now next : List Mark) (beside : ℕ) (o : Option ℕ) → takes op ≡ o → now ≡ op ∷ next
    → openings beside now ≡ openings_by o beside op next (λ count. openings count next)
openings_step op now next beside o t e =
    ap (openings beside) e ∙ ap (λ (n : Option ℕ). openings_by n beside op next (λ count. openings count next)) t

word_step : (op : Mark) (now next : List Mark) (beside : ℕ) (o : Option ℕ) → takes op ≡ o → now ≡ op ∷ next
    → word_before beside now ≡ word_by o beside op (λ count. word_before count next)
word_step op now next beside o t e =
    ap (word_before beside) e ∙ ap (λ (n : Option ℕ). word_by n beside op (λ count. word_before count next)) t

next_of : (n : ℕ) → n + 1 ≡ suc n
next_of n = omega arith

pub leaf_passed : (op : Mark) (now next : List Mark) (beside : ℕ) → takes op ≡ Some 0 → now ≡ op ∷ next → openings (beside + 1) next ≡ openings beside now
leaf_passed op now next beside t e = ap (λ (n : ℕ). openings n next) (next_of beside) ∙ sym (openings_step op now next beside (Some 0) t e)

pub leaf_word : (op : Mark) (now next : List Mark) (beside : ℕ) → takes op ≡ Some 0 → now ≡ op ∷ next → word_before (beside + 1) next ≡ word_before beside now
leaf_word op now next beside t e = ap (λ (n : ℕ). word_before n next) (next_of beside) ∙ sym (word_step op now next beside (Some 0) t e)

pub unary_passed : (op : Mark) (now next : List Mark) (beside : ℕ) → (beside ≡ 0 → ⊥) → takes op ≡ Some 1 → now ≡ op ∷ next → openings beside next ≡ openings beside now
unary_passed op now next zero n t e = absurd (n refl)
unary_passed op now next (suc beside) n t e = sym (openings_step op now next (suc beside) (Some 1) t e)

pub unary_word : (op : Mark) (now next : List Mark) (beside : ℕ) → takes op ≡ Some 1 → now ≡ op ∷ next → word_before beside next ≡ word_before beside now
unary_word op now next beside t e = sym (word_step op now next beside (Some 1) t e)

pub unary_opens : (op : Mark) (now next : List Mark) (beside : ℕ) (operator : Unary) → beside ≡ 0 → takes op ≡ Some 1 → unary_code operator ≡ number op.op → now ≡ op ∷ next
    → openings beside now ≡ (open_before next ++ unary_text (Some operator)) ∷ openings beside next
unary_opens op now next zero operator n t u e =
    openings_step op now next 0 (Some 1) t e
    ∙ ap (λ (code : ℕ). (open_before next ++ word_in unary_words code) ∷ openings 0 next) (sym u)
unary_opens op now next (suc beside) operator n t u e = absurd (omega (arith, n))

-- behind an operator with two operands a value less stands beside
pub binary_passed : (op : Mark) (now next : List Mark) (left : ℕ) → (left ≡ 0 → ⊥) → takes op ≡ Some 2 → now ≡ op ∷ next → openings left next ≡ openings (left + 1) now
binary_passed op now next zero n t e = absurd (n refl)
binary_passed op now next (suc left) n t e =
    sym (openings_step op now next (suc (suc left)) (Some 2) t e) ∙ ap (λ (m : ℕ). openings m now) (sym (next_of (suc left)))

pub binary_opens : (op : Mark) (now next : List Mark) (left : ℕ) → left ≡ 0 → takes op ≡ Some 2 → now ≡ op ∷ next
    → openings (left + 1) now ≡ (open_before next ++ unary_text None) ∷ openings left next
binary_opens op now next zero n t e =
    openings_step op now next 1 (Some 2) t e ∙ ap (λ (l : List ℕ). l ∷ openings 0 next) (sym (append-nil (open_before next)))
binary_opens op now next (suc left) n t e = absurd (omega (arith, n))

pub binary_word : (op : Mark) (now next : List Mark) (left : ℕ) → takes op ≡ Some 2 → now ≡ op ∷ next → word_before left next ≡ word_before (left + 1) now
binary_word op now next left t e =
    sym (word_step op now next (suc left) (Some 2) t e) ∙ ap (λ (m : ℕ). word_before m now) (sym (next_of left))

pub one_less : (beside : ℕ) → 1 ≤ beside → beside ≡ beside - 1 + 1
one_less beside some = omega (arith, some)

-- an operator that takes the operand as its right one
pub ended : (op : Mark) (now next : List Mark) (beside : ℕ) → beside ≡ 0 → takes op ≡ Some 2 → now ≡ op ∷ next → openings beside now ≡ []
ended op now next zero n t e = openings_step op now next 0 (Some 2) t e
ended op now next (suc beside) n t e = absurd (omega (arith, n))

pub word_found : (op : Mark) (now next : List Mark) (beside : ℕ) (operator : Binary) → beside ≡ 0 → takes op ≡ Some 2 → binary_code operator ≡ number op.op → now ≡ op ∷ next
    → spaced_text (Some operator) ≡ word_before beside now
word_found op now next zero operator n t u e = ap spaced_word u ∙ sym (word_step op now next 0 (Some 2) t e)
word_found op now next (suc beside) operator n t u e = absurd (omega (arith, n))

pub some_beside : (op : Mark) (now next : List Mark) (beside : ℕ) → takes op ≡ Some 2 → now ≡ op ∷ next → 0 < length (openings beside now) → 1 ≤ beside
some_beside op now next zero t e some =
    absurd (omega (arith, some, ap (λ (l : List (List ℕ)). length l) (ended op now next 0 refl t e)))
some_beside op now next (suc beside) t e some = omega arith

-- nothing is left
pub none_left : (now : List Mark) (beside : ℕ) → now ≡ [] → openings beside now ≡ []
none_left now beside e = ap (openings beside) e

pub no_word_left : (now : List Mark) (beside : ℕ) → now ≡ [] → word_before beside now ≡ []
no_word_left now beside e = ap (word_before beside) e

-- the next of some texts is passed
next_dropped : (all next : List (List ℕ)) (text : List ℕ) (count : ℕ) → drop count all ≡ text ∷ next → drop (suc count) all ≡ next
next_dropped all next text zero e = ap (drop 1) e
next_dropped [] next text (suc count) e = ap (drop 1) e
next_dropped (first ∷ all) next text (suc count) e = next_dropped all next text count e

pub one_dropped : (all now next : List (List ℕ)) (text : List ℕ) (count : ℕ) → now ≡ drop count all → now ≡ text ∷ next → next ≡ drop (count + 1) all
one_dropped all now next text count e f =
    sym (next_dropped all next text count (sym e ∙ f)) ∙ ap (λ (n : ℕ). drop n all) (sym (next_of count))

pub one_left : (all now : List (List ℕ)) (counter count : ℕ) → now ≡ drop counter all → counter < count → count ≤ length all → 0 < length now
one_left all now counter count e lt le =
    omega (arith, lt, le, ap (λ (l : List (List ℕ)). length l) e, length-drop counter all)

-- ---- texts, the last one first

joined : (texts others : List (List ℕ)) → from_last (texts ++ others) ≡ from_last others ++ from_last texts
joined [] others = sym (append-nil (from_last others))
joined (text ∷ texts) others =
    ap (λ (l : List ℕ). l ++ text) (joined texts others) ∙ append_assoc (from_last others) (from_last texts) text

count_of : (count half : ℕ) → half ≤ count → count ≡ half + (count - half)
count_of count half h = omega (arith, h)

in_parts : (texts : List (List ℕ)) (count half : ℕ) → half ≤ count → take count texts ≡ take half texts ++ take (count - half) (drop half texts)
in_parts texts count half h =
    sym (take-append-drop half (take count texts))
    ∙ ap (λ (l : List (List ℕ)). l ++ drop half (take count texts)) (take-take half count texts h)
    ∙ ap (λ (n : ℕ). take half texts ++ drop half (take n texts)) (count_of count half h)
    ∙ ap (λ (l : List (List ℕ)). take half texts ++ l) (drop-take half (count - half) texts)

-- so many texts in two parts, the last ones first
pub halved : (texts : List (List ℕ)) (count half : ℕ) → half ≤ count → from_last (take count texts) ≡ from_last (take (count - half) (drop half texts)) ++ from_last (take half texts)
halved texts count half h =
    ap from_last (in_parts texts count half h) ∙ joined (take half texts) (take (count - half) (drop half texts))
