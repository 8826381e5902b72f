-- What is written of the operators of an expression one by one is its text.
use Rattle.std.proofs.Common.{◌≡◌, ℕ, suc, true, false, Option, Some, length, take, arith, List, [], ◌∷◌, ◌++◌, refl, sym, ap, ◌∙◌, append_assoc, append-nil}
use Rattle.std.specs.Prelude.{codes}
use Rattle.std.proofs.lemmas.Bool.{true≢false, false≢true, cond-true, cond-false}
use Rattle.std.proofs.lemmas.List.{take_all}
use Rattle.ifr_opcodes.specs.Opcode.{number}
use Rattle.ifr_opcodes.specs.Forest.{Mark}
use Rattle.ifr_expr.specs.Trees.{Tree, leaf, one, two, post, takes, IsFitting}
use Rattle.condition_text.specs.Senses.{Sense, unary, binary, leaf_sense, sense}
use Rattle.condition_text.specs.Texts.{text, is_short, as_operand, word_in, unary_words, binary_words}
use Rattle.condition_text.specs.code.Openings.{is_none_left}
use Rattle.condition_text.specs.code.Streams.{spaced_word, open_before, close_before, word_by, word_before, openings_by, openings, from_last, text_before, said_by, said_of, said}

-- the opcodes of a tree with others behind them
one_before : (op : Mark) (operand more : List Mark) → (operand ++ op ∷ []) ++ more ≡ operand ++ (op ∷ more)
one_before op operand more = append_assoc operand (op ∷ []) more

two_before : (op : Mark) (left right more : List Mark) → (left ++ (right ++ op ∷ [])) ++ more ≡ left ++ (right ++ (op ∷ more))
two_before op left right more =
    append_assoc left (right ++ op ∷ []) more ∙ ap (λ (l : List Mark). left ++ l) (one_before op right more)

-- behind the operators of a tree one value more stands beside
word_past : (t : Tree) (beside : ℕ) (more : List Mark) → IsFitting t → word_before beside (post t ++ more) ≡ word_before (suc beside) more
word_past (leaf op) beside more fit = ap (λ (o : Option ℕ). word_by o beside op (λ count. word_before count more)) fit
word_past (one op operand) beside more fit =
    ap (word_before beside) (one_before op (post operand) more)
    ∙ word_past operand beside (op ∷ more) fit.1
    ∙ ap (λ (o : Option ℕ). word_by o (suc beside) op (λ count. word_before count more)) fit.0
word_past (two op left right) beside more fit =
    ap (word_before beside) (two_before op (post left) (post right) more)
    ∙ word_past left beside (post right ++ (op ∷ more)) fit.1.0
    ∙ word_past right (suc beside) (op ∷ more) fit.1.1
    ∙ ap (λ (o : Option ℕ). word_by o (suc (suc beside)) op (λ count. word_before count more)) fit.0

openings_past : (t : Tree) (beside : ℕ) (more : List Mark) → IsFitting t → openings beside (post t ++ more) ≡ openings (suc beside) more
openings_past (leaf op) beside more fit = ap (λ (o : Option ℕ). openings_by o beside op more (λ count. openings count more)) fit
openings_past (one op operand) beside more fit =
    ap (openings beside) (one_before op (post operand) more)
    ∙ openings_past operand beside (op ∷ more) fit.1
    ∙ ap (λ (o : Option ℕ). openings_by o (suc beside) op more (λ count. openings count more)) fit.0
openings_past (two op left right) beside more fit =
    ap (openings beside) (two_before op (post left) (post right) more)
    ∙ openings_past left beside (post right ++ (op ∷ more)) fit.1.0
    ∙ openings_past right (suc beside) (op ∷ more) fit.1.1
    ∙ ap (λ (o : Option ℕ). openings_by o (suc (suc beside)) op more (λ count. openings count more)) fit.0

-- an operator stands behind the text
some_behind : (s : Sense) (ops more : List Mark) (op : Mark) → text_before s (ops ++ (op ∷ more)) ≡ as_operand s (text s)
some_behind s [] more op = refl
some_behind s (next ∷ ops) more op = refl

-- a word before an operand, what operators put before it, the operand, and what follows
abbrev parts : List ℕ → List (List ℕ) → List ℕ → List ℕ → List ℕ
parts word opened operand others = word ++ (from_last opened ++ (operand ++ others))

of_leaf : (a b c d : List ℕ) → (a ++ (b ++ c)) ++ d ≡ a ++ (b ++ (c ++ d))
of_leaf a b c d = simp append_assoc

last_one : (a b w x c : List ℕ) → a ++ ((b ++ ([] ++ w)) ++ (x ++ ([] ++ c))) ≡ a ++ (b ++ ((w ++ x) ++ c))
last_one a b w x c = simp append_assoc

inner_one : (a b w x c : List ℕ) → a ++ ((b ++ (codes "(" ++ w)) ++ (x ++ (codes ")" ++ c))) ≡ a ++ (b ++ ((codes "(" ++ (w ++ x) ++ codes ")") ++ c))
inner_one a b w x c = simp append_assoc

two_joined : (a b x w y c : List ℕ) → a ++ (b ++ (x ++ ((codes " " ++ w ++ codes " ") ++ (y ++ c)))) ≡ a ++ (b ++ ((x ++ codes " " ++ w ++ codes " " ++ y) ++ c))
two_joined a b x w y c = simp append_assoc

last_two : (a b x w y c : List ℕ) → a ++ ((b ++ []) ++ (x ++ ((codes " " ++ w ++ codes " ") ++ ([] ++ (y ++ ([] ++ c)))))) ≡ a ++ (b ++ ((x ++ codes " " ++ w ++ codes " " ++ y) ++ c))
last_two a b x w y c = ap (λ (l : List ℕ). a ++ (l ++ (x ++ ((codes " " ++ w ++ codes " ") ++ (y ++ c))))) (append-nil b) ∙ two_joined a b x w y c

inner_two : (a b x w y c : List ℕ) → a ++ ((b ++ codes "(") ++ (x ++ ((codes " " ++ w ++ codes " ") ++ ([] ++ (y ++ (codes ")" ++ c)))))) ≡ a ++ (b ++ ((codes "(" ++ (x ++ codes " " ++ w ++ codes " " ++ y) ++ codes ")") ++ c))
inner_two a b x w y c = simp append_assoc

-- an operator with one operand before others
one_parts : (op : Mark) (x : Sense) (more : List Mark) (word others : List ℕ) (opened : List (List ℕ))
    → parts word ((open_before more ++ word_in unary_words (number op.op)) ∷ opened) (as_operand x (text x)) (close_before more ++ others)
    ≡ parts word opened (text_before (unary (number op.op) x) more) others
unfolding text
one_parts op x [] word others opened = last_one word (from_last opened) (word_in unary_words (number op.op)) (as_operand x (text x)) others
one_parts op x (next ∷ more) word others opened =
    inner_one word (from_last opened) (word_in unary_words (number op.op)) (as_operand x (text x)) others

-- an operator with two operands before others
two_parts : (op : Mark) (x y : Sense) (more : List Mark) (word others : List ℕ) (opened : List (List ℕ))
    → parts word (open_before more ∷ opened) (as_operand x (text x)) (parts (spaced_word (number op.op)) [] (as_operand y (text y)) (close_before more ++ others))
    ≡ parts word opened (text_before (binary (number op.op) x y) more) others
unfolding text
two_parts op x y [] word others opened =
    last_two word (from_last opened) (as_operand x (text x)) (word_in binary_words (number op.op)) (as_operand y (text y)) others
two_parts op x y (next ∷ more) word others opened =
    inner_two word (from_last opened) (as_operand x (text x)) (word_in binary_words (number op.op)) (as_operand y (text y)) others

-- the operators of a tree are written with what stands before them
tree_said : (t : Tree) (more : List Mark) → IsFitting t
    → said (post t ++ more) ≡ parts (word_before 0 more) (openings 0 more) (text_before (sense t) more) (said more)
tree_said (leaf op) more fit =
    ap (λ (o : Option ℕ). said_by o op more ++ said more) fit
    ∙ of_leaf (word_before 0 more) (from_last (openings 0 more)) (text_before (leaf_sense op.op) more) (said more)
tree_said (one op operand) more fit =
    ap said (one_before op (post operand) more)
    ∙ tree_said operand (op ∷ more) fit.1
    ∙ ap
    (λ (o : Option ℕ). parts (word_by o 0 op (λ count. word_before count more)) (openings_by o 0 op more (λ count. openings count more)) (as_operand (sense operand) (text (sense operand))) (said_by o op more ++ said more))
    fit.0
    ∙ one_parts op (sense operand) more (word_before 0 more) (said more) (openings 0 more)
tree_said (two op left right) more fit =
    let behind : List Mark = post right ++ (op ∷ more) in
    ap said (two_before op (post left) (post right) more)
    ∙ tree_said left behind fit.1.0
    ∙ ap (λ (word : List ℕ). parts word (openings 0 behind) (text_before (sense left) behind) (said behind)) (word_past right 0 (op ∷ more) fit.1.1)
    ∙ ap (λ (opened : List (List ℕ)). parts (word_before 1 (op ∷ more)) opened (text_before (sense left) behind) (said behind)) (openings_past right 0 (op ∷ more) fit.1.1)
    ∙ ap (λ (operand : List ℕ). parts (word_before 1 (op ∷ more)) (openings 1 (op ∷ more)) operand (said behind)) (some_behind (sense left) (post right) more op)
    ∙ ap (parts (word_before 1 (op ∷ more)) (openings 1 (op ∷ more)) (as_operand (sense left) (text (sense left)))) (tree_said right (op ∷ more) fit.1.1)
    ∙ ap
    (λ (o : Option ℕ). parts (word_by o 1 op (λ count. word_before count more)) (openings_by o 1 op more (λ count. openings count more)) (as_operand (sense left) (text (sense left)))
    (parts (word_by o 0 op (λ count. word_before count more)) (openings_by o 0 op more (λ count. openings count more)) (as_operand (sense right) (text (sense right))) (said_by o op more ++ said more)))
    fit.0
    ∙ two_parts op (sense left) (sense right) more (word_before 0 more) (said more) (openings 0 more)

pub all_said : (t : Tree) → IsFitting t → said (post t) ≡ text (sense t)
all_said t fit =
    ap said (sym (append-nil (post t))) ∙ tree_said t [] fit ∙ append-nil (text (sense t))

-- ---- one operator

pub inner_operand : (s : Sense) (ops : List Mark) → false ≡ is_short s → false ≡ is_none_left ops → codes "(" ++ text s ++ codes ")" ≡ text_before s ops
inner_operand s [] short last = absurd (false≢true last)
inner_operand s (op ∷ ops) short last = sym (cond-false (is_short s) (text s) (codes "(" ++ text s ++ codes ")") (sym short))

pub short_operand : (s : Sense) (ops : List Mark) → true ≡ is_short s → text s ≡ text_before s ops
short_operand s [] short = refl
short_operand s (op ∷ ops) short = sym (cond-true (is_short s) (text s) (codes "(" ++ text s ++ codes ")") (sym short))

pub last_operand : (s : Sense) (ops : List Mark) → true ≡ is_none_left ops → text s ≡ text_before s ops
last_operand s [] last = refl
last_operand s (op ∷ ops) last = absurd (true≢false last)

pub leaf_of : (op is : Mark) (ops : List Mark) (written : List ℕ) → op ≡ is → takes is ≡ Some 0 → written ≡ text_before (leaf_sense is.op) ops
    → (word_before 0 ops ++ from_last (openings 0 ops)) ++ written ≡ said_of op ops
leaf_of op is ops written e t w =
    append_assoc (word_before 0 ops) (from_last (openings 0 ops)) written
    ∙ ap (λ (l : List ℕ). word_before 0 ops ++ (from_last (openings 0 ops) ++ l)) w
    ∙ ap (λ (o : Option ℕ). said_by o is ops) (sym t)
    ∙ ap (λ (m : Mark). said_of m ops) (sym e)

pub operator_of : (op is : Mark) (ops : List Mark) (n : ℕ) → op ≡ is → takes is ≡ Some (suc n) → close_before ops ≡ said_of op ops
operator_of op is ops n e t = ap (λ (o : Option ℕ). said_by o is ops) (sym t) ∙ ap (λ (m : Mark). said_of m ops) (sym e)

pub all_of : (count : ℕ) (texts : List (List ℕ)) → count ≡ length texts → from_last (take count texts) ≡ from_last texts
all_of count texts e = ap from_last (take_all count texts (omega (arith, e)))
