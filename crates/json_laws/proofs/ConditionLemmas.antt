-- What is said of conditions is a word.
use Rattle.std.proofs.Common.{◌≡◌, ◌==◌, ℕ, true, List, [], ◌∷◌, ◌++◌, decimal, codes, refl}
use Rattle.std.specs.List.{flat_map, list_all}
use Rattle.std.proofs.lemmas.Bool.{and_parts, cond_both}
use Rattle.condition_text.specs.Senses.{Sense, eq_id_val, eq_id_id, eq_id_val_list, question_ref, rule_ref, uint, constant, unary, binary}
use Rattle.condition_text.specs.Texts.{Words, as_operand, binary_words, constant_words, is_short, text, unary_words, word_in}
use Rattle.json_laws.specs.laws.Written.{IsWord, is_plain}
use Rattle.json_laws.proofs.WordLemmas.{decimal_word, word_behind}

entry_word : (entries : Words) (code : ℕ) → list_all (λ e. list_all is_plain e.1) entries ≡ true → IsWord (word_in entries code)
entry_word [] code all = refl
entry_word (e ∷ entries) code all =
    let p = and_parts (list_all is_plain e.1) _ all in
    cond_both (e.0 == code) e.1 (word_in entries code) IsWord (λ _. p.0) (λ _. entry_word entries code p.1)

behind_word : (w : List ℕ) (n : ℕ) → IsWord w → IsWord (w ++ decimal n)
behind_word w n plain = word_behind w (decimal n) plain (decimal_word n)

numbers_word : (ns : List ℕ) → IsWord (flat_map (λ n. codes " " ++ decimal n) ns)
numbers_word [] = refl
numbers_word (n ∷ ns) = word_behind (codes " " ++ decimal n) (flat_map (λ n. codes " " ++ decimal n) ns) (behind_word (codes " ") n refl) (numbers_word ns)

operand_word : (s : Sense) (said : List ℕ) → IsWord said → IsWord (as_operand s said)
operand_word s said plain =
    cond_both (is_short s) said (codes "(" ++ said ++ codes ")") IsWord (λ _. plain) (λ _. word_behind (codes "(" ++ said) (codes ")") (word_behind (codes "(") said refl plain) refl)

pub condition_word : (s : Sense) → IsWord (text s)
unfolding text
condition_word (eq_id_val question value) =
    behind_word (codes "ideqval q" ++ decimal question ++ codes " == ") value
    (word_behind (codes "ideqval q" ++ decimal question) (codes " == ") (behind_word (codes "ideqval q") question refl) refl)
condition_word (eq_id_id first second) =
    behind_word (codes "ideqid q" ++ decimal first ++ codes " == q") second
    (word_behind (codes "ideqid q" ++ decimal first) (codes " == q") (behind_word (codes "ideqid q") first refl) refl)
condition_word (eq_id_val_list question values) =
    word_behind (codes "ideqvallist q" ++ decimal question ++ codes " ==") (flat_map (λ value. codes " " ++ decimal value) values)
    (word_behind (codes "ideqvallist q" ++ decimal question) (codes " ==") (behind_word (codes "ideqvallist q") question refl) refl) (numbers_word values)
condition_word (question_ref question) =
    word_behind (codes "questionref(" ++ decimal question) (codes ")") (behind_word (codes "questionref(") question refl) refl
condition_word (rule_ref rule) = word_behind (codes "ruleref(" ++ decimal rule) (codes ")") (behind_word (codes "ruleref(") rule refl) refl
condition_word (uint bits value) = behind_word (decimal value ++ codes "u") bits (word_behind (decimal value) (codes "u") (decimal_word value) refl)
condition_word (constant code) = entry_word constant_words code refl
condition_word (unary code operand) =
    word_behind (word_in unary_words code) (as_operand operand (text operand)) (entry_word unary_words code refl) (operand_word operand (text operand) (condition_word operand))
condition_word (binary code left right) =
    let one = as_operand left (text left) in
    let word = word_in binary_words code in
    let other = as_operand right (text right) in
    word_behind (one ++ codes " " ++ word ++ codes " ") other
    (word_behind (one ++ codes " " ++ word) (codes " ")
    (word_behind (one ++ codes " ") word (word_behind one (codes " ") (operand_word left (text left) (condition_word left)) refl) (entry_word binary_words code refl)) refl)
    (operand_word right (text right) (condition_word right))
