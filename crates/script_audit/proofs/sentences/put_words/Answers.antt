use Rattle.std.proofs.Common.{◌≡◌, true, false, subst, sym, ◌∙◌, arith}
use Rattle.std.specs.Prelude.{nat_lt}
use Rattle.std.proofs.lemmas.Bool.{cond-false, cond-true}
use Rattle.std.proofs.lemmas.Bool.Decides.{nat_tests}
use Rattle.hii_bytes.specs.Watching.{Writes}
use Rattle.script_audit.specs.Words.{has_two_spaces, word_count}
use Rattle.script_audit.proofs.sentences.put_words.Goals as goal

pub returns-then-count-words : goal.returns-then-count-words
returns-then-count-words g c =
    let text = c.args.text.now in
    let count = c.space_count-count.ensures.count in
    let one : has_two_spaces text ≡ false = sym c.has_two_spaces.ensures ∙ c.if-has_two_spaces.false in
    let few : nat_lt (word_count text) c.args.words.least ≡ true = grind (arith, nat_tests) in
    subst (Writes _ _) (sym (cond-false (has_two_spaces text) _ _ one ∙ cond-true (nat_lt (word_count text) c.args.words.least) _ _ few)) c.put-then-count-words.ensures

pub returns-then-words-count : goal.returns-then-words-count
returns-then-words-count g c =
    let text = c.args.text.now in
    let count = c.space_count-count.ensures.count in
    let one : has_two_spaces text ≡ false = sym c.has_two_spaces.ensures ∙ c.if-has_two_spaces.false in
    let enough : nat_lt (word_count text) c.args.words.least ≡ false = grind (arith, nat_tests) in
    let many : nat_lt c.args.words.most (word_count text) ≡ true = grind (arith, nat_tests) in
    subst (Writes _ _)
    (sym (cond-false (has_two_spaces text) _ _ one ∙ cond-false (nat_lt (word_count text) c.args.words.least) _ _ enough ∙ cond-true (nat_lt c.args.words.most (word_count text)) _ _ many))
    c.put-then-words-count.ensures
