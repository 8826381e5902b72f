use Rattle.std.proofs.Common.{◌≡◌, codes, true, subst, sym, ◌∙◌}
use Rattle.std.specs.Prelude.{bytes_eq}
use Rattle.std.proofs.lemmas.Bool.{cond-false, cond-true}
use Rattle.hii_bytes.specs.Watching.{Writes}
use Rattle.hii_bytes.proofs.WritingLemmas.{◌⨾◌}
use Rattle.script_audit.specs.Words.{first_word}
use Rattle.script_audit.proofs.sentences.put_arguments.Goals as goal

pub returns-then-is_word : goal.returns-then-is_word
returns-then-is_word g c =
    let is : bytes_eq (first_word c.args.text.now) (codes "lang") ≡ true = rw c.first_word.ensures at (sym c.is_word.ensures ∙ c.if-is_word.true) in
    subst (Writes _ _) (sym (cond-false c.args.takes_number _ _ c.if-takes_number.false ∙ cond-true (bytes_eq (first_word c.args.text.now) (codes "lang")) _ _ is))
    (rw c.second_word-then-is_word.ensures at (c.put.ensures ⨾ c.put_bytes.ensures))
