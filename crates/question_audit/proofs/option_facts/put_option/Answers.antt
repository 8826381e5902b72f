use Rattle.hii_bytes.proofs.WritingLemmas.{◌⨾◌}
use Rattle.question_audit.proofs.BeginningLemmas.{at_error}
use Rattle.question_audit.proofs.OptionLemmas.{nothing_begun}
use Rattle.question_audit.proofs.option_facts.put_option.Goals as goal

pub returns-clause-told : goal.returns-clause-told
returns-clause-told g c = λ places told.
    let words = c.in_ok-words.ensures.words places told in
    rw (c.value.ensures, c.op.ensures.bytes, c.chars.ensures, c.text-2.ensures, c.text.ensures, c.op-2.ensures.bytes, words, c.own_denial-denial.ensures) at
    (c.put_column.ensures ⨾ (c.put_decimal.ensures ⨾ c.put.ensures ⨾ c.put_safe_shown.ensures ⨾ c.put-2.ensures ⨾ c.put_option_verdict.ensures ⨾ c.put_words.ensures) ⨾ c.put-3.ensures)

pub returns-in_err-words-clause-begun : goal.returns-in_err-words-clause-begun
returns-in_err-words-clause-begun g c = at_error c.from_residual.result (λ places told. nothing_begun _ _)
