use Rattle.std.proofs.Common.{ap, sym}
use Rattle.hii_bytes.proofs.WritingLemmas.{◌⨾◌}
use Rattle.ifr_nodes.specs.Nodes.{nodes_of}
use Rattle.hii_questions.specs.code.Views.{question_view}
use Rattle.condition_text.proofs.WriteLemmas.{written_as}
use Rattle.unlock_audit.specs.Told.{answer_words}
use Rattle.unlock_audit.specs.code.Answers.{answer_meant, unlock_meant}
use Rattle.unlock_audit.specs.declared.answer.Answer.{Answer}
use Rattle.unlock_audit.proofs.ToldLemmas.{never_told}
use Rattle.unlock_audit.proofs.lines.put_answer.Goals as goal

pub returns-in-Never : goal.returns-in-Never
returns-in-Never g c =
    let s = c.args.browser.now.state in
    let q = question_view c.args.question in
    let reason = never_told s q c.args.details.now _ c.as_ref.ensures.value c.in-Never.is c.requires.details in
    written_as (c.put.ensures ⨾ written_as c.put_reason.ensures reason) (ap (λ (a : Answer). answer_words (nodes_of s.ifr) q (unlock_meant c.args.unlock.now) (answer_meant a)) (sym c.in-Never.is))

pub returns-then-again : goal.returns-then-again
returns-then-again g c = rw (c.in-Found.is, c.if-again.true) (rw c.as_slice.ensures.value at (c.put_commands.ensures ⨾ c.put-then-again.ensures))

pub put_written-requires-clause-written : goal.put_written-requires-clause-written
put_written-requires-clause-written g c = rw c.in-Written.is at c.requires.details

pub returns-in-Written : goal.returns-in-Written
returns-in-Written g c =
    written_as (c.put-in-Written.ensures ⨾ c.put_written.ensures)
    (ap (λ (a : Answer). answer_words (nodes_of c.args.browser.now.state.ifr) (question_view c.args.question) (unlock_meant c.args.unlock.now) (answer_meant a)) (sym c.in-Written.is))

pub returns-in-More : goal.returns-in-More
returns-in-More g c =
    written_as (rw c.as_slice-in-More.ensures.value at (c.put-in-More.ensures ⨾ c.put_decimal.ensures ⨾ c.put-in-More-2.ensures ⨾ c.put_ids.ensures)) (ap (λ a. answer_words (nodes_of c.args.browser.now.state.ifr) (question_view c.args.question) (unlock_meant c.args.unlock.now) (answer_meant a)) (sym c.in-More.is))

pub returns-in-None : goal.returns-in-None
returns-in-None g c =
    written_as (rw c.as_slice-in-None.ensures.value at (c.put-in-None.ensures ⨾ c.put_ids-in-None.ensures)) (ap (λ a. answer_words (nodes_of c.args.browser.now.state.ifr) (question_view c.args.question) (unlock_meant c.args.unlock.now) (answer_meant a)) (sym c.in-None.is))

pub returns-in-Driver : goal.returns-in-Driver
returns-in-Driver g c =
    written_as (rw c.as_slice-in-Driver.ensures.value at (c.put-in-Driver.ensures ⨾ c.put_ids-in-Driver.ensures)) (ap (λ a. answer_words (nodes_of c.args.browser.now.state.ifr) (question_view c.args.question) (unlock_meant c.args.unlock.now) (answer_meant a)) (sym c.in-Driver.is))
