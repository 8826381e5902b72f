use Rattle.std.proofs.Common.{ap, sym}
use Rattle.hii_bytes.proofs.WritingLemmas.{◌⨾◌}
use Rattle.ifr_nodes.specs.Nodes.{nodes_of}
use Rattle.hii_questions.specs.code.Views.{question_view}
use Rattle.condition_text.proofs.WriteLemmas.{written_as}
use Rattle.unlock_audit.specs.Told.{answer_members}
use Rattle.unlock_audit.specs.code.Answers.{answer_meant, unlock_meant}
use Rattle.unlock_audit.specs.declared.answer.Answer.{Answer}
use Rattle.unlock_audit.proofs.ToldLemmas.{never_told}
use Rattle.unlock_audit.proofs.objects.put_answer.Goals as goal

pub returns-in-Never : goal.returns-in-Never
returns-in-Never g c =
    let s = c.args.browser.now.state in
    let q = question_view c.args.question in
    let reason = never_told s q c.args.details.now _ c.as_ref.ensures.value c.in-Never.is c.requires.details in
    written_as (c.put_member.ensures ⨾ (c.put.ensures ⨾ written_as c.put_reason.ensures reason ⨾ c.put-in-Never.ensures))
    (ap (λ (a : Answer). answer_members (nodes_of s.ifr) q (unlock_meant c.args.unlock.now) (answer_meant a)) (sym c.in-Never.is))

pub put_written-requires-clause-written : goal.put_written-requires-clause-written
put_written-requires-clause-written g c = rw c.in-Written.is at c.requires.details

pub returns-in-Written : goal.returns-in-Written
returns-in-Written g c =
    written_as (c.put_member-in-Written.ensures ⨾ (c.put-in-Written.ensures ⨾ c.put_written.ensures ⨾ c.put-in-Written-2.ensures))
    (ap (λ (a : Answer). answer_members (nodes_of c.args.browser.now.state.ifr) (question_view c.args.question) (unlock_meant c.args.unlock.now) (answer_meant a)) (sym c.in-Written.is))
