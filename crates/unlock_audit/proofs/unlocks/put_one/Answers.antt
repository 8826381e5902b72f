use Rattle.std.proofs.Common.{List, Option, Some, ℕ, ap, false, subst, sym, true, ◌∙◌}
use Rattle.std.specs.Prelude.{is_some}
use Rattle.ifr_opcodes.specs.Forest.{Node}
use Rattle.hii_bytes.specs.Watching.{Puts}
use Rattle.hii_questions.specs.Fields.{Asked}
use Rattle.hii_questions.specs.code.Views.{question_view}
use Rattle.guard_policy.specs.code.Views.{bytes_of}
use Rattle.condition_text.proofs.WriteLemmas.{written_as}
use Rattle.question_audit.proofs.AskedLemmas.{IsFoundWith, found_with, none_with}
use Rattle.session_steps.specs.State.{State}
use Rattle.unlock_audit.specs.Told.{TellsUnlock, one_told, unlock_of_told, unlock_told}
use Rattle.unlock_audit.specs.Tries.{discarded}
use Rattle.unlock_audit.specs.Unlock.{all_tries, most_tries, unlock}
use Rattle.unlock_audit.proofs.unlocks.put_one.Goals as goal

pub put_question-requires-clause-own : goal.put_question-requires-clause-own
put_question-requires-clause-own g c =
    let policy = c.page.result.policy in
    let q = question_view c.in-Some.question in
    let found = subst (λ (b : List ℕ). IsFoundWith b c.args.id q) c.page.ensures.bytes (found_with (bytes_of policy) c.questions.result.now.ifr c.args.id q policy.accepted.checked.spelled c.questions.ensures.own c.in-Some.ensures) in
    record { node = found.node; asked = found.own }

pub returns-in_default-clause-told : goal.returns-in_default-clause-told
unfolding unlock_of_told
returns-in_default-clause-told g c =
    let d = discarded c.args.browser.now.state in
    let none = none_with d.ifr c.questions.result.now.ifr c.args.id (c.questions.ensures.own ∙ c.page.ensures.bytes ∙ ap (λ (s : State). s.ifr) c.discard.ensures) c.in_default.ensures in
    record {
      there = sym (ap (λ (o : Option Node). is_some o) none);
      told = written_as c.put_no_question.ensures (sym (ap (one_told c.args.telling d c.args.id) none));
    }

pub returns-clause-told : goal.returns-clause-told
unfolding unlock_of_told
returns-clause-told g c =
    let t = c.args.telling in
    let d = discarded c.args.browser.now.state in
    let policy = c.page.result.policy in
    let q = question_view c.in-Some.question in
    let bytes = c.page.ensures.bytes ∙ ap (λ (s : State). s.ifr) c.discard.ensures in
    let found = subst (λ (b : List ℕ). IsFoundWith b c.args.id q) bytes (found_with (bytes_of policy) c.questions.result.now.ifr c.args.id q policy.accepted.checked.spelled c.questions.ensures.own c.in-Some.ensures) in
    record {
      there = sym (ap (λ (o : Option Node). is_some o) found.with_id);
      told = written_as
          (subst (λ (st : State). Puts g.W.Write.contents c.args.out.now c.put_question.new.out (unlock_told t st q (unlock st (most_tries all_tries) q))) c.discard.ensures c.in_ok-put_question.ensures.told.1)
          (ap (λ (r : Asked). unlock_told t d r (unlock d (most_tries all_tries) r)) found.own ∙ sym (ap (one_told t d c.args.id) found.with_id));
    }
