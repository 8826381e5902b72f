use Rattle.std.proofs.Common.{ap, subst, sym, ◌∙◌}
use Rattle.hii_bytes.specs.Watching.{pen_of, Writes}
use Rattle.hii_bytes.proofs.WritingLemmas.{◌⨾◌}
use Rattle.session_steps.specs.Step.{Outcome, extract_reading}
use Rattle.browser_commands.proofs.browser.Browser.extract.Goals as goal

pub returns-in-Ok-told_bytes-clause-text : goal.returns-in-Ok-told_bytes-clause-text
returns-in-Ok-told_bytes-clause-text g c =
    let s = c.args.self.now.state in
    let answer = ap (extract_reading s) c.in-Ok.ensures ∙ c.in-Ok-told_bytes.ensures.answer in
    subst (λ (o : Outcome). Writes (pen_of g.W.Write.contents c.args.out.now) (pen_of g.W.Write.contents c.put-in-Ok-told_bytes.new.self) o.text) (sym answer) (c.put.ensures ⨾ (c.put_response.ensures ⨾ c.put-in-Ok-told_bytes.ensures))

pub returns-in-Err-clause-text : goal.returns-in-Err-clause-text
returns-in-Err-clause-text g c =
    let s = c.args.self.now.state in
    let answer = ap (extract_reading s) c.in-Err.ensures in
    subst (λ (o : Outcome). Writes (pen_of g.W.Write.contents c.args.out.now) (pen_of g.W.Write.contents c.refuse.new.out) o.text) (sym answer) c.refuse.ensures.text

pub returns-in-Err-clause-reply : goal.returns-in-Err-clause-reply
returns-in-Err-clause-reply g c =
    let s = c.args.self.now.state in
    let answer = ap (extract_reading s) c.in-Err.ensures in
    c.refuse.ensures.reply ∙ sym (ap (λ (o : Outcome). o.reply) answer)

pub returns-in-Ok-told_bytes-clause-reply : goal.returns-in-Ok-told_bytes-clause-reply
returns-in-Ok-told_bytes-clause-reply g c =
    let s = c.args.self.now.state in
    let answer = ap (extract_reading s) c.in-Ok.ensures ∙ c.in-Ok-told_bytes.ensures.answer in
    sym (ap (λ (o : Outcome). o.reply) answer)

pub returns-in-Err-told_bytes-clause-text : goal.returns-in-Err-told_bytes-clause-text
returns-in-Err-told_bytes-clause-text g c =
    let s = c.args.self.now.state in
    let answer = ap (extract_reading s) c.in-Ok.ensures ∙ c.in-Err-told_bytes.ensures in
    subst (λ (o : Outcome). Writes (pen_of g.W.Write.contents c.args.out.now) (pen_of g.W.Write.contents c.deny.new.out) o.text) (sym answer) c.deny.ensures.text

pub returns-in-Err-told_bytes-clause-reply : goal.returns-in-Err-told_bytes-clause-reply
returns-in-Err-told_bytes-clause-reply g c =
    let s = c.args.self.now.state in
    let answer = ap (extract_reading s) c.in-Ok.ensures ∙ c.in-Err-told_bytes.ensures in
    c.deny.ensures.reply ∙ sym (ap (λ (o : Outcome). o.reply) answer)
