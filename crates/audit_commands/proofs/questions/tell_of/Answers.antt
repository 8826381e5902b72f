use Rattle.std.proofs.Common.{[], refl, subst}
use Rattle.std.specs.Io.Buffered.{writer_contents}
use Rattle.audit_answers.specs.Endings.{refused_at_told}
use Rattle.audit_commands.specs.Auditing.{Asked, Audits, BeginsAudits, IsOpenRefusal, SaysQuestions, asked_of}
use Rattle.audit_answers.specs.code.Listing.{listed}
use Rattle.audit_answers.specs.declared.ended.Ended.TheVariants.{Done}
use Rattle.audit_answers.proofs.EndingLemmas.{is_refusal, none_written, tells, tells_refusal}
use Rattle.audit_commands.proofs.questions.tell_of.Goals as goal

pub returns-in-Ok : goal.returns-in-Ok
returns-in-Ok g c =
    let o = c.args.list.origin in
    let told = c.in-Ok.ensures.told in
    tells (SaysQuestions c.args.telling (asked_of c.args.options c.args.files.now (listed c.args.list)) o) g.A.Write.contents c.args.answers.now c.finish.new.answers _ Done c.finish.result told.0
    (subst (λ (a : Asked). Audits c.args.telling a o told.0) c.given_of-given.ensures.asked told.1) told.2 c.finish.ensures

pub returns-in-Err : goal.returns-in-Err
returns-in-Err g c =
    let o = c.args.list.origin in
    let same = c.given_of-given.ensures.asked in
    let begun = c.in-Err.ensures.begun in
    tells_refusal c.args.telling (SaysQuestions c.args.telling (asked_of c.args.options c.args.files.now (listed c.args.list)) o) g.A.Write.contents c.args.answers.now c.put_audit.new.out
    c.refuse.new.answers c.in-Err.fault c.refuse.result
    (λ other. (
      [],
      none_written (writer_contents g.A.Write.contents) c.args.answers.now c.put_audit.new.out (c.in-Err.ensures.nothing other),
      subst (λ (a : Asked). IsOpenRefusal c.args.telling a (refused_at_told c.args.telling c.in-Err.fault)) same (is_refusal c.args.telling _ c.in-Err.fault c.in-Err.ensures.refused other),
    ))
    (λ memory. (begun.0, begun.2, (begun.0, subst (λ (a : Asked). BeginsAudits c.args.telling a o begun.0) same begun.1, refl))) c.refuse.ensures
