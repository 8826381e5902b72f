use Rattle.std.proofs.Common.{[], inl, inr, refl}
use Rattle.std.specs.Io.Buffered.{writer_contents}
use Rattle.hii_bytes.specs.Watching.{pen_of}
use Rattle.hii_bytes.proofs.WritingLemmas.{writes_nil}
use Rattle.audit_json.specs.declared.telling.Telling.TheVariants.{Lines}
use Rattle.audit_answers.proofs.EndingLemmas.{is_refusal, left, tells_and_writes, tells_fault, tells_refused}
use Rattle.audit_commands.specs.Reporting.{SaysReport, long_page_text}
use Rattle.audit_commands.specs.code.Givens.{given_asked}
use Rattle.audit_commands.proofs.report.report_on.Goals as goal

pub returns-in-Ok-Some : goal.returns-in-Ok-Some
returns-in-Ok-Some g c =
    let answers = g.A.Write.contents in
    let file = g.O.Write.contents in
    let old = c.args.out.now in
    let mid = c.write_page.new.out in
    let bytes = c.in-Ok-Some.page.items in
    let its = rw c.in-Ok-Some.field-0-is at c.in-Ok-Some.ensures.told in
    tells_and_writes (SaysReport (given_asked c.args.given)) answers file c.args.answers.now c.write_page.new.answers old mid c.commit.new.out (pen_of (writer_contents answers) c.args.answers.now) bytes []
    c.commit.result (its, refl) (its, refl) (writes_nil _) c.write_page.ensures.passed c.write_page.ensures.none_held c.write_page.ensures.untouched c.commit.ensures.unwritten c.commit.ensures.written
    (λ sound. left file old mid c.commit.new.out bytes c.commit.result (rw c.as_slice.ensures.value at (c.write_page.ensures.written sound)) (c.commit.ensures.written sound))

pub returns-in-Ok-None : goal.returns-in-Ok-None
returns-in-Ok-None g c =
    let its = rw c.in-Ok-None.field-0-is at c.in-Ok-None.ensures.told in
    let e = c.refuse_page.ensures in
    tells_refused (SaysReport (given_asked c.args.given)) g.A.Write.contents g.O.Write.contents c.args.answers.now c.refuse_page.new.answers c.args.out.now c.args.out.now e.0 c.refuse_page.result long_page_text
    (inl (its, refl)) e.1 e.2 refl

pub returns-in-Err : goal.returns-in-Err
returns-in-Err g c =
    tells_fault Lines (SaysReport (given_asked c.args.given)) g.A.Write.contents g.O.Write.contents c.args.answers.now c.refuse.new.answers c.args.out.now c.args.out.now c.in-Err.fault c.refuse.result
    (λ other. inr (is_refusal Lines _ c.in-Err.fault c.in-Err.ensures.refused other)) (λ memory. refl) c.refuse.ensures refl
