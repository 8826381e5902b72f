use Rattle.std.proofs.Common.{ap}
use Rattle.hii_bytes.proofs.WritingLemmas.{◌⨾◌}
use Rattle.condition_text.proofs.WriteLemmas.{written_as}
use Rattle.question_audit.specs.code.Pages.{audited}
use Rattle.question_audit.specs.Dependences.{depends_facts}
use Rattle.question_audit.specs.declared.when.When.TheVariants.{AtCommands, AtOpening}
use Rattle.question_audit.proofs.BeginningLemmas.{at_error, begun_before, first_begun}
use Rattle.question_audit.proofs.OptionLemmas.{nothing_begun}
use Rattle.question_audit.proofs.question_facts.put_dependence_facts.Goals as goal

pub returns-clause-told : goal.returns-clause-told
returns-clause-told g c =
    let a = audited c.args.page in
    let same = c.statement-statement.ensures in
    written_as c.in_ok-put_depends.ensures.told (ap (depends_facts AtCommands a) same) ⨾ written_as c.in_ok-put_depends-2.ensures.told (ap (depends_facts AtOpening a) same) ⨾ c.in_ok-put_decides.ensures.told

pub returns-in_err-put_depends-clause-begun : goal.returns-in_err-put_depends-clause-begun
returns-in_err-put_depends-clause-begun g c = at_error c.from_residual.result (rw c.in_err-put_depends.ensures.nothing (nothing_begun _ _))

pub returns-in_err-put_depends-2-clause-begun : goal.returns-in_err-put_depends-2-clause-begun
returns-in_err-put_depends-2-clause-begun g c =
    let a = audited c.args.page in
    let same = c.statement-statement.ensures in
    at_error c.from_residual-in_err-put_depends-2.result
    (rw c.in_err-put_depends-2.ensures.nothing (begun_before _ (first_begun _ (written_as c.in_ok-put_depends.ensures.told (ap (depends_facts AtCommands a) same)))))

pub returns-in_err-put_decides-clause-begun : goal.returns-in_err-put_decides-clause-begun
returns-in_err-put_decides-clause-begun g c =
    let a = audited c.args.page in
    let same = c.statement-statement.ensures in
    at_error c.from_residual-in_err-put_decides.result
    (rw c.in_err-put_decides.ensures.nothing (first_begun _ (written_as c.in_ok-put_depends.ensures.told (ap (depends_facts AtCommands a) same) ⨾ written_as c.in_ok-put_depends-2.ensures.told (ap (depends_facts AtOpening a) same))))
