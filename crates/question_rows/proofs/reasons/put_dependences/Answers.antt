use Rattle.std.proofs.Common.{ap, subst, sym}
use Rattle.hii_bytes.proofs.WritingLemmas.{◌⨾◌}
use Rattle.ifr_opcodes.specs.Forest.{Node}
use Rattle.ifr_nodes.specs.code.Checked.{IsNodeOf}
use Rattle.guard_policy.specs.code.Views.{bytes_of}
use Rattle.condition_text.proofs.WriteLemmas.{written_as}
use Rattle.question_audit.specs.code.Pages.{audited}
use Rattle.question_audit.specs.code.Beginnings.{Begins}
use Rattle.question_audit.specs.declared.when.When.TheVariants.{AtCommands, AtOpening}
use Rattle.question_audit.proofs.BeginningLemmas.{at_error, begun_before, begun_behind, first_begun}
use Rattle.question_rows.specs.Dependences.{depends_part}
use Rattle.question_rows.proofs.reasons.put_dependences.Goals as goal

pub put_depends-requires : goal.put_depends-requires
put_depends-requires g c = subst (λ (n : Node). IsNodeOf (bytes_of c.args.page.policy) n) (sym c.statement-statement.ensures) c.requires.node

pub put_depends-requires-2 : goal.put_depends-requires-2
put_depends-requires-2 g c = subst (λ (n : Node). IsNodeOf (bytes_of c.args.page.policy) n) (sym c.statement-statement.ensures) c.requires.node

pub returns-clause-told : goal.returns-clause-told
returns-clause-told g c =
    let a = audited c.args.page in
    let same = c.statement-statement.ensures in
    written_as c.in_ok-put_depends.ensures.told (ap (depends_part AtCommands a) same) ⨾ written_as c.in_ok-put_depends-2.ensures.told (ap (depends_part AtOpening a) same) ⨾ c.in_ok-put_decides.ensures.told

pub returns-in_err-put_depends-clause-begun : goal.returns-in_err-put_depends-clause-begun
returns-in_err-put_depends-clause-begun g c =
    let same = ap (depends_part AtCommands (audited c.args.page)) c.statement-statement.ensures in
    at_error c.from_residual.result (begun_before _ (begun_before _ (subst (Begins _ _) same c.in_err-put_depends.ensures.begun)))

pub returns-in_err-put_depends-2-clause-begun : goal.returns-in_err-put_depends-2-clause-begun
returns-in_err-put_depends-2-clause-begun g c =
    let a = audited c.args.page in
    let same = c.statement-statement.ensures in
    at_error c.from_residual-in_err-put_depends-2.result
    (begun_before _ (begun_behind (written_as c.in_ok-put_depends.ensures.told (ap (depends_part AtCommands a) same)) (subst (Begins _ _) (ap (depends_part AtOpening a) same) c.in_err-put_depends-2.ensures.begun)))

pub returns-in_err-put_decides-clause-begun : goal.returns-in_err-put_decides-clause-begun
returns-in_err-put_decides-clause-begun g c =
    let a = audited c.args.page in
    let same = c.statement-statement.ensures in
    at_error c.from_residual-in_err-put_decides.result
    (rw c.in_err-put_decides.ensures.nothing (first_begun _ (written_as c.in_ok-put_depends.ensures.told (ap (depends_part AtCommands a) same) ⨾ written_as c.in_ok-put_depends-2.ensures.told (ap (depends_part AtOpening a) same))))
