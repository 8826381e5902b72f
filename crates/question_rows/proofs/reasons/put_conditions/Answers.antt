use Rattle.std.proofs.Common.{ap, subst, sym}
use Rattle.hii_bytes.proofs.WritingLemmas.{◌⨾◌}
use Rattle.ifr_opcodes.specs.Forest.{Node}
use Rattle.ifr_nodes.specs.code.Checked.{IsNodeOf}
use Rattle.guard_policy.specs.code.Views.{bytes_of}
use Rattle.condition_text.proofs.WriteLemmas.{written_as}
use Rattle.question_audit.specs.code.Pages.{audited}
use Rattle.question_audit.specs.code.Beginnings.{Begins}
use Rattle.question_audit.proofs.BeginningLemmas.{at_error, begun_before, begun_behind}
use Rattle.question_rows.specs.Conditions.{guards_part}
use Rattle.question_rows.proofs.reasons.put_conditions.Goals as goal

pub put_guards-requires : goal.put_guards-requires
put_guards-requires g c = subst (λ (n : Node). IsNodeOf (bytes_of c.args.page.policy) n) (sym c.statement.ensures) c.requires

pub returns-clause-told : goal.returns-clause-told
returns-clause-told g c =
    let same = ap (guards_part (audited c.args.page)) c.statement.ensures in
    c.put_outside_part.ensures ⨾ written_as c.in_ok-put_guards.ensures.told same ⨾ c.in_ok-put_checks.ensures.told ⨾ c.in_ok-put_rules.ensures.told

pub returns-in_err-put_guards-clause-begun : goal.returns-in_err-put_guards-clause-begun
returns-in_err-put_guards-clause-begun g c =
    let same = ap (guards_part (audited c.args.page)) c.statement.ensures in
    at_error c.from_residual.result (begun_before _ (begun_before _ (begun_behind c.put_outside_part.ensures (subst (Begins _ _) same c.in_err-put_guards.ensures.begun))))

pub returns-in_err-put_checks-clause-begun : goal.returns-in_err-put_checks-clause-begun
returns-in_err-put_checks-clause-begun g c =
    let same = ap (guards_part (audited c.args.page)) c.statement.ensures in
    at_error c.from_residual-in_err-put_checks.result (begun_before _ (begun_behind (c.put_outside_part.ensures ⨾ written_as c.in_ok-put_guards.ensures.told same) c.in_err-put_checks.ensures.begun))

pub returns-in_err-put_rules-clause-begun : goal.returns-in_err-put_rules-clause-begun
returns-in_err-put_rules-clause-begun g c =
    let same = ap (guards_part (audited c.args.page)) c.statement.ensures in
    at_error c.from_residual-in_err-put_rules.result (begun_behind (c.put_outside_part.ensures ⨾ written_as c.in_ok-put_guards.ensures.told same ⨾ c.in_ok-put_checks.ensures.told) c.in_err-put_rules.ensures.begun)
