use Rattle.std.proofs.Common.{ap, subst}
use Rattle.hii_bytes.proofs.WritingLemmas.{◌⨾◌}
use Rattle.condition_text.proofs.WriteLemmas.{written_as}
use Rattle.question_audit.specs.code.Pages.{audited}
use Rattle.question_audit.specs.ConditionFacts.{guard_facts}
use Rattle.question_audit.specs.code.Beginnings.{Begins}
use Rattle.question_audit.proofs.BeginningLemmas.{at_error, begun_before, begun_behind, first_begun}
use Rattle.question_audit.proofs.OptionLemmas.{nothing_begun}
use Rattle.question_audit.proofs.question_facts.put_condition_facts.Goals as goal

pub returns-clause-told : goal.returns-clause-told
returns-clause-told g c =
    let same = ap (guard_facts (audited c.args.page) c.args.package_place) c.statement.ensures in
    written_as c.in_ok-put_guards.ensures.told same ⨾ c.in_ok-put_checks.ensures.told ⨾ c.in_ok-put_rules.ensures.told ⨾ c.in_ok-put_options.ensures.told

pub returns-in_err-put_guards-clause-begun : goal.returns-in_err-put_guards-clause-begun
returns-in_err-put_guards-clause-begun g c =
    at_error c.from_residual.result (rw c.in_err-put_guards.ensures.nothing (nothing_begun _ _))

pub returns-in_err-put_checks-clause-begun : goal.returns-in_err-put_checks-clause-begun
returns-in_err-put_checks-clause-begun g c =
    let same = ap (guard_facts (audited c.args.page) c.args.package_place) c.statement.ensures in
    at_error c.from_residual-in_err-put_checks.result (rw c.in_err-put_checks.ensures.nothing (begun_before _ (begun_before _ (first_begun _ (written_as c.in_ok-put_guards.ensures.told same)))))

pub returns-in_err-put_rules-clause-begun : goal.returns-in_err-put_rules-clause-begun
returns-in_err-put_rules-clause-begun g c =
    let same = ap (guard_facts (audited c.args.page) c.args.package_place) c.statement.ensures in
    at_error c.from_residual-in_err-put_rules.result (rw c.in_err-put_rules.ensures.nothing (begun_before _ (first_begun _ (written_as c.in_ok-put_guards.ensures.told same ⨾ c.in_ok-put_checks.ensures.told))))

pub returns-in_err-put_options-clause-begun : goal.returns-in_err-put_options-clause-begun
returns-in_err-put_options-clause-begun g c =
    let same = ap (guard_facts (audited c.args.page) c.args.package_place) c.statement.ensures in
    at_error c.from_residual-in_err-put_options.result
    (begun_behind (written_as c.in_ok-put_guards.ensures.told same ⨾ c.in_ok-put_checks.ensures.told ⨾ c.in_ok-put_rules.ensures.told) c.in_err-put_options.ensures.begun)
