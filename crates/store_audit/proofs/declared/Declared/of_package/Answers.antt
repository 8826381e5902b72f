use Rattle.std.proofs.lemmas.Result.{err_from_is_err_and}
use Rattle.hii_bytes.specs.Faults.{HasNone}
use Rattle.session_steps.specs.Opening.{IsFormSetFault}
use Rattle.browser_commands.proofs.OpeningLemmas.{browsable_no_fault, package_refuses, stores_refuse, questions_refuse}
use Rattle.std.proofs.Common.{subst}
use Rattle.store_audit.proofs.declared.Declared.of_package.Goals as goal

pub returns-in_err-forms-clause-refused : goal.returns-in_err-forms-clause-refused
returns-in_err-forms-clause-refused c =
    let p = err_from_is_err_and c.from_residual.result c.from_residual.ensures.1 in
    rw (p.1, p.2) (package_refuses _ _ c.in_err-forms.ensures.refused)

pub returns-in_err-layout-clause-refused : goal.returns-in_err-layout-clause-refused
returns-in_err-layout-clause-refused c =
    let p = err_from_is_err_and c.from_residual-in_err-layout.result c.from_residual-in_err-layout.ensures.1 in
    rw (p.1, p.2, ← c.in_ok-forms.ensures.read) (stores_refuse _ _ c.in_ok-forms.ensures.accepted c.in_err-layout.ensures.refused)

pub returns-in_err-questions-clause-refused : goal.returns-in_err-questions-clause-refused
returns-in_err-questions-clause-refused c =
    let p = err_from_is_err_and c.from_residual-in_err-questions.result c.from_residual-in_err-questions.ensures.1 in
    rw (p.1, p.2, ← c.in_ok-forms.ensures.read) (questions_refuse _ _ c.in_ok-forms.ensures.accepted c.in_ok-layout.ensures.sound c.in_err-questions.ensures.refused)

pub returns-clause-browsable : goal.returns-clause-browsable
returns-clause-browsable c =
    record { accepted = c.in_ok-forms.ensures.accepted; stores = c.in_ok-layout.ensures.sound; questions = c.in_ok-questions.ensures.sound }

pub returns-clause-sound : goal.returns-clause-sound
returns-clause-sound c =
    subst (λ ifr. HasNone (IsFormSetFault ifr)) c.in_ok-forms.ensures.read (browsable_no_fault _ (record { accepted = c.in_ok-forms.ensures.accepted; stores = c.in_ok-layout.ensures.sound; questions = c.in_ok-questions.ensures.sound }))
