use Rattle.std.proofs.Common.{[], inl, ap}
use Rattle.std.proofs.lemmas.Result.{IfErr-weaker, err_from_is_err_and}
use Rattle.hii_bytes.specs.Watching.{pen_of}
use Rattle.hii_bytes.specs.declared.cause.Fault.{Fault}
use Rattle.hii_bytes.proofs.WritingLemmas.{writes_nil}
use Rattle.question_audit.proofs.BeginningLemmas.{at_error}
use Rattle.audit_commands.specs.code.Givens.{given_asked}
use Rattle.audit_commands.proofs.AuditingLemmas.{begins_none}
use Rattle.audit_commands.proofs.auditing.put_audit.Goals as goal

pub returns-in_err-opened-clause-refused : goal.returns-in_err-opened-clause-refused
returns-in_err-opened-clause-refused g c =
    let p = err_from_is_err_and c.from_residual.result c.from_residual.ensures.1 in
    rw (p.1, p.2) c.in_err-opened.ensures.refused

pub returns-in_err-opened-clause-begun : goal.returns-in_err-opened-clause-begun
returns-in_err-opened-clause-begun g c =
    at_error c.from_residual.result ([], begins_none c.args.telling (given_asked c.args.given) c.args.origin, writes_nil (pen_of g.W.Write.contents c.args.out.now))

pub returns-clause-told : goal.returns-clause-told
returns-clause-told g c = c.put_forms.ensures.told (given_asked c.args.given) c.args.origin c.in_ok-opened.ensures.opened

pub returns-clause-refused : goal.returns-clause-refused
returns-clause-refused g c = IfErr-weaker c.put_forms.result _ _ (λ fault e. inl e) c.put_forms.ensures.memory

pub returns-clause-nothing : goal.returns-clause-nothing
returns-clause-nothing g c = IfErr-weaker c.put_forms.result _ _ (λ fault e other. absurd (other (ap (λ (f : Fault). f.cause) e))) c.put_forms.ensures.memory

pub returns-clause-begun : goal.returns-clause-begun
returns-clause-begun g c = c.put_forms.ensures.begun (given_asked c.args.given) c.args.origin c.in_ok-opened.ensures.opened
