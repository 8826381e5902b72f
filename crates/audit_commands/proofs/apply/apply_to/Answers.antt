use Rattle.std.proofs.Common.{[], inl, inr, refl}
use Rattle.audit_answers.proofs.EndingLemmas.{is_refusal, tells_fault}
use Rattle.audit_commands.specs.Applying.{SaysApply}
use Rattle.audit_commands.specs.code.Givens.{given_asked}
use Rattle.audit_commands.proofs.apply.apply_to.Goals as goal

pub returns-in-Ok : goal.returns-in-Ok
returns-in-Ok g c = c.apply_in.ensures (given_asked c.args.given) c.args.origin c.in-Ok.ensures.opened

pub returns-in-Err : goal.returns-in-Err
returns-in-Err g c =
    tells_fault c.args.telling (SaysApply c.args.telling (given_asked c.args.given) c.args.origin c.args.script.now) g.A.Write.contents g.O.Write.contents c.args.answers.now c.refuse.new.answers c.args.out.now
    c.args.out.now c.in-Err.fault c.refuse.result (λ other. inr (is_refusal c.args.telling _ c.in-Err.fault c.in-Err.ensures.refused other)) (λ memory. ([], inl refl, refl)) c.refuse.ensures refl
