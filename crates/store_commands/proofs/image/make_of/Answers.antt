use Rattle.std.proofs.Common.{inl, refl}
use Rattle.audit_json.specs.Telling.{asked}
use Rattle.store_commands.specs.Imaging.{SaysImage}
use Rattle.audit_answers.proofs.EndingLemmas.{is_refusal, tells_fault}
use Rattle.store_commands.proofs.image.make_of.Goals as goal

pub returns-in-Err-clause-told : goal.returns-in-Err-clause-told
returns-in-Err-clause-told g c =
    tells_fault (asked c.args.options.now.json) (SaysImage (g.F.StoreFiles.known c.args.files.now) c.args.options.now c.args.list.now) g.A.Write.contents g.O.Write.contents c.args.answers.now c.refuse.new.answers
    c.args.out.now c.args.out.now c.in-Err.fault c.refuse.result (λ other. inl (is_refusal (asked c.args.options.now.json) _ c.in-Err.fault c.in-Err.ensures.refused other)) (λ memory. refl) (rw c.of.ensures at c.refuse.ensures) refl
