use Rattle.std.proofs.Common.{ap, option_map, refl}
use Rattle.hii_bytes.specs.declared.cause.Fault.{Fault}
use Rattle.std.specs.List.{find}
use Rattle.store_audit.specs.code.Defaulted.{defaults_view}
use Rattle.store_audit.specs.code.Fillings.{is_unfit}
use Rattle.store_commands.specs.code.Imaging.{SaysFillings}
use Rattle.audit_answers.proofs.EndingLemmas.{tells_fault}
use Rattle.store_commands.proofs.ImagingLemmas.{writes_filled, writes_unfit}
use Rattle.store_commands.proofs.image.write.Goals as goal

pub returns-in-Ok-true : goal.returns-in-Ok-true
returns-in-Ok-true g c =
    let done = rw c.in-Ok-true.field-0-test at c.in-Ok-true.ensures.done in
    writes_filled c.args.telling g.A.Write.contents g.O.Write.contents c.args.declared.now (option_map defaults_view c.args.defaults) c.args.fillings.now c.args.answers.now c.put_image.new.out c.args.out.now c.put_image.new.file c.commit.new.out
    c.commit.result (find is_unfit c.args.fillings.now) refl done (c.in-Ok-true.ensures.none_held c.in-Ok-true.field-0-test) c.commit.ensures.unwritten c.commit.ensures.written

pub returns-in-Ok-false : goal.returns-in-Ok-false
returns-in-Ok-false g c =
    let done = rw c.in-Ok-false.field-0-test at c.in-Ok-false.ensures.done in
    writes_unfit c.args.telling g.A.Write.contents g.O.Write.contents c.args.declared.now (option_map defaults_view c.args.defaults) c.args.fillings.now c.args.answers.now c.put_image.new.out c.finish.new.answers c.args.out.now
    c.put_image.new.file c.finish.result (find is_unfit c.args.fillings.now) refl done c.finish.ensures

pub returns-in-Err : goal.returns-in-Err
returns-in-Err g c =
    tells_fault c.args.telling (SaysFillings c.args.telling c.args.declared.now (option_map defaults_view c.args.defaults) c.args.fillings.now) g.A.Write.contents g.O.Write.contents c.args.answers.now c.refuse.new.answers c.args.out.now c.put_image.new.file
    c.in-Err.fault c.refuse.result (λ other. absurd (other (ap (λ (f : Fault). f.cause) c.in-Err.ensures.refused))) (λ memory. refl)
    (rw c.in-Err.ensures.nothing.0 at c.refuse.ensures) c.in-Err.ensures.nothing.1
