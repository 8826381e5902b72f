use Rattle.std.proofs.Common.{ap, option_map, refl}
use Rattle.hii_bytes.specs.declared.cause.Fault.{Fault}
use Rattle.store_audit.specs.code.Defaulted.{defaults_view}
use Rattle.exported_config.specs.code.Views.{exported_view}
use Rattle.audit_json.specs.Telling.{asked}
use Rattle.store_commands.specs.Imaging.{SaysImage}
use Rattle.store_commands.specs.code.Imaging.{SaysFillings}
use Rattle.audit_answers.proofs.EndingLemmas.{tells_and_writes_as, tells_fault}
use Rattle.store_commands.proofs.ImagingLemmas.{says_image}
use Rattle.store_commands.proofs.image.fill_from.Goals as goal

pub returns-in-Err-NoMemory-clause-told : goal.returns-in-Err-NoMemory-clause-told
returns-in-Err-NoMemory-clause-told g c = λ list text made are_asked unknown is_text read.
    tells_fault (asked c.args.options.now.json) (SaysImage (g.F.StoreFiles.known c.args.files.now) c.args.options.now list) g.A.Write.contents g.O.Write.contents c.args.answers.now c.refuse.new.answers c.args.out.now c.args.out.now
    c.out_of_memory.result c.refuse.result (λ other. absurd (other (ap (λ (f : Fault). f.cause) c.out_of_memory.ensures))) (λ memory. refl) (rw c.of-telling.ensures at c.refuse.ensures) refl

pub returns-clause-told : goal.returns-clause-told
returns-clause-told g c = λ list text made are_asked unknown is_text read.
    let fs = c.in-Ok.fillings.items in
    tells_and_writes_as (SaysFillings (asked c.args.options.now.json) c.args.declared.now (option_map defaults_view c.args.defaults) fs) (SaysImage (g.F.StoreFiles.known c.args.files.now) c.args.options.now list) g.A.Write.contents g.O.Write.contents
    c.args.answers.now c.write.new.answers c.args.out.now c.write.new.out c.write.result
    (says_image (g.F.StoreFiles.known c.args.files.now) c.args.options.now list c.args.declared.now fs made unknown c.in-Ok.ensures.all text is_text (exported_view c.args.config.now) read c.in-Ok.ensures.sources
    (option_map defaults_view c.args.defaults) are_asked)
    (rw (c.as_slice.ensures.value, c.of-telling.ensures) at c.write.ensures)
