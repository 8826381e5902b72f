use Rattle.audit_json.specs.Telling.{asked}
use Rattle.std.proofs.Common.{[], refl}
use Rattle.std.specs.Io.Buffered.{writer_contents}
use Rattle.store_commands.specs.Storing.{SaysStores}
use Rattle.audit_answers.specs.declared.ended.Ended.TheVariants.{Done}
use Rattle.audit_answers.proofs.EndingLemmas.{is_refusal, none_written, tells, tells_refusal}
use Rattle.store_commands.proofs.stores.tell_of.Goals as goal

pub returns-in-Ok : goal.returns-in-Ok
returns-in-Ok g c =
    let told = c.in-Ok.ensures.told in
    tells (SaysStores (asked c.args.options.json) c.args.options.headers c.args.list.now c.args.options.list.forms) g.A.Write.contents c.args.answers.now c.finish.new.answers _ Done c.finish.result _
    (told.0, told.1, refl) told.2 c.finish.ensures

pub returns-in-Err : goal.returns-in-Err
returns-in-Err g c =
    let none = none_written (writer_contents g.A.Write.contents) c.args.answers.now c.put_lines.new.out c.in-Err.ensures.nothing in
    tells_refusal (asked c.args.options.json) (SaysStores (asked c.args.options.json) c.args.options.headers c.args.list.now c.args.options.list.forms) g.A.Write.contents c.args.answers.now c.put_lines.new.out c.refuse.new.answers c.in-Err.fault
    c.refuse.result (λ other. ([], none, is_refusal (asked c.args.options.json) _ c.in-Err.fault c.in-Err.ensures.refused other)) (λ memory. ([], none, refl)) (rw c.of.ensures at c.refuse.ensures)
