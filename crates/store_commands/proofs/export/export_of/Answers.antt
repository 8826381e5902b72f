use Rattle.std.proofs.Common.{inl, refl}
use Rattle.ifr_nodes.specs.Nodes.{nodes_of}
use Rattle.store_commands.specs.Exporting.{SaysExport}
use Rattle.store_commands.specs.code.Exporting.{SaysStore}
use Rattle.audit_answers.proofs.EndingLemmas.{is_refusal, tells_and_writes_as, tells_fault}
use Rattle.store_commands.proofs.ExportingLemmas.{says_export}
use Rattle.store_commands.proofs.export.export_of.Goals as goal

pub returns-in-Ok : goal.returns-in-Ok
returns-in-Ok g c =
    let imaged = c.in-Ok.imaged in
    tells_and_writes_as (SaysStore c.args.telling (nodes_of imaged.declared) imaged.stores c.args.id) (SaysExport c.args.telling c.args.list.now c.args.forms c.args.image.now c.args.id) g.A.Write.contents g.O.Write.contents
    c.args.answers.now c.write.new.answers c.args.out.now c.write.new.out c.write.result
    (says_export c.args.telling c.args.list.now c.args.forms c.args.image.now imaged.declared imaged.stores c.args.id c.in-Ok.ensures.imaged) (rw c.forms-forms.ensures at c.write.ensures)

pub returns-in-Err : goal.returns-in-Err
returns-in-Err g c =
    tells_fault c.args.telling (SaysExport c.args.telling c.args.list.now c.args.forms c.args.image.now c.args.id) g.A.Write.contents g.O.Write.contents c.args.answers.now c.refuse.new.answers c.args.out.now c.args.out.now
    c.in-Err.fault c.refuse.result (λ other. inl (is_refusal c.args.telling _ c.in-Err.fault c.in-Err.ensures.refused other)) (λ memory. refl) c.refuse.ensures refl
