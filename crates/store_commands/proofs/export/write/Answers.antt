use Rattle.std.proofs.Common.{◌∙◌, ap, refl, sym}
use Rattle.std.specs.Option.{option_copied}
use Rattle.ifr_nodes.specs.Nodes.{nodes_of}
use Rattle.store_commands.specs.Saying.{no_store_told}
use Rattle.store_commands.specs.code.Exporting.{SaysStore}
use Rattle.audit_answers.proofs.EndingLemmas.{tells_refused}
use Rattle.store_commands.proofs.ExportingLemmas.{writes_store}
use Rattle.store_commands.proofs.export.write.Goals as goal

pub returns-in-Some : goal.returns-in-Some
returns-in-Some g c =
    writes_store c.args.telling g.A.Write.contents g.O.Write.contents (nodes_of c.args.forms.now) c.args.stores.now c.args.id c.in-Some.bytes.now c.args.answers.now c.put_store.new.out c.args.out.now
    c.put_store.new.file c.commit.new.out c.commit.result (sym c.bytes.ensures ∙ ap option_copied c.in-Some.is) c.put_store.ensures.told c.put_store.ensures.held
    c.put_store.ensures.none_held c.commit.ensures.unwritten c.commit.ensures.written

pub returns-in-None : goal.returns-in-None
returns-in-None g c =
    let none = sym c.bytes.ensures ∙ ap option_copied c.in-None.is in
    tells_refused (SaysStore c.args.telling (nodes_of c.args.forms.now) c.args.stores.now c.args.id) g.A.Write.contents g.O.Write.contents c.args.answers.now c.refuse_store.new.answers c.args.out.now c.args.out.now
    c.refuse_store.ensures.0 c.refuse_store.result (no_store_told c.args.telling c.args.id) (none, refl) c.refuse_store.ensures.1 c.refuse_store.ensures.2 refl
