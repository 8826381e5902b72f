use Rattle.std.proofs.Common.{◌∙◌, ap, length, subst, sym}
use Rattle.hii_bytes.specs.Numbers.{AreBytes}
use Rattle.ifr_scopes.specs.code.Lists.{store_node}
use Rattle.store_audit.specs.HeaderLines.{naming}
use Rattle.store_audit.proofs.HeaderLemmas.{reads_back}
use Rattle.store_audit.proofs.header_lines.put_header_told.Goals as goal

pub returns-in-Lines-clause-text : goal.returns-in-Lines-clause-text
returns-in-Lines-clause-text g c = rw c.in-Lines.is c.put_header_line.ensures

pub returns-in-Objects-clause-text : goal.returns-in-Objects-clause-text
returns-in-Objects-clause-text g c = rw c.in-Objects.is c.put_header_object.ensures

pub returns-in-Lines-clause-read_back : goal.returns-in-Lines-clause-read_back
returns-in-Lines-clause-read_back g c =
    let guid = c.bytes.ensures.same ∙ c.guid.ensures in
    reads_back (naming c.args.path.now (store_node c.args.store)) (subst AreBytes guid c.are_bytes.ensures) (ap length (sym guid) ∙ c.bytes.ensures.sized) (subst AreBytes c.name.ensures c.are_bytes-2.ensures)
    c.are_bytes-3.ensures

pub returns-in-Objects-clause-read_back : goal.returns-in-Objects-clause-read_back
returns-in-Objects-clause-read_back g c =
    let guid = c.bytes.ensures.same ∙ c.guid.ensures in
    reads_back (naming c.args.path.now (store_node c.args.store)) (subst AreBytes guid c.are_bytes.ensures) (ap length (sym guid) ∙ c.bytes.ensures.sized) (subst AreBytes c.name.ensures c.are_bytes-2.ensures)
    c.are_bytes-3.ensures
