use Rattle.ifr_nodes.specs.Nodes.{nodes_of}
use Rattle.ifr_nodes.specs.ReferenceFaults.{IsReferenceFault}
use Rattle.package_faults.proofs.AllLemmas.{some_told}
use Rattle.check_audit.specs.declared.verdict.Refusal.{Refusal}
use Rattle.check_audit.proofs.RefusalLemmas.{all_references, of_references, told_all, told_alone}
use Rattle.check_audit.proofs.verdict.Refusal.by_nodes.Goals as goal

pub of-requires : goal.of-requires
of-requires c =
    let ifr = c.args.source.bytes.now in
    let checked = c.is_checked.ensures.is c.if-is_checked.true in
    some_told (IsReferenceFault (nodes_of ifr)) _ _ _ c.in_ok-faults.ensures (of_references ifr _ _ checked c.requires.told)

pub returns-then-is_checked : goal.returns-then-is_checked
returns-then-is_checked c =
    let ifr = c.args.source.bytes.now in
    let checked = c.is_checked.ensures.is c.if-is_checked.true in
    told_all ifr c.of.result _ checked (all_references ifr _ _ _ checked c.requires.told c.in_ok-faults.ensures) c.of.ensures

pub returns : goal.returns
returns c =
    let alone : Refusal = record { fault = c.args.fault; others = c.new.result } in
    told_alone c.args.source.bytes.now alone (c.is_checked.ensures.not c.if-is_checked.false) c.requires c.new.ensures.items
