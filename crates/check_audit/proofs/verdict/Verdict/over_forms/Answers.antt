use Rattle.std.proofs.Common.{◌≡◌, rules}
use Rattle.hii_bytes.specs.Faults.{IsLeast}
use Rattle.hii_bytes.specs.declared.cause.Cause.TheVariants.{OutOfMemory}
use Rattle.ifr_nodes.specs.Nodes.{nodes_of}
use Rattle.hii_varstore.specs.StoreNodes.{IsStoreFault}
use Rattle.package_faults.proofs.AllLemmas.{some_told}
use Rattle.check_audit.proofs.RefusalLemmas.{all_stores, least_of, told_all}
use Rattle.check_audit.proofs.verdict.Verdict.over_forms.Goals as goal
use Rattle.check_audit.proofs.verdict.Verdict.over_forms.Goals.{In-Err-2}

-- the least fault of the stores
least : (c : In-Err-2) → IsLeast (IsStoreFault (nodes_of c.args.forms)) c.in-Err-2.field-0
least c =
    let other : c.in-Err-2.field-0.cause ≡ OutOfMemory → ⊥ = search rules in
    least_of (IsStoreFault (nodes_of c.args.forms)) c.in-Err-2.field-0 c.in-Err-2.ensures.refused other

pub of-requires : goal.of-requires
of-requires c = some_told (IsStoreFault (nodes_of c.args.forms)) _ _ _ c.in_ok-faults-in-Err-2.ensures (least (goal.at.of-requires c).In-Err-2).told

pub returns-clause-found : goal.returns-clause-found
returns-clause-found c =
    told_all c.args.forms c.of.result _ c.requires.checked
    (all_stores c.args.forms _ _ _ c.requires (least (goal.at.returns-clause-found c).In-Err-2).told c.in_ok-faults-in-Err-2.ensures) c.of.ensures
