use Rattle.std.proofs.Common.{subst, sym}
use Rattle.std.proofs.lemmas.Result.{IfOk-weaker}
use Rattle.ifr_nodes.specs.Nodes.{nodes_of}
use Rattle.hii_bytes.specs.declared.cause.Fault.{Fault}
use Rattle.std.proofs.Common.{List}
use Rattle.hii_varstore.specs.StoreNodes.{IsStoreFault}
use Rattle.package_faults.specs.AllFaults.{AreAll}
use Rattle.package_faults.proofs.StoreLemmas.{all_stores}
use Rattle.package_faults.proofs.stores.store_faults.Goals as goal

pub returns : goal.returns
returns c =
    IfOk-weaker c.repeated_among.result _ _ (λ faults made.
    subst (λ (l : List Fault). AreAll (IsStoreFault (nodes_of c.args.forms.now)) l) (sym made) (all_stores c.args.forms.now _ c.stores.ensures.accepted c.stores.ensures.stores)) c.repeated_among.ensures
