use Rattle.std.proofs.Common.{subst}
use Rattle.std.proofs.lemmas.List.Elements.{All-tail}
use Rattle.ifr_nodes.specs.Nodes.{is_store}
use Rattle.ifr_index.specs.code.Tables.{AreOfKind, IsOfKind}
use Rattle.ifr_scopes.proofs.varstore.VarstoresIterator.next.Goals as goal

pub invariant_of-self : goal.invariant_of-self
invariant_of-self c =
    let it = c.args.self.now in
    record {
      checked = it.checked;
      stand = All-tail (IsOfKind is_store it.ifr.now) c.in_ok-place.place.now c.in_ok-place.places.now (subst (AreOfKind is_store it.ifr.now) c.in_ok-place.ensures.cases.0 it.stand);
    }
