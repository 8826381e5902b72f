use Rattle.std.proofs.Common.{◌≡◌, ℕ, ap, arith}
use Rattle.ifr_nodes.specs.Nodes.{nodes_of}
use Rattle.kept_conditions.specs.Kept.{KeptMap, counted}
use Rattle.kept_conditions.specs.Touching.{difference, renewals}
use Rattle.kept_conditions.proofs.WithinLemmas.{none_renewed}
use Rattle.kept_conditions.proofs.laws.the_same_stores_renew_nothing.Goals as goal

pub returns : goal.returns
returns c =
    let it : KeptMap = c.args.stores.now in
    let same : counted it.renewed (renewals (nodes_of it.ifr) (difference it.stores it.stores)) ≡ it.renewed =
    omega (arith, none_renewed (nodes_of it.ifr) it.stores, c.renewed.ensures, c.renewed.type_inv) in
    ap (λ (n : ℕ). record it { renewed = n }) same
