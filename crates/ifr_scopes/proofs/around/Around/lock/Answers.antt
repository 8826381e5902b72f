use Rattle.std.proofs.Common.{Some, ap, sym, subst, ◌∙◌}
use Rattle.std.specs.Prelude.{option_map}
use Rattle.std.proofs.lemmas.Bool.{and_parts}
use Rattle.ifr_opcodes.specs.Forest.{Node}
use Rattle.ifr_nodes.specs.Locks.{is_locked}
use Rattle.ifr_nodes.specs.code.Checked.{node_in}
use Rattle.ifr_scopes.specs.code.Locked.{IsLockedPlace}
use Rattle.ifr_scopes.proofs.around.Around.lock.Goals as goal

pub node_at-requires-clause-there : goal.node_at-requires-clause-there
node_at-requires-clause-there c =
    let ifr = c.args.self.guards.ifr.now in
    (and_parts _ _ (subst (IsLockedPlace ifr) c.in_ok-place.was c.args.self.locked)).0

pub invariant_of-result : goal.invariant_of-result
invariant_of-result c =
    let ifr = c.args.self.guards.ifr.now in
    record { locked = ap is_locked c.node_at.ensures.node ∙ (and_parts _ _ (subst (IsLockedPlace ifr) c.in_ok-place.was c.args.self.locked)).1 }

pub returns : goal.returns
returns c = ap (λ (n : Node). Some n) c.node_at.ensures.node ∙ ap (option_map (node_in c.args.self.guards.ifr.now)) (sym c.in_ok-place.was)
