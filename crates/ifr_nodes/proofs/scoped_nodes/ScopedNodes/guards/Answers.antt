use Rattle.std.proofs.Common.{sym, ◌∙◌, ap, subst, map, take}
use Rattle.ifr_opcodes.specs.code.Marks.{ancestor_at}
use Rattle.ifr_nodes.specs.code.Scopes.{AreScopes}
use Rattle.ifr_nodes.proofs.ScopeLemmas.{around_node}
use Rattle.ifr_nodes.proofs.scoped_nodes.ScopedNodes.guards.Goals as goal

pub guards_among-requires-clause-scopes : goal.guards_among-requires-clause-scopes
guards_among-requires-clause-scopes c =
    let node = c.args.met.now.node in
    let its = take c.args.met.now.depth c.args.self.now.walk.around.items in
    let scopes = around_node node.ifr.now node.op.place _ its node.checked node.stands (c.requires.path ∙ ap (λ b. map (ancestor_at b) its) (sym c.requires.of_package)) in
    rw c.around.ensures.around (subst (λ b. AreScopes b its) (c.requires.of_package ∙ sym c.bytes.ensures) scopes)
