use Rattle.ifr_opcodes.specs.declared.codes.TheConstants.{DEFAULT}
use Rattle.ifr_nodes.proofs.NodeFactLemmas.{has_fields, past_front, default_known}
use Rattle.ifr_nodes.proofs.node.Node.default.Goals as goal

pub invariant_of-result : goal.invariant_of-result
invariant_of-result c =
    let has = has_fields _ _ _ DEFAULT c.args.self.checked c.args.self.stands c.requires in
    record { coded = has.coded; sized = past_front 5 _ _ has.sized; known = default_known _ _ _ c.args.self.checked c.args.self.stands c.requires }
