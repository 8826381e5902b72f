use Rattle.ifr_opcodes.specs.declared.codes.TheConstants.{RULE}
use Rattle.ifr_nodes.proofs.NodeFactLemmas.{has_fields}
use Rattle.ifr_nodes.proofs.node.Node.rule.Goals as goal

pub invariant_of-result : goal.invariant_of-result
invariant_of-result c =
    let has = has_fields _ _ _ RULE c.args.self.checked c.args.self.stands c.requires in
    record { coded = has.coded; sized = has.sized }
