use Rattle.ifr_opcodes.specs.declared.codes.TheConstants.{ONE_OF_OPTION}
use Rattle.ifr_nodes.proofs.NodeFactLemmas.{has_fields, past_front, option_numeric}
use Rattle.ifr_nodes.proofs.node.Node.option.Goals as goal

pub invariant_of-result : goal.invariant_of-result
invariant_of-result c =
    let has = has_fields _ _ _ ONE_OF_OPTION c.args.self.checked c.args.self.stands c.requires in
    record { coded = has.coded; sized = past_front 6 _ _ has.sized; numeric = option_numeric _ _ _ c.args.self.checked c.args.self.stands c.requires }
