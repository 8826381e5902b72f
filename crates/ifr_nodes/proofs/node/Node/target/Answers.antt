use Rattle.std.proofs.Common.{ap, ◌∙◌}
use Rattle.std.proofs.lemmas.Bool.{eq-eqb}
use Rattle.ifr_opcodes.specs.declared.codes.TheConstants.{REF}
use Rattle.ifr_opcodes.specs.Opcode.{number}
use Rattle.ifr_nodes.proofs.NodeFactLemmas.{has_fields}
use Rattle.ifr_nodes.proofs.node.Node.target.Goals as goal

pub invariant_of-target : goal.invariant_of-target
invariant_of-target c =
    let view = c.args.self in
    let has = has_fields _ _ _ REF view.checked view.stands (eq-eqb _ REF (ap number view.stands.opcode ∙ c.if-self-eq-REF.true)) in
    record { coded = has.coded; sized = has.sized }
