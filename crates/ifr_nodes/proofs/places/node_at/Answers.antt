use Rattle.std.proofs.Common.{ap}
use Rattle.ifr_opcodes.specs.Forest.{Mark}
use Rattle.ifr_nodes.specs.code.Checked.{node_in}
use Rattle.ifr_nodes.proofs.ViewLemmas.{stands_whole, stands_so}
use Rattle.ifr_nodes.proofs.places.node_at.Goals as goal

pub op_there-op-requires : goal.op_there-op-requires
op_there-op-requires c = stands_whole c.args.ifr.now c.args.place c.requires.checked.spelled c.requires.there

pub invariant_of-result : goal.invariant_of-result
invariant_of-result c =
    record { checked = c.requires.checked; stands = stands_so c.args.ifr.now c.args.place c.op_there-op.result.place _ c.requires.checked.spelled c.requires.there c.op_there-op.ensures }

pub returns-clause-node : goal.returns-clause-node
returns-clause-node c = ap (λ (m : Mark). node_in c.args.ifr.now m.place) c.op_there-op.ensures
