use Rattle.ifr_nodes.proofs.InnermostLemmas.{innermost_read}
use Rattle.ifr_nodes.proofs.structure.innermost.Goals as goal

pub returns-in-Some : goal.returns-in-Some
returns-in-Some c =
    innermost_read c.args.bytes.now c.args.places.now c.in-Some.place.now c.op_at.result c.ok.result c.requires c.in-Some.ensures.value c.op_at.ensures.found c.op_at.ensures.accepted c.ok.ensures.value
