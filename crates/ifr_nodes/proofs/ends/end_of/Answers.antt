use Rattle.std.proofs.Common.{arith}
use Rattle.ifr_nodes.proofs.EndLemmas.{end_within}
use Rattle.ifr_nodes.proofs.ends.end_of.Goals as goal

pub overflow_cast-result : goal.overflow_cast-result
overflow_cast-result c = omega (arith, c.end_index.ensures, end_within c.args.bytes.now c.args.place c.requires.spelled c.requires.there, c.requires.small)
