use Rattle.std.proofs.Common.{◌+◌, ◌≤◌, length}
use Rattle.ifr_nodes.proofs.RunLemmas.{Stands}
use Rattle.ifr_nodes.proofs.framing.check_framing.Given as goal

abbrev pub invariant-loop-rest : goal.invariant-loop-rest
invariant-loop-rest l = record { stands : Stands l.bytes l.rest l.depth; fits : l.depth ≤ 64; within : length l.rest + 4 ≤ length l.bytes }

abbrev pub decreases-loop-rest : goal.decreases-loop-rest
decreases-loop-rest l = length l.rest
