use Rattle.std.proofs.Common.{length}
use Rattle.hii_bytes.specs.Watching.{pen_of}
use Rattle.hii_bytes.specs.code.Writing.{Stands}
use Rattle.ifr_nodes.specs.Nodes.{nodes_of}
use Rattle.guard_policy.specs.code.Views.{bytes_of}
use Rattle.question_rows.specs.Referring.{linked, linked_from}
use Rattle.question_rows.proofs.referring.put_linked.Given as goal

-- the bytes before those that are left were written
abbrev pub invariant-loop-rest : goal.invariant-loop-rest
invariant-loop-rest g l =
    let ns = nodes_of (bytes_of l.page.policy) in
    Stands (pen_of g.W.Write.contents l.fn.out) (pen_of g.W.Write.contents l.out) (linked ns l.words) (linked_from ns l.left l.rest)

abbrev pub decreases-loop-rest : goal.decreases-loop-rest
decreases-loop-rest g l = length l.rest
