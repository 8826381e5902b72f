use Rattle.std.proofs.Common.{length}
use Rattle.std.specs.List.{flat_map}
use Rattle.hii_bytes.specs.Watching.{pen_of}
use Rattle.hii_bytes.specs.code.Writing.{Stands}
use Rattle.ifr_scopes.specs.code.Lists.{statement_node}
use Rattle.question_audit.specs.code.Pages.{audited}
use Rattle.question_audit.specs.Dependences.{depends_fact, depends_facts}
use Rattle.question_audit.proofs.depends_facts.put_depends.Given as goal

-- those of the ids before those that are left were written
abbrev pub invariant-loop-id : goal.invariant-loop-id
invariant-loop-id g l =
    let a = audited l.page in
    Stands (pen_of g.W.Write.contents l.fn.out) (pen_of g.W.Write.contents l.out) (depends_facts l.when a (statement_node l.statement)) (flat_map (depends_fact l.when a) l.left)

abbrev pub decreases-loop-id : goal.decreases-loop-id
decreases-loop-id g l = length l.left
