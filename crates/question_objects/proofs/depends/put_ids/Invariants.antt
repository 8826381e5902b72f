use Rattle.std.proofs.Common.{decimal, length, map}
use Rattle.hii_bytes.specs.Watching.{pen_of}
use Rattle.audit_json.proofs.ArrayLemmas.{Lists}
use Rattle.question_objects.proofs.depends.put_ids.Given as goal

-- the ids before those that are left were written
abbrev pub invariant-loop-id : goal.invariant-loop-id
invariant-loop-id g l = Lists l.key (map decimal l.ids.keys) (map decimal l.left) l.is_first (pen_of g.W.Write.contents l.fn.out) (pen_of g.W.Write.contents l.out)

abbrev pub decreases-loop-id : goal.decreases-loop-id
decreases-loop-id g l = length l.left
