use Rattle.std.proofs.Common.{codes, decimal, drop, map}
use Rattle.hii_bytes.specs.Watching.{pen_of}
use Rattle.audit_json.proofs.ArrayLemmas.{Lists}
use Rattle.unlock_audit.proofs.objects.put_ids.Given as goal

-- the ids before those that are left are written
abbrev pub invariant-loop-id : goal.invariant-loop-id
invariant-loop-id g l =
    Lists (codes "asks") (map (λ id. decimal id) l.ids) (map (λ id. decimal id) (drop l.id-index l.ids)) l.is_first (pen_of g.W.Write.contents l.fn.out) (pen_of g.W.Write.contents l.out)
