use Rattle.std.proofs.Common.{refl, length, drop, ap}
use Rattle.std.proofs.lemmas.List.{drop_all, take_rest}
use Rattle.hii_bytes.proofs.WritingLemmas.{Stands-all}
use Rattle.ifr_nodes.specs.Nodes.{nodes_of}
use Rattle.image_audit.proofs.RunLemmas.{none_behind, past_byte}
use Rattle.image_audit.proofs.runs.put_runs.Goals as goal

pub loop-at-preserved : goal.loop-at-preserved
loop-at-preserved g c =
    past_byte c.args.telling (nodes_of c.args.names.now) c.args.store c.loop-at.at c.loop-at.inside _ c.args.one.now c.args.other.now c.loop-at-test.true c.if-at-other.true refl c.loop-at.invariant
    (rw (c.begins_run.ensures, take_rest c.args.one.now c.loop-at.at, take_rest c.args.other.now c.loop-at.at) at c.put_run_where.ensures)

pub returns-else-at-other : goal.returns-else-at-other
returns-else-at-other g c =
    let none = ap length (drop_all c.loop-at.at c.args.other.now c.if-at-other.false) in
    Stands-all _ _ _ _ c.loop-at.invariant (none_behind c.args.telling (nodes_of c.args.names.now) c.args.store c.loop-at.inside c.loop-at.at (drop c.loop-at.at c.args.one.now) _ none)
