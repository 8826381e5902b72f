use Rattle.std.proofs.Common.{◌++◌, codes, drop}
use Rattle.std.specs.List.{flat_map}
use Rattle.hii_bytes.specs.Watching.{pen_of}
use Rattle.hii_bytes.specs.code.Writing.{Stands}
use Rattle.form_page.specs.code.PageViews.{world_of}
use Rattle.report_audit.specs.Counts.{standing_item}
use Rattle.report_audit.proofs.counts.put_counts.Given as goal

-- the counts before those that are left are written
abbrev pub invariant-loop-standing : goal.invariant-loop-standing
invariant-loop-standing g l =
    Stands (pen_of g.W.Write.contents l.fn.out) (pen_of g.W.Write.contents l.out) (codes "<ul class=\"counts\">" ++ flat_map (standing_item (world_of l.page)) l.standing-items)
    (flat_map (standing_item (world_of l.page)) (drop l.standing-index l.standing-items))
