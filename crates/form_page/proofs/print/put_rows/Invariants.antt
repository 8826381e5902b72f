use Rattle.std.proofs.Common.{◌≡◌, ◌+◌, ◌<◌, ◌^◌, length}
use Rattle.std.specs.List.{flat_map}
use Rattle.hii_bytes.specs.Watching.{pen_of}
use Rattle.form_page.specs.Pages.{row_text, rows_from}
use Rattle.form_page.specs.code.ListedViews.{all_left}
use Rattle.form_page.specs.code.PageViews.{texts_of, world_of}
use Rattle.form_page.specs.code.Views.{rows_left}
use Rattle.form_page.proofs.LineLemmas.{GathersFront}
use Rattle.form_page.proofs.StatementLemmas.{listed_among}
use Rattle.form_page.proofs.print.put_rows.Given as goal

-- the rows before those that are left were gathered
abbrev pub invariant-loop-statement : goal.invariant-loop-statement
invariant-loop-statement g l =
    let its = l.fn.rows.listed.page in
    let left = listed_among (world_of its) (all_left l.rows.0) in
    record {
      page : l.page ≡ its;
      same : l.rows.0.page ≡ its;
      few : l.rows.1.0 + length left < 2 ^ 32;
      gathered : GathersFront (pen_of g.W.Write.contents l.fn.out) (pen_of g.W.Write.contents l.out) l.line (flat_map row_text (rows_left l.fn.rows))
          (flat_map row_text (rows_from (texts_of its) (world_of its) its.stores.now l.rows.1.0 left));
    }

abbrev pub decreases-loop-statement : goal.decreases-loop-statement
decreases-loop-statement g l = length (all_left l.rows.0)
