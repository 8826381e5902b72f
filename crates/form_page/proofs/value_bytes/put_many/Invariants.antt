use Rattle.std.proofs.Common.{length, map}
use Rattle.hii_bytes.specs.Watching.{pen_of}
use Rattle.ifr_scopes.specs.code.Lists.{statement_node}
use Rattle.hii_values.specs.code.StoredLeft.{stored_left}
use Rattle.form_page.specs.RowValues.{choice, later_text, list_text}
use Rattle.form_page.specs.Texts.{utf8}
use Rattle.form_page.specs.code.Elements.{elements_left}
use Rattle.form_page.specs.code.PageViews.{texts_of, world_of}
use Rattle.form_page.proofs.LineLemmas.{AddsFront}
use Rattle.form_page.proofs.value_bytes.put_many.Given as goal

-- the elements before those that are left were added
abbrev pub invariant-loop-next : goal.invariant-loop-next
invariant-loop-next g l =
    let page = l.elements.page in
    AddsFront (pen_of g.W.Write.contents l.fn.out) (pen_of g.W.Write.contents l.out) l.fn.line l.line (utf8 (list_text (elements_left l.fn.elements)))
    (utf8 (later_text (map (choice (texts_of page) (world_of page) (statement_node l.elements.statement)) (stored_left l.items))))

abbrev pub decreases-loop-next : goal.decreases-loop-next
decreases-loop-next g l = length (stored_left l.items)
