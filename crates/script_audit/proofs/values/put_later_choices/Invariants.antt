use Rattle.std.proofs.Common.{length}
use Rattle.hii_bytes.specs.Watching.{pen_of}
use Rattle.hii_bytes.specs.code.Writing.{Stands}
use Rattle.ifr_scopes.specs.code.Lists.{statement_node}
use Rattle.hii_values.specs.code.StoredLeft.{stored_left}
use Rattle.form_page.specs.RowValues.{later_text}
use Rattle.form_page.specs.code.PageViews.{texts_of, world_of}
use Rattle.question_audit.specs.QuestionLines.{unguarded}
use Rattle.question_audit.specs.code.Choices.{choices}
use Rattle.script_audit.specs.Told.{spelled}
use Rattle.script_audit.proofs.values.put_later_choices.Given as goal

-- the options of the elements before those that are left were written
abbrev pub invariant-loop-item : goal.invariant-loop-item
invariant-loop-item g l =
    let told = choices (texts_of l.fn.page) (unguarded (world_of l.fn.page)) (statement_node l.fn.statement) in
    Stands (pen_of g.W.Write.contents l.fn.out) (pen_of g.W.Write.contents l.out) (spelled l.telling (later_text (told (stored_left l.fn.items)))) (spelled l.telling (later_text (told (stored_left l.items))))

abbrev pub decreases-loop-item : goal.decreases-loop-item
decreases-loop-item g l = length (stored_left l.items)
