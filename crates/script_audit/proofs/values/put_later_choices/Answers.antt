use Rattle.hii_bytes.proofs.WritingLemmas.{Stands-start, ◌⨾◌, past_piece}
use Rattle.ifr_scopes.specs.code.Lists.{statement_node}
use Rattle.form_page.specs.RowValues.{choice}
use Rattle.form_page.specs.code.PageViews.{texts_of, world_of}
use Rattle.question_audit.specs.QuestionLines.{unguarded}
use Rattle.script_audit.proofs.ValueLemmas.{spelled_later}
use Rattle.script_audit.proofs.values.put_later_choices.Goals as goal

pub loop-item-init : goal.loop-item-init
loop-item-init g c = Stands-start _ _

pub loop-item-preserved : goal.loop-item-preserved
loop-item-preserved g c =
    let told = choice (texts_of c.args.page) (unguarded (world_of c.args.page)) (statement_node c.args.statement) in
    past_piece _ _ _ _ _ _ _ (spelled_later c.args.telling told _ _ _ c.in-Some.ensures) c.loop-item.invariant (c.put.ensures ⨾ c.put_choice.ensures)
