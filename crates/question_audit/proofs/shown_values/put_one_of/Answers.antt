use Rattle.std.proofs.Common.{subst}
use Rattle.hii_bytes.specs.Watching.{Writes}
use Rattle.hii_bytes.proofs.WritingLemmas.{◌⨾◌}
use Rattle.ifr_scopes.specs.code.Lists.{statement_node}
use Rattle.form_page.specs.RowValues.{choice}
use Rattle.form_page.specs.code.PageViews.{texts_of, world_of}
use Rattle.question_audit.specs.QuestionLines.{unguarded}
use Rattle.question_audit.proofs.ShownLemmas.{escaped_one_of}
use Rattle.question_audit.proofs.shown_values.put_one_of.Goals as goal

pub returns-in-Number : goal.returns-in-Number
returns-in-Number g c =
    let its = choice (texts_of c.args.page) (unguarded (world_of c.args.page)) (statement_node c.args.statement) c.in-Number.number in
    rw c.in-Number.is (subst (Writes _ _) (escaped_one_of c.args.how its) (c.put.ensures ⨾ c.put_choice.ensures ⨾ c.put-in-Number.ensures))
