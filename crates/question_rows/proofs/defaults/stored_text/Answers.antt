use Rattle.hii_questions.specs.code.Views.{question_node, question_view}
use Rattle.std.proofs.Common.{sym, ◌∙◌}
use Rattle.form_page.proofs.WholeTexts.{whole_texts}
use Rattle.question_rows.proofs.defaults.stored_text.Goals as goal

pub script_text-requires : goal.script_text-requires
script_text-requires g c = λ units e.
    whole_texts c.stores.result.now (question_node c.args.question) (question_view c.args.question).field units (sym c.read_value.ensures ∙ e)

pub returns : goal.returns
returns g c = rw (c.statement.ensures, c.read_value.ensures, c.stores.ensures) at c.script_text.ensures
