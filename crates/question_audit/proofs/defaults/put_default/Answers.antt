use Rattle.std.proofs.Common.{subst, sym, ◌∙◌}
use Rattle.hii_bytes.specs.Watching.{Writes}
use Rattle.hii_bytes.proofs.WritingLemmas.{writes_nil}
use Rattle.hii_questions.specs.code.Views.{question_node, question_view}
use Rattle.form_page.proofs.WholeTexts.{whole_texts}
use Rattle.question_audit.specs.code.Pages.{audited}
use Rattle.question_audit.proofs.TakingLemmas.{no_default}
use Rattle.question_audit.proofs.defaults.put_default.Goals as goal

pub put_script_value-requires : goal.put_script_value-requires
put_script_value-requires g c = λ units e.
    whole_texts c.take_default.new.spare (question_node c.args.question) (question_view c.args.question).field units (sym c.read_value-value.ensures ∙ e)

pub returns-in_default-clause-text : goal.returns-in_default-clause-text
returns-in_default-clause-text g c =
    subst (Writes _ _) (no_default (audited c.args.page) (question_view c.args.question) c.args.class c.args.before.now c.in_default.ensures.0) (writes_nil _)
