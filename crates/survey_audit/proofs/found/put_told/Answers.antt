use Rattle.std.proofs.Common.{◌≡◌, ap, subst, sym}
use Rattle.std.proofs.lemmas.Result.{on_err_weaker, on_ok_weaker}
use Rattle.condition_text.proofs.WriteLemmas.{written_as}
use Rattle.ifr_opcodes.specs.Forest.{Node}
use Rattle.ifr_scopes.specs.code.Lists.{form_node}
use Rattle.hii_questions.specs.code.Views.{question_node}
use Rattle.audit_json.specs.Telling.{told_as}
use Rattle.audit_json.specs.declared.telling.Telling.{Telling}
use Rattle.audit_json.specs.declared.telling.Telling.TheVariants.{Lines, Objects}
use Rattle.question_audit.specs.Audited.{Audited}
use Rattle.question_audit.specs.code.Pages.{audited}
use Rattle.question_audit.specs.code.Beginnings.{Begins}
use Rattle.survey_audit.specs.Lines.{Heading}
use Rattle.survey_audit.specs.Opened.{found_line, found_object, found_told}
use Rattle.survey_audit.specs.code.Headings.{heading_of}
use Rattle.survey_audit.proofs.found.put_told.Goals as goal

as_line : (h : Heading) (a : Audited) (form n : Node) → h.telling ≡ Lines → found_line h a n ≡ found_told h a form n
as_line h a form n is = ap (λ (t : Telling). told_as t (found_line h a n) (found_object h a form n)) (sym is)

as_object : (h : Heading) (a : Audited) (form n : Node) → h.telling ≡ Objects → found_object h a form n ≡ found_told h a form n
as_object h a form n is = ap (λ (t : Telling). told_as t (found_line h a n) (found_object h a form n)) (sym is)

pub returns-in-Lines-clause-told : goal.returns-in-Lines-clause-told
returns-in-Lines-clause-told g c =
    written_as c.put_line.ensures.text (as_line (heading_of c.args.heading) (audited c.args.page) (form_node c.args.form) (question_node c.args.question) c.in-Lines.is)

pub returns-in-Objects-clause-told : goal.returns-in-Objects-clause-told
returns-in-Objects-clause-told g c =
    let same = as_object (heading_of c.args.heading) (audited c.args.page) (form_node c.args.form) (question_node c.args.question) c.in-Objects.is in
    on_ok_weaker c.put_object.result (λ told. written_as told same) c.put_object.ensures.told

pub returns-in-Objects-clause-begun : goal.returns-in-Objects-clause-begun
returns-in-Objects-clause-begun g c =
    let same = as_object (heading_of c.args.heading) (audited c.args.page) (form_node c.args.form) (question_node c.args.question) c.in-Objects.is in
    on_err_weaker c.put_object.result (λ begun. subst (Begins _ _) same begun) c.put_object.ensures.begun
