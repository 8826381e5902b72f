use Rattle.std.proofs.Common.{Some, subst}
use Rattle.std.specs.Prelude.{OnErr, OnOk}
use Rattle.hii_bytes.specs.Watching.{Writes, pen_of}
use Rattle.ifr_scopes.specs.code.Lists.{form_node}
use Rattle.hii_questions.specs.Fields.{Asked}
use Rattle.question_audit.specs.code.Pages.{audited}
use Rattle.question_audit.specs.code.Beginnings.{Begins}
use Rattle.question_objects.specs.Objects.{question_members}
use Rattle.question_objects.specs.declared.detail.Detail.TheVariants.{Listed}
use Rattle.question_objects.proofs.form_sets.put_listed_members.Goals as goal

pub returns-clause-told : goal.returns-clause-told
returns-clause-told g c =
    subst
    (λ (q : Asked). OnOk c.put_members.result (Writes (pen_of g.W.Write.contents c.args.out.now) (pen_of g.W.Write.contents c.put_members.new.out) (question_members Listed (audited c.args.page) c.args.package_place (Some (form_node c.args.form)) q)))
    c.requires.asked c.put_members.ensures.told

pub returns-clause-begun : goal.returns-clause-begun
returns-clause-begun g c =
    subst
    (λ (q : Asked). OnErr c.put_members.result (Begins (pen_of g.W.Write.contents c.args.out.now) (pen_of g.W.Write.contents c.put_members.new.out) (question_members Listed (audited c.args.page) c.args.package_place (Some (form_node c.args.form)) q)))
    c.requires.asked c.put_members.ensures.begun
