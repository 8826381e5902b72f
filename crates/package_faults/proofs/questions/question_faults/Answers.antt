use Rattle.std.proofs.Common.{List, subst, sym}
use Rattle.std.proofs.lemmas.Result.{IfOk-weaker}
use Rattle.hii_bytes.specs.declared.cause.Fault.{Fault}
use Rattle.ifr_nodes.specs.Nodes.{nodes_of}
use Rattle.hii_questions.specs.Faults.{IsQuestionFault}
use Rattle.package_faults.specs.AllFaults.{AreAll}
use Rattle.package_faults.proofs.QuestionLemmas.{all_questions}
use Rattle.package_faults.proofs.questions.question_faults.Goals as goal

pub returns : goal.returns
returns c =
    IfOk-weaker c.faults_of_all.result _ _ (λ faults made.
    subst (λ (l : List Fault). AreAll (IsQuestionFault (nodes_of c.args.forms.now)) l) (sym made) (all_questions c.args.forms.now c.bytes-accepted.ensures.accepted)) c.faults_of_all.ensures
