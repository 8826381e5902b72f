use Rattle.std.proofs.Common.{◌≡◌, rules}
use Rattle.hii_bytes.specs.Faults.{IsLeast}
use Rattle.hii_bytes.specs.declared.cause.Cause.TheVariants.{OutOfMemory}
use Rattle.ifr_nodes.specs.Nodes.{nodes_of}
use Rattle.hii_questions.specs.Faults.{IsQuestionFault}
use Rattle.package_faults.proofs.AllLemmas.{some_told}
use Rattle.check_audit.proofs.RefusalLemmas.{all_questions, browsable_no_fault, least_of, told_all}
use Rattle.check_audit.proofs.verdict.Verdict.over_layout.Goals as goal
use Rattle.check_audit.proofs.verdict.Verdict.over_layout.Goals.{In-Err-2}

-- the least fault of the questions
least : (c : In-Err-2) → IsLeast (IsQuestionFault (nodes_of c.args.forms)) c.in-Err-2.field-0
least c =
    let other : c.in-Err-2.field-0.cause ≡ OutOfMemory → ⊥ = search rules in
    least_of (IsQuestionFault (nodes_of c.args.forms)) c.in-Err-2.field-0 c.in-Err-2.ensures.refused other

pub of-requires : goal.of-requires
of-requires c = some_told (IsQuestionFault (nodes_of c.args.forms)) _ _ _ c.in_ok-faults-in-Err-2.ensures (least (goal.at.of-requires c).In-Err-2).told

pub returns-clause-found : goal.returns-clause-found
returns-clause-found c =
    told_all c.args.forms c.of.result _ c.requires.accepted.checked (all_questions c.args.forms _ c.requires.accepted c.requires.sound c.in_ok-faults-in-Err-2.ensures) c.of.ensures

pub returns-in-Ok-clause-found : goal.returns-in-Ok-clause-found
returns-in-Ok-clause-found c = (browsable_no_fault c.args.forms (record { accepted = c.requires.accepted; stores = c.requires.sound; questions = c.in-Ok.ensures.sound }), c.in_ok-good-in-Ok.ensures.counted, c.in_ok-good-in-Ok.ensures.warned)
