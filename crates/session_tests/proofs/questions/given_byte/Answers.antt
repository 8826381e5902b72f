use Rattle.std.proofs.Common.{subst, sym}
use Rattle.hii_bytes.specs.Faults.{HasNone}
use Rattle.ifr_nodes.specs.Nodes.{nodes_of}
use Rattle.hii_questions.specs.Faults.{IsQuestionFault}
use Rattle.hii_questions.specs.code.Survey.{Survey}
use Rattle.session_tests.proofs.questions.given_byte.Goals as goal

pub give_number-requires-clause-sound : goal.give_number-requires-clause-sound
give_number-requires-clause-sound c = subst (λ (q : Survey). HasNone (IsQuestionFault (nodes_of q.ifr))) (sym c.in_ok-questions.ensures.read) c.in_ok-questions.ensures.sound
