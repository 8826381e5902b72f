use Rattle.std.proofs.Common.{subst, sym}
use Rattle.ifr_nodes.specs.Nodes.{nodes_of}
use Rattle.hii_varstore.specs.Layout.{Shape}
use Rattle.hii_varstore.specs.code.Ranges.{HasRange}
use Rattle.hii_questions.specs.code.Checks.{range_of}
use Rattle.hii_questions.specs.code.Views.{question_view}
use Rattle.hii_questions.proofs.LawLemmas.{range_found}
use Rattle.session_tests.proofs.questions.give_number.Goals as goal

pub put-requires : goal.put-requires
put-requires c =
    let new = range_of c.in_ok-check_value.field-0 in
    subst (λ (s : Shape). HasRange s new.store new.offset new.width) (sym c.requires.laid)
    (range_found (nodes_of c.args.questions.now.ifr) c.args.id (question_view c.in-Some.question) new c.requires.sound c.in-Some.ensures c.in_ok-check_value.ensures.given.1)
