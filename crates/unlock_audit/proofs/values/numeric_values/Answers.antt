use Rattle.std.proofs.Common.{ap, ◌∙◌, rules}
use Rattle.std.proofs.lemmas.Int.{to_z-of_z}
use Rattle.ifr_opcodes.specs.Fields.{numeric_maximum, numeric_minimum}
use Rattle.hii_questions.specs.code.Views.{question_view}
use Rattle.unlock_audit.specs.Moves.{as_read}
use Rattle.unlock_audit.proofs.OfferedLemmas.{all_offered}
use Rattle.unlock_audit.proofs.values.numeric_values.Goals as goal
use mir.Syntax.{w128}
use mir.Val.{SFits}

pub returns : goal.returns
returns c =
    let q = question_view c.args.question in
    let low : SFits w128 c.as_read.result = search rules in
    let high : SFits w128 c.as_read-2.result = search rules in
    all_offered q c.new-values.result.keys c.add.new.values.keys c.add-2.new.values.keys c.add_constants.new.values.keys c.as_read.result c.as_read-2.result _ c.new-values.ensures.empty (simp to_z-of_z at c.in_ok-add.ensures) (simp to_z-of_z at c.in_ok-add-2.ensures) c.in_ok-add_constants.ensures (c.as_read.ensures ∙ ap (as_read q.node) (c.minimum.ensures ∙ ap numeric_minimum c.requires)) (c.as_read-2.ensures ∙ ap (as_read q.node) (c.maximum.ensures ∙ ap numeric_maximum c.requires))
