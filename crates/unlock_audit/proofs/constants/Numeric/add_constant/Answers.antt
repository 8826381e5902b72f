use Rattle.std.proofs.Common.{sym, ap, ◌∙◌, ℤ, rules}
use Rattle.std.proofs.lemmas.Int.{to_z-of_z}
use Rattle.hii_questions.specs.code.Views.{question_view}
use Rattle.unlock_audit.specs.Moves.{near}
use Rattle.unlock_audit.specs.code.Offered.{offered}
use Rattle.unlock_audit.proofs.OfferedLemmas.{constant_held}
use Rattle.unlock_audit.proofs.constants.Numeric.add_constant.Goals as goal
use mir.Syntax.{w128}
use mir.Val.{SFits}

pub returns-in_ok-add_near-2 : goal.returns-in_ok-add_near-2
returns-in_ok-add_near-2 c =
    let q = question_view c.args.self.question in
    let old = c.args.values.now.keys in
    let mid = c.add_near.new.values.keys in
    let first : SFits w128 c.from.result = search rules in
    let second : SFits w128 c.as_read.result = search rules in
    constant_held q old mid c.add_near-then-can_hold.new.values.keys c.args.constant (sym c.can_hold.ensures ∙ c.if-can_hold.true)
    ((simp to_z-of_z at c.in_ok-add_near.ensures) ∙ ap (λ (n : ℤ). offered q old (near n)) c.from.ensures) ((simp to_z-of_z at c.in_ok-add_near-2.ensures) ∙ ap (λ (n : ℤ). offered q mid (near n)) c.as_read.ensures)
