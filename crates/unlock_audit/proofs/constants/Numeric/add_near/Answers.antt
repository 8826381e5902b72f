use Rattle.std.proofs.Common.{[], ◌∷◌, rules}
use Rattle.std.specs.Prelude.{◌+ℤ◌, ◌-ℤ◌, pos}
use Rattle.std.proofs.lemmas.Int.{to_z-of_z}
use Rattle.hii_questions.specs.code.Views.{question_view}
use Rattle.unlock_audit.proofs.AskingLemmas.{on_ok}
use Rattle.unlock_audit.proofs.OfferedLemmas.{offered_more}
use Rattle.unlock_audit.proofs.constants.Numeric.add_near.Goals as goal
use mir.Syntax.{w128}
use mir.Val.{SFits}

pub returns : goal.returns
returns c =
    let q = question_view c.args.self.question in
    let n = c.args.number in
    let old = c.args.values.now.keys in
    let one = c.add.new.values.keys in
    let two = c.add-2.new.values.keys in
    let here : SFits w128 n = search rules in
    let below : SFits w128 (n -ℤ pos 1) = search rules in
    let above : SFits w128 (n +ℤ pos 1) = search rules in
    on_ok c.add-3.result
    (λ h. offered_more q old two c.add-3.new.values.keys ((n -ℤ pos 1) ∷ n ∷ []) ((n +ℤ pos 1) ∷ [])
    (offered_more q old one two ((n -ℤ pos 1) ∷ []) (n ∷ []) (simp to_z-of_z at c.in_ok-add.ensures) (simp to_z-of_z at c.in_ok-add-2.ensures)) h)
    (simp to_z-of_z at c.add-3.ensures)
