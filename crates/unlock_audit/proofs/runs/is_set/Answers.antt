use Rattle.std.proofs.Common.{ap, rules, ◌∙◌}
use Rattle.std.proofs.lemmas.Int.{to_z-of_z}
use mir.Syntax.{w128}
use mir.Val.{SFits}
use Rattle.session_steps.specs.Step.{step}
use Rattle.unlock_audit.specs.Moves.{command}
use Rattle.unlock_audit.specs.Tries.{discarded}
use Rattle.unlock_audit.proofs.RunLemmas.{left_is, set_keeps}
use Rattle.unlock_audit.proofs.runs.is_set.Goals as goal

pub returns : goal.returns
returns c =
    let s = c.args.browser.now.state in
    let fits : SFits w128 c.args.each.value = search rules in
    let answered = (simp to_z-of_z at c.carries_out.ensures.answered) in
    let state = (simp to_z-of_z at c.carries_out.ensures.state) in
    record {
      left = left_is (step s (command c.args.each)) c.carries_out.new.browser.state c.carries_out.result answered state;
      back = ap discarded state ∙ set_keeps s c.args.each;
    }
