use Rattle.std.proofs.Common.{◌≡◌, ◌&&◌, not, sym, ap, ◌∙◌, ℕ}
use Rattle.std.specs.Prelude.{is_none, is_ok}
use Rattle.ifr_opcodes.specs.Fields.{option_value}
use Rattle.ifr_scopes.specs.code.Parts.{option_node}
use Rattle.hii_values.specs.code.MetValues.{is_met, is_sought}
use Rattle.guard_policy.specs.Policy.{fixed}
use Rattle.guard_policy.specs.code.Views.{world_by}
use Rattle.guard_policy.proofs.ClosedLemmas.{not_free, not_lacked}
use Rattle.guard_policy.proofs.DenialLemmas.{allowed}
use Rattle.guard_policy.proofs.policy.Policy.meet_open.Goals as goal
use Rattle.guard_policy.proofs.policy.Policy.meet_open.Goals.{else-lacks-via-then-lacks+else-is_ok, else-lacks-via-else-lacks}

pub returns-else-lacks-clause-met : goal.returns-else-lacks-clause-met
returns-else-lacks-clause-met g c v =
    let w0 = world_by c.args.self.now (g.V.Verdicts.met c.args.verdicts.now) in
    let o = option_node c.args.option in
    let s = c.args.met.now in
    let told : c.value-value.result ≡ option_value o.op = c.value-value.ensures ∙ ap option_value c.op.ensures.bytes in
    elim c.else-lacks.branch [
      | else-lacks-via-then-lacks+else-is_ok w ↦
          not_free s (option_value o.op) v (is_none (fixed w0 o)) (sym (allowed (fixed w0 o)) ∙ sym (ap is_ok w.option_selectable.ensures.fixed) ∙ sym w.if-is_ok.ensures.value)
      | else-lacks-via-else-lacks w ↦
          not_lacked s (option_value o.op) v (is_none (fixed w0 o)) (ap (λ (n : ℕ). is_sought s n && not (is_met s n)) (sym told) ∙ sym c.lacks.ensures ∙ w.if-lacks.false)
    ]
