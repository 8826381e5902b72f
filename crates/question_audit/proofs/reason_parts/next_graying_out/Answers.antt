use Rattle.std.proofs.Common.{sym, ◌∙◌}
use Rattle.ifr_scopes.specs.code.Lists.{guard_node}
use Rattle.hii_values.specs.declared.denial.DenialKind.TheVariants.{GrayOutIf}
use Rattle.guard_policy.specs.Policy.{denied_by, grays_out}
use Rattle.form_page.specs.code.PageViews.{world_of}
use Rattle.question_audit.proofs.ReasonLemmas.{reason_next, reason_passed}
use Rattle.question_audit.proofs.reason_parts.next_graying_out.Goals as goal

pub grays_out-requires : goal.grays_out-requires
grays_out-requires g c = c.in-Some.ensures.of_package ∙ c.loop-guard.invariant.same ∙ c.requires

pub loop-guard-preserved : goal.loop-guard-preserved
loop-guard-preserved g c = record {
  left = reason_passed (denied_by GrayOutIf) (grays_out (world_of c.args.page)) _ _ (guard_node c.in-Some.guard) c.in-Some.ensures.steps (sym c.grays_out.ensures ∙ c.if-grays_out.false) ∙ c.loop-guard.invariant.left;
  same = c.in-Some.ensures.kept ∙ c.loop-guard.invariant.same;
}
