use Rattle.std.proofs.Common.{sym, ◌∙◌}
use Rattle.ifr_scopes.specs.code.Lists.{guard_node}
use Rattle.guard_policy.specs.Policy.{hides, hiding}
use Rattle.form_page.specs.code.PageViews.{world_of}
use Rattle.question_audit.proofs.ReasonLemmas.{reason_next, reason_passed}
use Rattle.question_audit.proofs.reason_parts.next_hiding.Goals as goal

pub hides-requires : goal.hides-requires
hides-requires g c = c.in-Some.ensures.of_package ∙ c.loop-guard.invariant.same ∙ c.requires

pub loop-guard-preserved : goal.loop-guard-preserved
loop-guard-preserved g c = record {
  left = reason_passed hiding (hides (world_of c.args.page)) _ _ (guard_node c.in-Some.guard) c.in-Some.ensures.steps (sym c.hides.ensures ∙ c.if-hides.false) ∙ c.loop-guard.invariant.left;
  same = c.in-Some.ensures.kept ∙ c.loop-guard.invariant.same;
}
