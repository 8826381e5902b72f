use Rattle.form_page.proofs.FrontLemmas.{none_copied, one_copied}
use Rattle.form_page.proofs.plain.copy_plain.Goals as goal

pub loop-count-init : goal.loop-count-init
loop-count-init c = none_copied _ _

pub loop-count-preserved : goal.loop-count-preserved
loop-count-preserved c = one_copied _ _ _ _ _ _ _ c.loop-count.invariant c.in-Some.ensures c.loop-count-test.true
