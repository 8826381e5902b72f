use Rattle.config_text.specs.code.Views.{block_view}
use Rattle.config_text.proofs.StepLemmas.{Behind-start, Behind-more}
use Rattle.config_text.proofs.elements.check_elements.Goals as goal

pub loop-rest-init : goal.loop-rest-init
loop-rest-init c = Behind-start c.args.kind c.args.text.now

pub loop-rest-preserved : goal.loop-rest-preserved
loop-rest-preserved c =
    Behind-more c.args.kind c.args.text.now c.loop-rest.rest.now c.in_ok-behind.behind.now (block_view c.in_ok-behind.field-0-0) c.loop-rest.invariant c.in_ok-behind.ensures.read
