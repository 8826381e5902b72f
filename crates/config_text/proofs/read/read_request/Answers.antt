use Rattle.config_text.specs.code.TextViews.{request_view}
use Rattle.config_text.specs.declared.kind.TextKind.TheVariants.{Ask}
use Rattle.config_text.proofs.RuleLemmas.{as_ruled}
use Rattle.config_text.proofs.read.read_request.Goals as goal

pub returns : goal.returns
returns c = as_ruled Ask c.args.text.now request_view c.read.result c.read.ensures
