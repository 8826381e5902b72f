use Rattle.config_text.specs.code.TextViews.{response_view}
use Rattle.config_text.specs.declared.kind.TextKind.TheVariants.{Tell}
use Rattle.config_text.proofs.RuleLemmas.{as_ruled}
use Rattle.config_text.proofs.read.read_response.Goals as goal

pub returns : goal.returns
returns c = as_ruled Tell c.args.text.now response_view c.read.result c.read.ensures
