use Rattle.sibt_strings.proofs.EndLemmas.{ends_range}
use Rattle.sibt_strings.proofs.front.extension_head.Goals as goal

pub returns-clause-inside : goal.returns-clause-inside
returns-clause-inside c = ends_range c.args.bytes.now c.args.size
