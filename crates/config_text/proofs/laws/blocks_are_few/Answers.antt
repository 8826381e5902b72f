use Rattle.std.proofs.Common.{arith}
use Rattle.config_text.proofs.FewLemmas.{few_areas}
use Rattle.config_text.specs.declared.kind.TextKind.TheVariants.{Tell}
use Rattle.config_text.proofs.laws.blocks_are_few.Goals as goal

pub returns : goal.returns
returns c = let few = few_areas Tell c.args.response.now.elements.now in omega (arith, few, c.size.ensures, c.size.type_inv)
