use Rattle.std.proofs.Common.{rules}
use Rattle.config_text.specs.code.Elements.{parts_behind}
use Rattle.config_text.proofs.PartLemmas.{behind_some}
use Rattle.config_text.proofs.StepLemmas.{areas_lack_offset}
use Rattle.config_text.proofs.elements.split_offset.Goals as goal

pub returns-in_default-clause-read : goal.returns-in_default-clause-read
returns-in_default-clause-read c = λ kind. areas_lack_offset kind (parts_behind c.args.text.now) (search rules) (behind_some c.args.text.now c.requires)
