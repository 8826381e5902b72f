use Rattle.std.proofs.Common.{ap, ◌∙◌}
use Rattle.ifr_opcodes.specs.Rows.{is_operator}
use Rattle.ifr_nodes.specs.Structure.{innermost}
use Rattle.ifr_index.specs.declared.level.Level.{Level}
use Rattle.ifr_index.proofs.LevelLemmas.{operates}
use Rattle.ifr_index.proofs.level.Level.is_operator_scope.Goals as goal

pub returns : goal.returns
returns c = λ ns path same. c.is_operator.ensures ∙ ap (λ (l : Level). is_operator l.code) same ∙ operates (innermost path)
