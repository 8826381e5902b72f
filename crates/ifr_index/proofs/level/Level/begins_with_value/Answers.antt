use Rattle.std.proofs.Common.{ap, ◌∙◌}
use Rattle.ifr_nodes.specs.Structure.{innermost}
use Rattle.ifr_index.specs.declared.level.Level.{Level}
use Rattle.ifr_index.proofs.LevelLemmas.{value_there}
use Rattle.ifr_index.proofs.level.Level.begins_with_value.Goals as goal

pub returns-then-place-self : goal.returns-then-place-self
returns-then-place-self c = λ ns path same.
    ap (λ (l : Level). l.value) same ∙ value_there (innermost path) c.args.place (c.if-place-self.true ∙ ap (λ (l : Level). l.inside) same)
