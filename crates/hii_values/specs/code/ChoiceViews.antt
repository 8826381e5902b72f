-- What the options of the code stand for.
use Rattle.std.specs.Prelude.{◌≡◌, ℕ, List, ⊤}
use Rattle.ifr_opcodes.specs.Forest.{Node}
use Rattle.ifr_scopes.specs.code.Lists.{statement_node}
use Rattle.ifr_nodes.specs.Nodes.{options}
use Rattle.ifr_nodes.specs.code.Checked.{IsNodeOf}
use Rattle.hii_values.specs.Types.{option_values}
use Rattle.hii_values.specs.declared.choices.Choices.{Choices}
use Rattle.hii_values.specs.declared.field_type.FieldType.{FieldType}
use Rattle.hii_values.specs.declared.field_type.FieldType.TheVariants.{OneOf}

-- the values of the options
abbrev pub choice_values : Choices → List ℕ
choice_values choices = option_values (options (statement_node choices.question))

-- The one number that a field holds is chosen from the options of this question.
abbrev pub Asks : Node → FieldType → Type 0
Asks q (OneOf t) = statement_node t.choices.question ≡ q
Asks q t = ⊤

-- It is chosen from the options of a question of this package.
abbrev pub AsksIn : List ℕ → FieldType → Type 0
AsksIn bytes (OneOf t) = IsNodeOf bytes (statement_node t.choices.question)
AsksIn bytes t = ⊤
