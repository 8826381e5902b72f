-- What the text of a condition stands for.
use Rattle.std.specs.Prelude.{ℕ, List}
use Rattle.ifr_expr.specs.code.Expressions.{tree_of}
use Rattle.condition_text.specs.Senses.{sense}
use Rattle.condition_text.specs.Texts.{text}
use Rattle.condition_text.specs.declared.condition.ConditionText.{ConditionText}

abbrev pub words_of : ConditionText → List ℕ
words_of said = text (sense (tree_of said.expr))
