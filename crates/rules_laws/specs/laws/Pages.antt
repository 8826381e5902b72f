-- Stores in which questions answer alike.
use Rattle.std.specs.Prelude.{◌≡◌, List, Some, true, Contains}
use Rattle.browser_rules.specs.Questions as questions
use Rattle.browser_rules.specs.Stores.{Stores}
use Rattle.ifr_opcodes.specs.Forest.{Node}
use Rattle.ifr_nodes.specs.Nodes.{is_question}
use Rattle.hii_varstore.specs.Stores.{StoreMap}
use Rattle.hii_questions.specs.Answers.{answer_of}
use Rattle.rules_laws.specs.laws.Opcodes.{value_for}

-- Over these stores each question answers the same, whatever its id.
abbrev pub EachAnswersAlike : List Node → Stores → StoreMap → Type 0
EachAnswersAlike ns stores held =
    (q : Node) → Contains ns q → is_question q ≡ true
    → questions.answer_of ns stores q ≡ value_for (answer_of ns held (Some q))
