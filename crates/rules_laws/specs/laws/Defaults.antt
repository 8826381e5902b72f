-- What contracts say of defaults, in the words of the chapters.
use Rattle.std.specs.Prelude.{◌≡◌, List, option_map, unwrap_or}
use Rattle.browser_rules.specs.Expressions.{value_of}
use Rattle.browser_rules.specs.Nodes.{default_expression, question_id, rules_of}
use Rattle.browser_rules.specs.Questions.{answers}
use Rattle.browser_rules.specs.Stores.{Stores}
use Rattle.browser_rules.specs.Values as rules
use Rattle.ifr_opcodes.specs.Forest.{Node}
use Rattle.ifr_expr.specs.Meaning.{value}
use Rattle.ifr_expr.specs.Values.{undefined}
use Rattle.ifr_nodes.specs.NodeExpressions.{value_tree}
use Rattle.ifr_defaults.specs.Defaults.{Sources}
use Rattle.rules_laws.specs.laws.Opcodes.{value_for}

-- The expression of a DEFAULT of a question has the same value; where it has none, this is the value that is undefined.
abbrev pub HasSameValue : List Node → Stores → Sources → Node → Node → Type 0
HasSameValue ns stores s q d =
    unwrap_or
    (option_map (value_of (rules_of ns) (answers ns stores) (question_id q)) (default_expression d))
    rules.undefined
    ≡ value_for
    (unwrap_or (option_map (value s.rules s.answers (question_id q)) (value_tree d)) undefined)
