-- Rules whose opcodes the chapters and the contracts read alike.
use Rattle.std.specs.Prelude.{◌≡◌, true, map}
use Rattle.browser_rules.specs.Nodes.{expression_of}
use Rattle.ifr_opcodes.specs.Forest.{Node}
use Rattle.ifr_expr.specs.Reading.{tree_in}
use Rattle.ifr_expr.specs.Trees.{post}
use Rattle.ifr_nodes.specs.Rules.{is_rule, expression_place}
use Rattle.rules_laws.specs.laws.Opcodes.{mark_for}

-- If it is a rule, the tree of its expression has the opcodes of the expression.
abbrev pub IsWholeRule : Node → Type 0
IsWholeRule n =
    is_rule n ≡ true → map mark_for (post (tree_in (expression_place n) n.children)) ≡ expression_of n
