-- What the rules of a checked package are like.
use Rattle.std.specs.Prelude.{◌≡◌, ◌≤◌, ◌<◌, ℕ, true, ◌==◌, List, [], ◌∷◌, filter, ⊤}
use Rattle.std.specs.List.{AllByRecursion}
use Rattle.hii_bytes.specs.Faults.{HasNone}
use Rattle.ifr_opcodes.specs.declared.codes.TheConstants.{RULE}
use Rattle.ifr_opcodes.specs.Opcode.{number}
use Rattle.ifr_opcodes.specs.Rows.{is_operator}
use Rattle.ifr_opcodes.specs.Forest.{Forest, none, node, Ancestor, Node}
use Rattle.ifr_expr.specs.Faults.{IsExpressionFault}
use Rattle.ifr_expr.specs.Trees.{expression}
use Rattle.ifr_nodes.specs.Nodes.{end_of}
use Rattle.ifr_nodes.specs.Rules.{expression_place, forms_among, form_end}

-- A rule has an expression without fault and nothing beside it, and stands in one form and in no rule.
pub record IsRuleNode (n : Node) : Type 0 where
  pub op : List ℕ
  pub inner : Forest
  pub children : n.children ≡ node op inner none
  pub operator : is_operator (number op) ≡ true
  pub sound : HasNone (IsExpressionFault (expression_place n)
      (expression (expression_place n) op inner))
  pub form : Ancestor
  pub forms : forms_among n.path ≡ form ∷ []
  pub outermost : filter (λ a. number a.op == RULE) n.path ≡ []

-- Rules, of which the latest stands first, end one after the other, and so do their forms.
abbrev pub Descend : List Node → Type 0
Descend [] = ⊤
Descend (n ∷ earlier) =
    AllByRecursion (λ q. (end_of q < end_of n) × (form_end q.path ≤ form_end n.path)) earlier
    × Descend earlier
