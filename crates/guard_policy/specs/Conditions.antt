-- Conditions of a form set: which are kept, and on which questions each depends (own rule).
use Rattle.std.specs.Prelude.{ℕ, Bool, ◌==◌, ◌||◌, List}
use Rattle.ifr_opcodes.specs.declared.codes.TheConstants.{SUPPRESS_IF, GRAY_OUT_IF}
use Rattle.ifr_opcodes.specs.Forest.{Node}
use Rattle.ifr_opcodes.specs.Opcode.{number}
use Rattle.ifr_expr.specs.Dependence.{dependence}
use Rattle.ifr_nodes.specs.NodeExpressions.{expression_tree}
use Rattle.ifr_nodes.specs.Nodes.{is_no_submit, this_of}
use Rattle.ifr_nodes.specs.Rules.{rules_among}

-- the conditions that may be kept: those of SUPPRESS_IF, GRAY_OUT_IF and NO_SUBMIT_IF
abbrev pub is_kept : Node → Bool
is_kept n = number n.op == SUPPRESS_IF || number n.op == GRAY_OUT_IF || is_no_submit n

-- the questions on whose answers a condition depends
abbrev pub condition_ids : List Node → Node → List ℕ
condition_ids ns c = dependence (rules_among ns) (this_of c) (expression_tree c)
