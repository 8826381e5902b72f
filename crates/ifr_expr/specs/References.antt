-- The rules that an expression names (UEFI 2.8, 33.3.8.3, EFI_IFR_RULE_REF).
use Rattle.std.specs.Prelude.{◌==◌, if◌then◌else◌, List, [], ◌∷◌, ◌++◌}
use Rattle.ifr_opcodes.specs.declared.codes.TheConstants.{RULE_REF}
use Rattle.ifr_opcodes.specs.Opcode.{number}
use Rattle.ifr_opcodes.specs.Fields.{rule_ref_rule}
use Rattle.ifr_opcodes.specs.Forest.{Mark}
use Rattle.ifr_expr.specs.Trees.{Tree, post}
use Rattle.ifr_expr.specs.declared.references.RuleReference.{RuleReference}

-- an opcode as a reference to a rule, if it is one
abbrev pub references_of : Mark → List RuleReference
references_of op =
    if number op.op == RULE_REF
    then record { id = rule_ref_rule op.op; place = op.place } ∷ [] else []

-- the references of several opcodes, by place
abbrev pub references_among : List Mark → List RuleReference
references_among [] = []
references_among (op ∷ ops) = references_of op ++ references_among ops

-- the references of an expression, by place
abbrev pub references : Tree → List RuleReference
references tree = references_among (post tree)
