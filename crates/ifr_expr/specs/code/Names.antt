-- What the opcodes of an expression name: questions by their ids, the one in whose scope it stands, and rules (UEFI 2.8,
-- 33.3.8.3 Opcode Reference, under the name of each).
use Rattle.std.specs.Prelude.{◌==◌, if◌then◌else◌, List, [], ◌∷◌, map}
use Rattle.std.specs.List.{flat_map}
use Rattle.ifr_opcodes.specs.declared.codes.TheConstants.{RULE_REF, THIS}
use Rattle.ifr_opcodes.specs.Opcode.{number}
use Rattle.ifr_opcodes.specs.Fields.{rule_ref_rule}
use Rattle.ifr_opcodes.specs.Forest.{Mark}
use Rattle.ifr_expr.specs.Support.{ids_of}
use Rattle.ifr_expr.specs.Trees.{Tree, post}
use Rattle.ifr_expr.specs.declared.names.Name.{Name}
use Rattle.ifr_expr.specs.declared.names.Name.TheVariants.{Question, This, Rule}

-- what an opcode names, in its order
abbrev pub names_of : Mark → List Name
names_of op =
    if number op.op == RULE_REF
    then Rule (record { id = rule_ref_rule op.op; place = op.place }) ∷ []
    else if number op.op == THIS then This ∷ []
    else map Question (ids_of op.op)

-- what opcodes name, by place
abbrev pub names_among : List Mark → List Name
names_among ops = flat_map names_of ops

-- what a tree names
abbrev pub names_in : Tree → List Name
names_in tree = names_among (post tree)
