-- On which questions the value of an expression depends (UEFI 2.8, 33.2.5.7 Expressions; that a reference to a rule depends on
-- what the rule depends on follows from how rules are found, an own rule).
use Rattle.std.specs.Prelude.{ℕ, ◌==◌, if◌then◌else◌, List, [], ◌∷◌}
use Rattle.std.specs.List.{flat_map}
use Rattle.ifr_opcodes.specs.declared.codes.TheConstants.{RULE_REF, THIS}
use Rattle.ifr_opcodes.specs.Opcode.{number}
use Rattle.ifr_opcodes.specs.Fields.{rule_ref_rule}
use Rattle.ifr_opcodes.specs.Forest.{Mark}
use Rattle.ifr_expr.specs.Meaning.{Rule, names}
use Rattle.ifr_expr.specs.Support.{ids_of}
use Rattle.ifr_expr.specs.Trees.{Tree, post}

-- the question in whose scope an opcode stands, if there is one
abbrev pub own : ℕ → List ℕ
own this = if this == 0 then [] else this ∷ []

-- the questions on whose answers an opcode depends, by those of the rules of an id for a place, and the question in whose
-- scope it stands
abbrev pub ids_behind : (ℕ → ℕ → List ℕ) → ℕ → Mark → List ℕ
ids_behind rules this op =
    if number op.op == RULE_REF then rules (rule_ref_rule op.op) op.place
    else if number op.op == THIS then own this
    else ids_of op.op

-- the questions on whose answers the opcodes of a tree depend
abbrev pub ids_over : (ℕ → ℕ → List ℕ) → ℕ → Tree → List ℕ
ids_over rules this tree = flat_map (ids_behind rules this) (post tree)

-- the questions on whose answers the rules of an id depend for a place, where the latest rule stands first: those of the
-- first that is named, over the rules before it
unfoldable pub rule_ids : List Rule → ℕ → ℕ → List ℕ
rule_ids [] id place = []
rule_ids (r ∷ earlier) id place =
    if names id place r then ids_over (rule_ids earlier) 0 r.tree
    else rule_ids earlier id place

-- the questions on whose answers the value of a tree depends, over rules of which the latest stands first
abbrev pub dependence : List Rule → ℕ → Tree → List ℕ
dependence rules this tree = ids_over (rule_ids rules) this tree
