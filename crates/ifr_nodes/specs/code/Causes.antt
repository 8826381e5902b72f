-- The causes of faults of nodes, by their numbers.
use Rattle.std.specs.Prelude.{List, [], ◌∷◌, Option}
use Rattle.hii_bytes.specs.declared.cause.Cause.{Cause}
use Rattle.hii_bytes.specs.declared.cause.Cause.TheVariants.{DuplicateForm, DuplicateQuestion, NoForm, RuleTooLarge, NotFormSet, AfterFormSet, OpOutside, OpSize, Misplaced, ScopeBit, ExprShape}
use Rattle.hii_bytes.specs.code.FirstFaults.{first_cause}
use Rattle.ifr_opcodes.specs.Forest.{Node}
use Rattle.ifr_nodes.specs.Structure.{has_structure_fault}

-- the causes by their numbers
abbrev pub reference_causes : List Cause
reference_causes = DuplicateForm ∷ DuplicateQuestion ∷ NoForm ∷ RuleTooLarge ∷ []

-- the causes by their numbers, and the first of them that a node has
abbrev pub structure_causes : List Cause
structure_causes =
    NotFormSet ∷ AfterFormSet ∷ OpOutside ∷ OpSize ∷ Misplaced ∷ ScopeBit ∷ ExprShape ∷ []

abbrev pub least_cause : Node → Option Cause
least_cause n = first_cause has_structure_fault n structure_causes
