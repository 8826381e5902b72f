-- The questions of a package are asked of its nodes.
use Rattle.std.proofs.Common.{◌≡◌, List, [], ◌∷◌, ℕ, map, refl}
use Rattle.std.specs.Prelude.{filter}
use Rattle.std.specs.List.{AllByRecursion}
use Rattle.std.proofs.lemmas.List.Elements.{All-filter}
use Rattle.ifr_opcodes.specs.Forest.{Node, SpellsForest}
use Rattle.ifr_opcodes.specs.Reading.{tree_of}
use Rattle.ifr_nodes.specs.Nodes.{is_question, nodes_of}
use Rattle.ifr_nodes.specs.code.Checked.{AreNodesOf, IsNodeOf}
use Rattle.ifr_nodes.proofs.ScopeLemmas.{all_nodes}
use Rattle.hii_questions.specs.Fields.{Asked, asked, questions}
use Rattle.guard_policy.proofs.OptionLemmas.{first_of, rest_of}

-- A question is a node of a package, with its field there.
abbrev pub IsAskedOf : List ℕ → Asked → Type 0
IsAskedOf bytes q = IsNodeOf bytes q.node × (q ≡ asked (nodes_of bytes) q.node)

all_asked : (bytes : List ℕ) (ns : List Node) → AreNodesOf bytes ns → AllByRecursion (IsAskedOf bytes) (map (asked (nodes_of bytes)) ns)
all_asked bytes [] all = tt
all_asked bytes (n ∷ ns) all = ((first_of bytes (n ∷ ns) n ns refl all, refl), all_asked bytes ns (rest_of bytes (n ∷ ns) n ns refl all))

pub questions_are_asked : (bytes : List ℕ) → SpellsForest bytes (tree_of bytes) → AllByRecursion (IsAskedOf bytes) (questions (nodes_of bytes))
questions_are_asked bytes spelled = all_asked bytes (filter is_question (nodes_of bytes)) (All-filter is_question (IsNodeOf bytes) (nodes_of bytes) (all_nodes bytes spelled))
